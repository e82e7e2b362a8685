use Rattle.std.proofs.Common.{length, sym, ap, ◌∙◌, arith}
use Rattle.std.specs.{Prelude.{slice_get}, Option.{option_map}}
use Rattle.sect_lemmas.proofs.Options.{some_injective}
use Rattle.sect_names.specs.{declared.link.Link.{Link}, declared.lock.Lock.{Lock}}
use Rattle.sect_check.proofs.Claimed.{length_linked, lock_at}
use Rattle.sect_check.proofs.claimed_links.ClaimedLinks.is_one.Goals as goal

pub is_one-requires : goal.is_one-requires
is_one-requires c = record {
  index = omega (
    arith,
    c.self.invariant,
    ap length c.self.view_is,
    length_linked c.self.inside.nodes.items c.self.inside.locks c.self.invariant,
  );
  other = omega (
    arith,
    c.self.invariant,
    ap length c.self.view_is,
    length_linked c.self.inside.nodes.items c.self.inside.locks c.self.invariant,
  );
}

pub returns : goal.returns
returns c = λ same a b at_a at_b.
    let ns = c.self.inside.nodes.items in
    let ls = c.self.inside.locks in
    let lock : Link → Lock = λ x. x.lock in
    some_injective a.lock b.lock (
    ap (option_map lock) (sym at_a) ∙ ap (λ xs. option_map lock (slice_get xs c.args.index)) (sym c.self.view_is)
    ∙ lock_at ns ls c.args.index c.self.invariant ∙ c.is_one.ensures same
    ∙ sym (lock_at ns ls c.args.other c.self.invariant)
    ∙ ap (λ xs. option_map lock (slice_get xs c.args.other)) c.self.view_is ∙ ap (option_map lock) at_b
    )

use Rattle.std.proofs.{Common.{◌<◌, ◌∙◌, length, refl, sym, ap, arith}, lemmas.Option.{slice_get_read}}
use Rattle.std.specs.Prelude.{slice_get}
use Rattle.sect_check.proofs.Claimed.{length_linked, link_at}
use Rattle.sect_check.proofs.claimed_links.ClaimedLinks.at.Goals as goal

pub index-requires : goal.index-requires
index-requires c = omega (
  arith,
  c.self.inside.nodes.ok.0,
  ap length c.self.view_is,
  length_linked c.self.inside.nodes.items c.self.inside.locks c.self.invariant,
)

pub at-requires : goal.at-requires
at-requires c = omega (
  arith,
  c.self.invariant,
  ap length c.self.view_is,
  length_linked c.self.inside.nodes.items c.self.inside.locks c.self.invariant,
)

pub returns : goal.returns
returns c =
    let ns = c.self.inside.nodes.items in
    let below : c.args.index < length ns =
    omega (arith, ap length c.self.view_is, length_linked ns c.self.inside.locks c.self.invariant) in
    ap (λ xs. slice_get xs c.args.index) (sym c.self.view_is)
    ∙ link_at ns c.self.inside.locks c.args.index c.index.result.now c.at.result.now
    (slice_get_read ns (length ns) c.args.index c.index.result.now refl below c.index.ensures) c.at.ensures

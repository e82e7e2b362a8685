use Rattle.std.proofs.{Common.{◌≡◌, ◌∙◌, Some, sym, ap, subst, nat_eq}, lemmas.Bool.Decides.{Decides-eqb}}
use Rattle.std.specs.Cmp.Lexicographic.{pointwise, pointwise_decides}
use Rattle.sect_cert.proofs.KnownLemmas.{read_more}
use Rattle.sect_cert.specs.steps.{Known.{AreRead}, Subjects.{path_of}}
use Rattle.sect_cert.proofs.known_paths.KnownPaths.new_path.Goals as goal

pub invariant_of-self-2 : goal.invariant_of-self-2
invariant_of-self-2 c =
    let key = c.in_ok-from_slice.field-0 in
    let known = c.in_ok-known.known in
    let is : path_of key.items ≡ Some known =
    ap path_of c.in_ok-from_slice.ensures.items ∙ c.in_ok-path_of.ensures
    ∙ ap Some (sym (c.in_ok-known.ensures ∙ c.in_ok-path.ensures)) in
    subst AreRead (sym c.in_ok-insert.ensures.entries)
    (read_more (λ v w. pointwise nat_eq v.items w.items)
    (λ v w e. sym ((pointwise_decides Decides-eqb v.items w.items).0 e)) c.self.inside.paths.entries key known
    c.self.invariant is)

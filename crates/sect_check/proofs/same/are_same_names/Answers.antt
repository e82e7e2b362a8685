use Rattle.std.proofs.{Common.{refl}, lemmas.Bool.Decides.{Decides-eqb}, lemmas.Slice.Eq.{slice_eq-Decides}}
use Rattle.std.specs.{Prelude.{nat_eq}, Cmp.Lexicographic.{pointwise}}
use Rattle.sect_check.proofs.same.are_same_names.Goals as goal

pub returns : goal.returns
returns c = (slice_eq-Decides (λ a b. slice_eq-Decides Decides-eqb a b (pointwise nat_eq a b) refl)
    c.args.names.now c.args.others.now c.eq.result c.eq.ensures).0

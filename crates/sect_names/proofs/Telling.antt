-- The comparisons of paths and locks tell which are one.
use Rattle.std.proofs.Common.{◌≡◌, Bool, true, false, sym, ◌∙◌, true≢false}
use Rattle.sect_points.specs.declared.holders.Variable.{Variable}
use Rattle.sect_points.specs.contracts.holders.VariablePartialEq.TheImpl.{ghosts as the_variable_eq}
use Rattle.sect_names.proofs.shared.Telling.{variable_tells}

pub same_variable : (v w : Variable) (b : Bool) → b ≡ the_variable_eq.eq v w → b ≡ true → v ≡ w
same_variable v w b e t = (variable_tells v w).0 (sym e ∙ t)

pub other_variable : (v w : Variable) (b : Bool) → b ≡ the_variable_eq.eq v w → b ≡ false → v ≡ w → ⊥
other_variable v w b e f s = true≢false (sym ((variable_tells v w).1 s) ∙ sym e ∙ f)

-- Paths, and the sites whose objects they may denote.
use Rattle.std.specs.{Prelude.{◌≡◌, ℕ, List, [], ◌∷◌, ◌++◌}, Coded.{Coded, code_by, coded×, coded_list}}
use Rattle.std.proofs.Common.{refl, ap, ◌∙◌}
use Rattle.sect_types.specs.declared.expansion.action.Field.{Field}
use Rattle.sect_points.specs.declared.holders.Variable.{Variable}
use Rattle.sect_points.specs.{declared.holders.Variable.TheVariants.{Global, Local}, Flow.{Family}}
use Rattle.sect_types.specs.contracts.expansion.action.Field as field
use Rattle.sect_points.specs.declared.holders.Holder.TheVariants as holder
use Rattle.sect_points.specs.contracts.holders.Variable as variable

-- a variable, or a shorter path and one more field
pub data PathView : Type 0 where
  var : Variable → PathView
  dot : PathView → Field → PathView

-- the path that goes on by these fields, the first to be followed first
abbrev pub dots : PathView → List Field → PathView
dots p [] = p
dots p (f ∷ fs) = dots (dot p f) fs

abbrev pub path_of : Variable → List Field → PathView
path_of v fs = dots (var v) fs

abbrev pub base_of : PathView → Variable
base_of (var v) = v
base_of (dot p f) = base_of p

abbrev pub fields_of : PathView → List Field
fields_of (var v) = []
fields_of (dot p f) = fields_of p ++ f ∷ []

pub dots-push : (p : PathView) (fs : List Field) (f : Field) → dots p (fs ++ f ∷ []) ≡ dot (dots p fs) f
dots-push p [] f = refl
dots-push p (g ∷ fs) f = dots-push (dot p g) fs f

pub path_of-fields : (p : PathView) → path_of (base_of p) (fields_of p) ≡ p
path_of-fields (var v) = refl
path_of-fields (dot p f) = dots-push (var (base_of p)) (fields_of p) f ∙ ap (λ q. dot q f) (path_of-fields p)

abbrev pub path_code : Coded PathView
path_code =
    code_by (Variable × List Field) (coded× variable.the_row.coded (coded_list field.the_row.coded))
    (λ p. (base_of p, fields_of p)) (λ c. path_of c.0 c.1) path_of-fields

-- the sites of a variable: those of a local's set, and a global itself
abbrev pub VariableHas : Family → Variable → ℕ → Type 0
VariableHas F (Global g) s = s ≡ g
VariableHas F (Local t x) s = F (holder.Local t x) s

-- the sites of a path: its variable's, then field by field those of the field of each site
abbrev pub PathHas : Family → PathView → ℕ → Type 0
PathHas F (var v) s = VariableHas F v s
PathHas F (dot p f) s = (o : ℕ) × PathHas F p o × F (holder.Slot o f.number) s

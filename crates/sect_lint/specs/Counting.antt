-- How many arguments a call has, and how many parameters the procedure.
use Rattle.std.specs.Prelude.{ℕ, Bool, List, ◌∷◌, Option, Some, None, length, nat_eq, position}
use Rattle.std.specs.Cmp.Lexicographic.{pointwise}
use Rattle.sect_front.specs.{declared.span.Span.{Span}, declared.token.Token.{Token}}
use Rattle.sect_front.specs.declared.tree.Procedure.{Procedure}
use Rattle.sect_types.specs.Rules.{procedure_at}
use Rattle.sect_places.specs.Openings.{values_in}
use Rattle.sect_lint.specs.declared.diagnostic.Detail.{Detail}
use Rattle.sect_front.specs.declared.token.Token.TheVariants as token
use Rattle.sect_lint.specs.declared.diagnostic.Detail.TheVariants as detail

abbrev pub has_name : List ℕ → Procedure → Bool
has_name f p = pointwise nat_eq p.name f

-- the first procedure of a name
abbrev pub called_at : List Procedure → List ℕ → Option ℕ
called_at ps f = position (has_name f) ps

abbrev pub parameters_by : Option Procedure → Option ℕ
parameters_by None = None
parameters_by (Some p) = Some (length p.parameters)

abbrev pub parameters_of : List Procedure → List ℕ → Option ℕ
parameters_of ps f = parameters_by (procedure_at ps (called_at ps f))

abbrev pub counts_by : Span → ℕ → Option ℕ → Detail
counts_by at n None = detail.Nothing
counts_by at n (Some m) = detail.Counts (record { procedure = at; arguments = n; parameters = m })

-- what is told of a call, by its tokens and their bytes: the values behind the name are its arguments
abbrev pub counts_detail : List Procedure → List Token → List Span → Detail
counts_detail ps (keyword ∷ token.Name f ∷ rest) (word ∷ at ∷ spans) =
    counts_by at (values_in rest) (parameters_of ps f)
counts_detail ps _ _ = detail.Nothing

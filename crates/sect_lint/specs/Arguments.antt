-- Which argument of a call has another type than its parameter.
use Rattle.std.specs.Prelude.{ℕ, Bool, true, false, if◌then◌else◌, List, [], ◌∷◌, Option, Some, None, nat_eq, slice_get}
use Rattle.std.specs.{Prelude.{drop}, Cmp.Lexicographic.{pointwise}}
use Rattle.sect_front.specs.{declared.span.Span.{Span}, declared.token.Token.{Token}, declared.tree.Kind.{Kind}}
use Rattle.sect_front.specs.{declared.tree.Declaration.{Declaration}, declared.tree.Procedure.{Procedure}}
use Rattle.sect_types.specs.{Rules.{procedure_at}, Kinds.{is_reference}}
use Rattle.sect_places.specs.{declared.name_use.NameSpan.{NameSpan}, Declarations.{procedure_of}}
use Rattle.sect_lint.specs.{declared.diagnostic.Typed.{Typed}, declared.diagnostic.Detail.{Detail}}
use Rattle.sect_lint.specs.{declared.arguments.Call.{Call}, Naming.{found, variable, type_by}}
use Rattle.sect_lint.specs.{Typing.{shape_of, variable_in, value_shape, typed_by, types_detail, two}, Forms.{form_of}}
use Rattle.sect_lint.specs.{declared.form.Form.{Form}, Counting.{called_at}}
use Rattle.sect_front.specs.declared.token.Token.TheVariants as token
use Rattle.sect_front.specs.declared.tree.Kind.TheVariants as kind
use Rattle.sect_lint.specs.declared.diagnostic.Detail.TheVariants as detail
use Rattle.sect_lint.specs.declared.form.Form.TheVariants as form

-- a parameter of that type takes what refers to objects of that record, or an integer, where none is given
abbrev pub takes : Kind → Option (List ℕ) → Bool
takes kind.Int None = true
takes kind.Int (Some r) = false
takes (kind.Record r) None = false
takes (kind.Record r) (Some s) = pointwise nat_eq r s

-- it takes this value
abbrev pub fits : List NameSpan → ℕ → Kind → Token → Bool
fits names item k (token.Number v) = takes k None
fits names item k token.Null = is_reference k
fits names item k (token.Name x) = takes k (type_by names (variable_in names item x))
fits names item k _ = true

-- a parameter, with its type
abbrev pub parameter_by : List NameSpan → Option NameSpan → Option Typed
parameter_by names None = None
parameter_by names (Some d) = Some (record { span = d.span; shape = shape_of names d })

-- that a parameter doesn't take a value, with both, or what is told of later ones
abbrev pub unless_fits : List NameSpan → Call → Declaration → Option Token → Option Span → Detail → Detail
unless_fits names c d None a later = detail.Nothing
unless_fits names c d (Some v) None later = detail.Nothing
unless_fits names c d (Some v) (Some a) later =
    if fits names c.item d.kind v then later
    else two (typed_by (Some a) (value_shape names c.item v)) (parameter_by names (variable names c.procedure d.name))

-- the first argument that its parameter doesn't take, and the parameter: the arguments and what stands behind each
abbrev pub differing : List NameSpan → Call → List Declaration → List Token → List Span → Detail
differing names c [] ts ss = detail.Nothing
differing names c (d ∷ ds) ts ss =
    unless_fits names c d (slice_get ts 0) (slice_get ss 0) (differing names c ds (drop 2 ts) (drop 2 ss))

-- a call of the procedure that is declared there
abbrev pub call_by : ℕ → Option NameSpan → Option Call
call_by item None = None
call_by item (Some n) = Some (record { item = item; procedure = n.used.item })

abbrev pub call_of : List NameSpan → ℕ → List ℕ → Option Call
call_of names item f = call_by item (found names (procedure_of names f))

abbrev pub called_by : List NameSpan → Option Call → List Declaration → List Token → List Span → Detail
called_by names None ds ts ss = detail.Nothing
called_by names (Some c) ds ts ss = differing names c ds ts ss

abbrev pub parameters_by : Option Procedure → List Declaration
parameters_by None = []
parameters_by (Some p) = p.parameters

-- the parameters of the first procedure of a name
abbrev pub parameters_in : List Procedure → List ℕ → List Declaration
parameters_in ps f = parameters_by (procedure_at ps (called_at ps f))

-- what is told of a call, by its tokens: an argument and its parameter
abbrev pub called_detail : List Procedure → List NameSpan → ℕ → List Token → List Span → Detail
called_detail ps names item (keyword ∷ token.Name f ∷ paren ∷ ts) (word ∷ at ∷ behind ∷ ss) =
    called_by names (call_of names item f) (parameters_in ps f) ts ss
called_detail ps names item _ _ = detail.Nothing

abbrev pub mistyped_by : List Procedure → List NameSpan → ℕ → List Token → List Span → Form → Detail
mistyped_by ps names item ts ss form.Call = called_detail ps names item ts ss
mistyped_by ps names item ts ss f = types_detail names item ts ss f

-- what is told of an item whose types don't agree
abbrev pub mistyped_detail : List Procedure → List NameSpan → ℕ → List Token → List Span → Detail
mistyped_detail ps names item ts ss = mistyped_by ps names item ts ss (form_of ts)

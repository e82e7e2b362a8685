-- The names that matter to an item tell of its types what all names do.
use Rattle.std.proofs.Common.{◌≡◌, ℕ, ◌+◌, List, [], ◌∷◌, Option, Some, None, refl, ap, ◌∙◌, drop}
use Rattle.std.specs.Prelude.{if◌then◌else◌, position, slice_get}
use Rattle.sect_front.specs.{declared.span.Span.{Span}, declared.token.Token.{Token}, declared.tree.Kind.{Kind}}
use Rattle.sect_front.specs.{declared.tree.Declaration.{Declaration}, declared.tree.Procedure.{Procedure}}
use Rattle.sect_places.specs.{declared.name_use.NameSpan.{NameSpan}, Declarations.{is_global, procedure_of}}
use Rattle.sect_places.specs.Mattering.{wanted}
use Rattle.sect_lint.specs.{declared.diagnostic.Shape.{Shape}, declared.diagnostic.Detail.{Detail}}
use Rattle.sect_lint.specs.{declared.form.Form.{Form}, declared.arguments.Call.{Call}}
use Rattle.sect_lint.specs.Naming.{found, variable, member_of, type_by}
use Rattle.sect_lint.specs.Typing.{named_shape, shape_of, is_in, variable_beside, variable_in, declared_shape}
use Rattle.sect_lint.specs.Typing.{assigned_shape, value_shape, target_shape, field_shape, shape_in, typed_by, joined}
use Rattle.sect_lint.specs.Typing.{value_at, target_at, member_at, made_by, one, two, loaded, stored, unless_int}
use Rattle.sect_lint.specs.{Typing.{types_detail}, Forms.{form_of}}
use Rattle.sect_lint.specs.Arguments.{takes, fits, parameter_by, unless_fits, differing, call_by, called_by}
use Rattle.sect_lint.specs.Arguments.{called_detail, parameters_in, mistyped_by, mistyped_detail}
use Rattle.sect_lint.proofs.Keeping.{found_same, own_matter, procedure_same, type_named_same, variable_same, type_same}
use Rattle.sect_lint.proofs.Keeping.{member_same}
use Rattle.sect_front.specs.declared.token.Token.TheVariants as token
use Rattle.sect_places.specs.declared.wish.Wish.TheVariants as wish
use Rattle.sect_lint.specs.declared.diagnostic.Shape.TheVariants as shape
use Rattle.sect_lint.specs.declared.diagnostic.Detail.TheVariants as detail
use Rattle.sect_lint.specs.declared.form.Form.TheVariants as form

-- the same of the token that may be there
shape_in_same : (f g : Token → Option Shape) → ((t : Token) → f t ≡ g t) → (o : Option Token)
    → shape_in f o ≡ shape_in g o
shape_in_same f g each None = refl
shape_in_same f g each (Some t) = each t

module _ (item : ℕ) (names some : List NameSpan) (are : some ≡ wanted (wish.Mattering item) names) where
  shape_same : (d : NameSpan) → shape_of some d ≡ shape_of names d
  shape_same d = ap named_shape (type_named_same item names some are d.used.item)

  beside_same : (x : List ℕ) (n : Option NameSpan) → variable_beside some x n ≡ variable_beside names x n
  beside_same x None = refl
  beside_same x (Some n) = variable_same item names some are n.used.scope x

  variable_in_same : (x : List ℕ) → variable_in some item x ≡ variable_in names item x
  variable_in_same x =
      ap (variable_beside some x)
      (found_same (wish.Mattering item) names some are (is_in item) (own_matter item names some are))
      ∙ beside_same x (found names (position (is_in item) names))

  declared_shape_same : (d : Option NameSpan) → declared_shape some d ≡ declared_shape names d
  declared_shape_same None = refl
  declared_shape_same (Some d) = ap Some (shape_same d)

  assigned_shape_same : (d : Option NameSpan) → assigned_shape some d ≡ assigned_shape names d
  assigned_shape_same None = refl
  assigned_shape_same (Some d) =
      ap (λ (s : Shape). Some (if is_global d.used.role then shape.Global else s)) (shape_same d)

  value_same : (t : Token) → value_shape some item t ≡ value_shape names item t
  value_same (token.Number v) = refl
  value_same token.Null = refl
  value_same (token.Name x) =
      ap (declared_shape some) (variable_in_same x) ∙ declared_shape_same (variable_in names item x)
  value_same _ = refl

  target_same : (t : Token) → target_shape some item t ≡ target_shape names item t
  target_same (token.Name x) =
      ap (assigned_shape some) (variable_in_same x) ∙ assigned_shape_same (variable_in names item x)
  target_same _ = refl

  field_shape_same : (t : Token) → field_shape some item t ≡ field_shape names item t
  field_shape_same (token.Name f) =
      ap (declared_shape some) (member_same item names some are f) ∙ declared_shape_same (member_of names item f)
  field_shape_same _ = refl

  module _ (ts : List Token) (ss : List Span) where
    value_at_same : (k : ℕ) → value_at some item ts ss k ≡ value_at names item ts ss k
    value_at_same k =
        ap (typed_by (slice_get ss k))
        (shape_in_same (value_shape some item) (value_shape names item) value_same (slice_get ts k))

    target_at_same : (k : ℕ) → target_at some item ts ss k ≡ target_at names item ts ss k
    target_at_same k =
        ap (typed_by (slice_get ss k))
        (shape_in_same (target_shape some item) (target_shape names item) target_same (slice_get ts k))

    member_at_same : (k : ℕ) → member_at some item ts ss k ≡ member_at names item ts ss k
    member_at_same k =
        ap (typed_by (joined (slice_get ss k) (slice_get ss (k + 2))))
        (shape_in_same (field_shape some item) (field_shape names item) field_shape_same (slice_get ts (k + 2)))

    types_same : (f : Form) → types_detail some item ts ss f ≡ types_detail names item ts ss f
    types_same form.Print = ap one (value_at_same 1)
    types_same form.Test = λ j. two (value_at_same 2 j) (value_at_same 4 j)
    types_same form.Assign = λ j. two (target_at_same 0 j) (value_at_same 2 j)
    types_same form.Compute =
        λ j. unless_int (target_at_same 0 j) (unless_int (value_at_same 2 j)
        (unless_int (value_at_same 4 j) detail.Nothing))
    types_same form.New =
        λ j. two (target_at_same 0 j) (made_by (joined (slice_get ss 2) (slice_get ss 3)) (slice_get ss 3))
    types_same form.Load = λ j. loaded (target_at_same 0 j) (member_at_same 2 j) (value_at_same 2 j)
    types_same form.Store = λ j. stored (member_at_same 0 j) (value_at_same 4 j) (value_at_same 0 j)
    types_same _ = refl

  fits_same : (k : Kind) (t : Token) → fits some item k t ≡ fits names item k t
  fits_same k (token.Number v) = refl
  fits_same k token.Null = refl
  fits_same k (token.Name x) =
      ap (λ d. takes k (type_by some d)) (variable_in_same x)
      ∙ ap (takes k) (type_same item names some are (variable_in names item x))
  fits_same k _ = refl

  parameter_same : (d : Option NameSpan) → parameter_by some d ≡ parameter_by names d
  parameter_same None = refl
  parameter_same (Some d) = ap (λ (s : Shape). Some (record { span = d.span; shape = s })) (shape_same d)

  -- a call in the item
  abbrev own_call : ℕ → Call
  own_call procedure = record { item = item; procedure = procedure }

  module _ (procedure : ℕ) where
    unless_same : (d : Declaration) (t : Option Token) (s : Option Span) (x y : Detail) → x ≡ y
        → unless_fits some (own_call procedure) d t s x ≡ unless_fits names (own_call procedure) d t s y
    unless_same d None s x y e = refl
    unless_same d (Some v) None x y e = refl
    unless_same d (Some v) (Some a) x y e =
        let parameter : parameter_by some (variable some procedure d.name)
        ≡ parameter_by names (variable names procedure d.name) =
        ap (parameter_by some) (variable_same item names some are procedure d.name)
        ∙ parameter_same (variable names procedure d.name) in
        λ j. if fits_same d.kind v j then e j else two (typed_by (Some a) (value_same v j)) (parameter j)

    differing_same : (ds : List Declaration) (ts : List Token) (ss : List Span)
        → differing some (own_call procedure) ds ts ss ≡ differing names (own_call procedure) ds ts ss
    differing_same [] ts ss = refl
    differing_same (d ∷ ds) ts ss =
        unless_same d (slice_get ts 0) (slice_get ss 0)
        (differing some (own_call procedure) ds (drop 2 ts) (drop 2 ss))
        (differing names (own_call procedure) ds (drop 2 ts) (drop 2 ss)) (differing_same ds (drop 2 ts) (drop 2 ss))

  called_same : (n : Option NameSpan) (ds : List Declaration) (ts : List Token) (ss : List Span)
      → called_by some (call_by item n) ds ts ss ≡ called_by names (call_by item n) ds ts ss
  called_same None ds ts ss = refl
  called_same (Some n) ds ts ss = differing_same n.used.item ds ts ss

  called_detail_same : (ps : List Procedure) (ts : List Token) (ss : List Span)
      → called_detail ps some item ts ss ≡ called_detail ps names item ts ss
  called_detail_same ps (keyword ∷ token.Name f ∷ paren ∷ ts) (word ∷ at ∷ behind ∷ ss) =
      ap (λ n. called_by some (call_by item n) (parameters_in ps f) ts ss) (procedure_same item names some are f)
      ∙ called_same (found names (procedure_of names f)) (parameters_in ps f) ts ss
  called_detail_same ps _ _ = refl

  pub mistyped_same : (ps : List Procedure) (ts : List Token) (ss : List Span)
      → mistyped_detail ps some item ts ss ≡ mistyped_detail ps names item ts ss
  mistyped_same ps ts ss = by (form_of ts)
    where
      by : (f : Form) → mistyped_by ps some item ts ss f ≡ mistyped_by ps names item ts ss f
      by form.Call = called_detail_same ps ts ss
      by form.Print = types_same ts ss form.Print
      by form.Test = types_same ts ss form.Test
      by form.Assign = types_same ts ss form.Assign
      by form.Compute = types_same ts ss form.Compute
      by form.New = types_same ts ss form.New
      by form.Load = types_same ts ss form.Load
      by form.Store = types_same ts ss form.Store
      by form.Section = refl
      by form.Other = refl

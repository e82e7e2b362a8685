-- The bytes of what is told with its type lie in the text.
use Rattle.std.proofs.Common.{◌≡◌, ℕ, zero, suc, ◌+◌, ◌-◌, ◌≤◌, List, [], ◌∷◌, Option, Some, None, map, drop, slice_get}
use Rattle.std.proofs.Common.{true, false, Bool, arith, get_or, refl, ap, ◌∙◌}
use Rattle.std.proofs.lemmas.Option.{slice_get_within, get_or_from_slice_get}
use Rattle.std.specs.{Option.{IfSome}, Prelude.{if◌then◌else◌}}
use Rattle.sect_lemmas.proofs.Options.{none_or_some}
use Rattle.sect_front.specs.{FaultPlaces.{IsWithin}, declared.span.Span.{Span}, declared.token.Token.{Token}}
use Rattle.sect_front.specs.{declared.tree.Declaration.{Declaration}, declared.tree.Procedure.{Procedure}}
use Rattle.sect_places.specs.{declared.name_use.NameSpan.{NameSpan}, Declarations.{is_global, type_in, variable_of}}
use Rattle.sect_places.specs.{Ranges.{range}, Spans.{AreInOrder, AreProper, no_span}, Openings.{values_in}}
use Rattle.sect_places.proofs.shared.{Ordered.{span_proper, lower}, Names.{name_proper}}
use Rattle.sect_lint.specs.{declared.diagnostic.Shape.{Shape}, declared.diagnostic.Typed.{Typed}}
use Rattle.sect_lint.specs.{declared.diagnostic.Detail.{Detail}, declared.form.Form.{Form}}
use Rattle.sect_lint.specs.Naming.{found, variable, member_of}
use Rattle.sect_lint.specs.Typing.{named_shape, shape_of, declared_shape, assigned_shape, value_shape, target_shape}
use Rattle.sect_lint.specs.Typing.{field_shape, shape_in, variable_in, typed_by, joined, made_by, one, two, loaded}
use Rattle.sect_lint.specs.{Typing.{stored, value_at, target_at, member_at, unless_int, types_detail}, Forms.{form_of}}
use Rattle.sect_lint.specs.Counting.{counts_by, counts_detail, parameters_of}
use Rattle.sect_lint.specs.Arguments.{fits, parameter_by, unless_fits, differing, parameters_in, call_of, called_by}
use Rattle.sect_lint.specs.{Arguments.{called_detail, mistyped_by, mistyped_detail}, declared.arguments.Call.{Call}}
use Rattle.sect_lint.specs.{Labels.{IsShapeWithin, IsTypedWithin}, Details.{IsDetailWithin}}
use Rattle.sect_front.specs.declared.token.Token.TheVariants as token
use Rattle.sect_lint.specs.declared.diagnostic.Shape.TheVariants as shape
use Rattle.sect_lint.specs.declared.form.Form.TheVariants as form

order_from : (from total n : ℕ) (ss : List Span) → AreInOrder from total ss → AreInOrder 0 total (drop n ss)
order_from from total zero ss h = lower 0 from total ss (omega arith) h
order_from from total (suc n) [] h = tt
order_from from total (suc n) (s ∷ ss) h = order_from s.end total n ss h.3

one_within : (from total : ℕ) (ss : List Span) (k : ℕ) → AreInOrder from total ss
    → IfSome (slice_get ss k) (IsWithin total)
one_within from total [] k h = tt
one_within from total (s ∷ ss) zero h = (omega (arith, h.1), h.2)
one_within from total (s ∷ ss) (suc k) h = one_within s.end total ss k h.3

-- a later token ends behind the first byte of an earlier one
two_within : (total : ℕ) (ss : List Span) (k n : ℕ) (a b : Span) → AreInOrder 0 total ss → slice_get ss k ≡ Some a
    → slice_get ss (k + n) ≡ Some b → (a.start ≤ b.end) × (b.end ≤ total)
two_within total ss k n a b h first last =
    let less = slice_get_within ss (k + n) b last in
    let proper = span_proper total ss (range k (n + 1)) h (omega arith) (omega (arith, less)) in
    let at : k + (n + 1) - 1 ≡ k + n = omega arith in
    let from : (get_or ss k no_span).start ≡ a.start =
    ap (λ (s : Span). s.start) (get_or_from_slice_get ss k a no_span first) in
    let to : (get_or ss (k + (n + 1) - 1) no_span).end ≡ b.end =
    ap (λ i. (get_or ss i no_span).end) at
    ∙ ap (λ (s : Span). s.end) (get_or_from_slice_get ss (k + n) b no_span last) in
    (omega (arith, proper.0, from, to), omega (arith, proper.1, to))

joined_by : (total : ℕ) (a b : Option Span)
    → ((x y : Span) → a ≡ Some x → b ≡ Some y → (x.start ≤ y.end) × (y.end ≤ total))
    → IfSome (joined a b) (IsWithin total)
joined_by total None b h = tt
joined_by total (Some x) None h = tt
joined_by total (Some x) (Some y) h = h x y refl refl

-- from one token to a later one
joined_within : (total : ℕ) (ss : List Span) (k n : ℕ) → AreInOrder 0 total ss
    → IfSome (joined (slice_get ss k) (slice_get ss (k + n))) (IsWithin total)
joined_within total ss k n h =
    joined_by total (slice_get ss k) (slice_get ss (k + n)) (λ x y. two_within total ss k n x y h)

typed_within : (total : ℕ) (s : Option Span) (h : Option Shape) → IfSome s (IsWithin total)
    → IfSome h (IsShapeWithin total) → IfSome (typed_by s h) (IsTypedWithin total)
typed_within total None h span shape = tt
typed_within total (Some s) None span shape = tt
typed_within total (Some s) (Some h) span shape = (span, shape)

made_within : (total : ℕ) (whole r : Option Span) → IfSome whole (IsWithin total) → IfSome r (IsWithin total)
    → IfSome (made_by whole r) (IsTypedWithin total)
made_within total whole None h within = tt
made_within total whole (Some s) h within = typed_within total whole (Some (shape.Reference s)) h within

one_told : (total : ℕ) (a : Option Typed) → IfSome a (IsTypedWithin total) → IsDetailWithin total (one a)
one_told total None h = tt
one_told total (Some t) h = h

two_told : (total : ℕ) (a b : Option Typed) → IfSome a (IsTypedWithin total) → IfSome b (IsTypedWithin total)
    → IsDetailWithin total (two a b)
two_told total None b h k = tt
two_told total (Some s) None h k = tt
two_told total (Some s) (Some t) h k = (h, k)

loaded_told : (total : ℕ) (x m y : Option Typed) → IfSome x (IsTypedWithin total) → IfSome m (IsTypedWithin total)
    → IfSome y (IsTypedWithin total) → IsDetailWithin total (loaded x m y)
loaded_told total x None y h i j = one_told total y j
loaded_told total x (Some m) y h i j = two_told total x (Some m) h i

stored_told : (total : ℕ) (m v y : Option Typed) → IfSome m (IsTypedWithin total) → IfSome v (IsTypedWithin total)
    → IfSome y (IsTypedWithin total) → IsDetailWithin total (stored m v y)
stored_told total None v y h i j = one_told total y j
stored_told total (Some m) v y h i j = two_told total (Some m) v h i

unless_told : (total : ℕ) (a : Option Typed) (d : Detail) → IfSome a (IsTypedWithin total) → IsDetailWithin total d
    → IsDetailWithin total (unless_int a d)
unless_told total None d h later = later
unless_told total (Some t) d h later = by t.span t.shape h
  where
    by : (s : Span) (k : Shape) → IsTypedWithin total (record { span = s; shape = k })
        → IsDetailWithin total (unless_int (Some (record { span = s; shape = k })) d)
    by s shape.Int h = later
    by s shape.Null h = h
    by s (shape.Reference r) h = h
    by s shape.Global h = h

module _ (total : ℕ) (names : List NameSpan) (proper : AreProper total (map (λ (n : NameSpan). n.span) names)) where
  named_by : (o : Option ℕ) (r : Option NameSpan) → found names o ≡ r → IsShapeWithin total (named_shape r)
  named_by o None e = tt
  named_by None (Some n) e = absurd (none_or_some n e)
  named_by (Some k) (Some n) e = let p = name_proper total names k n proper e in (omega (arith, p.0), p.1)

  shape_within : (d : NameSpan) → IsShapeWithin total (shape_of names d)
  shape_within d = named_by (type_in names d.used.item) (found names (type_in names d.used.item)) refl

  declared_within : (d : Option NameSpan) → IfSome (declared_shape names d) (IsShapeWithin total)
  declared_within None = tt
  declared_within (Some d) = shape_within d

  assigned_within : (d : Option NameSpan) → IfSome (assigned_shape names d) (IsShapeWithin total)
  assigned_within None = tt
  assigned_within (Some d) = by (is_global d.used.role)
    where
      by : (b : Bool) → IsShapeWithin total (if b then shape.Global else shape_of names d)
      by true = tt
      by false = shape_within d

  value_within : (item : ℕ) (t : Token) → IfSome (value_shape names item t) (IsShapeWithin total)
  value_within item (token.Number v) = tt
  value_within item token.Null = tt
  value_within item (token.Name x) = declared_within (variable_in names item x)
  value_within item _ = tt

  target_within : (item : ℕ) (t : Token) → IfSome (target_shape names item t) (IsShapeWithin total)
  target_within item (token.Name x) = assigned_within (variable_in names item x)
  target_within item _ = tt

  field_within : (item : ℕ) (t : Token) → IfSome (field_shape names item t) (IsShapeWithin total)
  field_within item (token.Name f) = declared_within (member_of names item f)
  field_within item _ = tt

  shape_told : (f : Token → Option Shape) → ((t : Token) → IfSome (f t) (IsShapeWithin total)) → (t : Option Token)
      → IfSome (shape_in f t) (IsShapeWithin total)
  shape_told f each None = tt
  shape_told f each (Some t) = each t

  module _ (item : ℕ) (ts : List Token) (ss : List Span) (order : AreInOrder 0 total ss) where
    value_told : (k : ℕ) → IfSome (value_at names item ts ss k) (IsTypedWithin total)
    value_told k =
        typed_within total (slice_get ss k) _ (one_within 0 total ss k order)
        (shape_told (value_shape names item) (value_within item) (slice_get ts k))

    target_told : (k : ℕ) → IfSome (target_at names item ts ss k) (IsTypedWithin total)
    target_told k =
        typed_within total (slice_get ss k) _ (one_within 0 total ss k order)
        (shape_told (target_shape names item) (target_within item) (slice_get ts k))

    member_told : (k : ℕ) → IfSome (member_at names item ts ss k) (IsTypedWithin total)
    member_told k =
        typed_within total _ _ (joined_within total ss k 2 order)
        (shape_told (field_shape names item) (field_within item) (slice_get ts (k + 2)))

    types_within : (f : Form) → IsDetailWithin total (types_detail names item ts ss f)
    types_within form.Print = one_told total _ (value_told 1)
    types_within form.Test = two_told total _ _ (value_told 2) (value_told 4)
    types_within form.Assign = two_told total _ _ (target_told 0) (value_told 2)
    types_within form.Compute =
        unless_told total _ _ (target_told 0) (unless_told total _ _ (value_told 2)
        (unless_told total _ _ (value_told 4) tt))
    types_within form.New =
        two_told total _ _ (target_told 0) (made_within total _ _ (joined_within total ss 2 1 order)
        (one_within 0 total ss 3 order))
    types_within form.Load = loaded_told total _ _ _ (target_told 0) (member_told 2) (value_told 2)
    types_within form.Store = stored_told total _ _ _ (member_told 0) (value_told 4) (value_told 0)
    types_within form.Call = tt
    types_within form.Section = tt
    types_within form.Other = tt

  parameter_within : (o : Option ℕ) (d : Option NameSpan) → found names o ≡ d
      → IfSome (parameter_by names d) (IsTypedWithin total)
  parameter_within o None e = tt
  parameter_within None (Some n) e = absurd (none_or_some n e)
  parameter_within (Some k) (Some n) e =
      let p = name_proper total names k n proper e in
      ((omega (arith, p.0), p.1), shape_within n)

  unless_within : (c : Call) (d : Declaration) (t : Option Token) (s : Option Span) (later : Detail)
      → IfSome s (IsWithin total) → IsDetailWithin total later
      → IsDetailWithin total (unless_fits names c d t s later)
  unless_within c d None s later h k = tt
  unless_within c d (Some v) None later h k = tt
  unless_within c d (Some v) (Some a) later h k = by (fits names c.item d.kind v)
    where
      by : (fit : Bool) → IsDetailWithin total (if fit then later
          else two (typed_by (Some a) (value_shape names c.item v))
          (parameter_by names (variable names c.procedure d.name)))
      by true = k
      by false =
          two_told total _ _ (typed_within total (Some a) _ h (value_within c.item v))
          (parameter_within (variable_of names c.procedure d.name) (variable names c.procedure d.name) refl)

  differing_within : (c : Call) (ds : List Declaration) (ts : List Token) (ss : List Span)
      → AreInOrder 0 total ss → IsDetailWithin total (differing names c ds ts ss)
  differing_within c [] ts ss h = tt
  differing_within c (d ∷ ds) ts ss h =
      unless_within c d (slice_get ts 0) (slice_get ss 0) (differing names c ds (drop 2 ts) (drop 2 ss))
      (one_within 0 total ss 0 h) (differing_within c ds (drop 2 ts) (drop 2 ss) (order_from 0 total 2 ss h))

  called_within : (c : Option Call) (ds : List Declaration) (ts : List Token) (ss : List Span)
      → AreInOrder 0 total ss → IsDetailWithin total (called_by names c ds ts ss)
  called_within None ds ts ss h = tt
  called_within (Some c) ds ts ss h = differing_within c ds ts ss h

  call_within : (ps : List Procedure) (item : ℕ) (ts : List Token) (ss : List Span) → AreInOrder 0 total ss
      → IsDetailWithin total (called_detail ps names item ts ss)
  call_within ps item (keyword ∷ token.Name f ∷ paren ∷ ts) (word ∷ at ∷ behind ∷ ss) h =
      called_within (call_of names item f) (parameters_in ps f) ts ss
      (lower 0 behind.end total ss (omega arith) h.3.3.3)
  call_within ps item _ _ h = tt

  pub mistyped_within : (item : ℕ) (ss : List Span) → AreInOrder 0 total ss → (ps : List Procedure) (ts : List Token)
      → IsDetailWithin total (mistyped_detail ps names item ts ss)
  mistyped_within item ss h ps ts = by (form_of ts)
    where
      by : (f : Form) → IsDetailWithin total (mistyped_by ps names item ts ss f)
      by form.Call = call_within ps item ts ss h
      by form.Print = types_within item ts ss h form.Print
      by form.Test = types_within item ts ss h form.Test
      by form.Assign = types_within item ts ss h form.Assign
      by form.Compute = types_within item ts ss h form.Compute
      by form.New = types_within item ts ss h form.New
      by form.Load = types_within item ts ss h form.Load
      by form.Store = types_within item ts ss h form.Store
      by form.Section = tt
      by form.Other = tt

counted : (total : ℕ) (at : Span) (n : ℕ) (m : Option ℕ) → IsWithin total at → IsDetailWithin total (counts_by at n m)
counted total at n None h = tt
counted total at n (Some m) h = h

pub counts_within : (total from : ℕ) (ps : List Procedure) (ts : List Token) (ss : List Span)
    → AreInOrder from total ss → IsDetailWithin total (counts_detail ps ts ss)
counts_within total from ps (keyword ∷ token.Name f ∷ rest) (word ∷ at ∷ spans) h =
    counted total at (values_in rest) (parameters_of ps f) (omega (arith, h.3.1), h.3.2)
counts_within total from ps _ _ h = tt

-- What the declarations of a text tell of an item whose types don't agree.
use Rattle.std.specs.Prelude.{ℕ, ◌+◌, Bool, if◌then◌else◌, List, Option, Some, None, nat_eq, position, slice_get}
use Rattle.sect_front.specs.{declared.span.Span.{Span}, declared.token.Token.{Token}}
use Rattle.sect_places.specs.{declared.name_use.NameSpan.{NameSpan}, Declarations.{is_global, type_in}}
use Rattle.sect_lint.specs.{declared.diagnostic.Shape.{Shape}, declared.diagnostic.Typed.{Typed}}
use Rattle.sect_lint.specs.{declared.diagnostic.Detail.{Detail}, declared.form.Form.{Form}}
use Rattle.sect_lint.specs.Naming.{found, variable, member_of}
use Rattle.sect_front.specs.declared.token.Token.TheVariants as token
use Rattle.sect_lint.specs.declared.diagnostic.Shape.TheVariants as shape
use Rattle.sect_lint.specs.declared.diagnostic.Detail.TheVariants as detail
use Rattle.sect_lint.specs.declared.form.Form.TheVariants as form

-- a reference to the record that is named in a declaration, else an integer
abbrev pub named_shape : Option NameSpan → Shape
named_shape None = shape.Int
named_shape (Some n) = shape.Reference n.span

-- what a variable or a field is, by its declaration
abbrev pub shape_of : List NameSpan → NameSpan → Shape
shape_of names d = named_shape (found names (type_in names d.used.item))

abbrev pub is_in : ℕ → NameSpan → Bool
is_in item n = nat_eq n.used.item item

-- the declaration of a variable that stands in an item with this name in it
abbrev pub variable_beside : List NameSpan → List ℕ → Option NameSpan → Option NameSpan
variable_beside names x None = None
variable_beside names x (Some n) = variable names n.used.scope x

-- the declaration of a variable that stands in an item
abbrev pub variable_in : List NameSpan → ℕ → List ℕ → Option NameSpan
variable_in names item x = variable_beside names x (found names (position (is_in item) names))

abbrev pub declared_shape : List NameSpan → Option NameSpan → Option Shape
declared_shape names None = None
declared_shape names (Some d) = Some (shape_of names d)

-- of what is assigned to: a global isn't
abbrev pub assigned_shape : List NameSpan → Option NameSpan → Option Shape
assigned_shape names None = None
assigned_shape names (Some d) = Some (if is_global d.used.role then shape.Global else shape_of names d)

-- of a value: an integer, `null` or a variable
abbrev pub value_shape : List NameSpan → ℕ → Token → Option Shape
value_shape names item (token.Number v) = Some shape.Int
value_shape names item token.Null = Some shape.Null
value_shape names item (token.Name x) = declared_shape names (variable_in names item x)
value_shape names item _ = None

-- of what stands before `=`
abbrev pub target_shape : List NameSpan → ℕ → Token → Option Shape
target_shape names item (token.Name x) = assigned_shape names (variable_in names item x)
target_shape names item _ = None

-- of the field that stands behind the dot
abbrev pub field_shape : List NameSpan → ℕ → Token → Option Shape
field_shape names item (token.Name f) = declared_shape names (member_of names item f)
field_shape names item _ = None

-- of the token that there is, if there is one
abbrev pub shape_in : (Token → Option Shape) → Option Token → Option Shape
shape_in shape_by None = None
shape_in shape_by (Some t) = shape_by t

abbrev pub typed_by : Option Span → Option Shape → Option Typed
typed_by (Some s) (Some h) = Some (record { span = s; shape = h })
typed_by (Some s) None = None
typed_by None h = None

-- of an item's tokens the one of that number, as a value or as what is assigned to
abbrev pub value_at : List NameSpan → ℕ → List Token → List Span → ℕ → Option Typed
value_at names item tokens spans k =
    typed_by (slice_get spans k) (shape_in (value_shape names item) (slice_get tokens k))

abbrev pub target_at : List NameSpan → ℕ → List Token → List Span → ℕ → Option Typed
target_at names item tokens spans k =
    typed_by (slice_get spans k) (shape_in (target_shape names item) (slice_get tokens k))

-- from the first byte of one to the last of another
abbrev pub joined : Option Span → Option Span → Option Span
joined (Some a) (Some b) = Some (record { start = a.start; end = b.end })
joined (Some a) None = None
joined None b = None

-- the field of which three tokens are the base, the dot and the name
abbrev pub member_at : List NameSpan → ℕ → List Token → List Span → ℕ → Option Typed
member_at names item tokens spans k =
    typed_by (joined (slice_get spans k) (slice_get spans (k + 2)))
    (shape_in (field_shape names item) (slice_get tokens (k + 2)))

-- a `new` object, with the name of its record
abbrev pub made_by : Option Span → Option Span → Option Typed
made_by whole None = None
made_by whole (Some r) = typed_by whole (Some (shape.Reference r))

-- what is told of one part, or of two
abbrev pub one : Option Typed → Detail
one None = detail.Nothing
one (Some a) = detail.Type a

abbrev pub two : Option Typed → Option Typed → Detail
two (Some a) (Some b) = detail.Types a b
two (Some a) None = detail.Nothing
two None b = detail.Nothing

-- of a load: what is assigned to and the field, or the base, if that has no fields
abbrev pub loaded : Option Typed → Option Typed → Option Typed → Detail
loaded x None y = one y
loaded x (Some m) y = two x (Some m)

-- of a store: the field and the value, or the base, if that has no fields
abbrev pub stored : Option Typed → Option Typed → Option Typed → Detail
stored None v y = one y
stored (Some m) v y = two (Some m) v

-- the first that is no integer
abbrev pub unless_int : Option Typed → Detail → Detail
unless_int None later = later
unless_int (Some t) later = by t.shape
  where
    by : Shape → Detail
    by shape.Int = later
    by _ = detail.Type t

-- what is told of an item whose types don't agree: both sides, or what is no integer
abbrev pub types_detail : List NameSpan → ℕ → List Token → List Span → Form → Detail
types_detail names item ts ss form.Print = one (value_at names item ts ss 1)
types_detail names item ts ss form.Test = two (value_at names item ts ss 2) (value_at names item ts ss 4)
types_detail names item ts ss form.Assign = two (target_at names item ts ss 0) (value_at names item ts ss 2)
types_detail names item ts ss form.Compute =
    unless_int (target_at names item ts ss 0) (unless_int (value_at names item ts ss 2)
    (unless_int (value_at names item ts ss 4) detail.Nothing))
types_detail names item ts ss form.New =
    two (target_at names item ts ss 0) (made_by (joined (slice_get ss 2) (slice_get ss 3)) (slice_get ss 3))
types_detail names item ts ss form.Load =
    loaded (target_at names item ts ss 0) (member_at names item ts ss 2) (value_at names item ts ss 2)
types_detail names item ts ss form.Store =
    stored (member_at names item ts ss 0) (value_at names item ts ss 4) (value_at names item ts ss 0)
types_detail names item ts ss _ = detail.Nothing

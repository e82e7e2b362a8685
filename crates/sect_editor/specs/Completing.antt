-- What may be written at a place of a text, whether or not it is one of the language.
use Rattle.std.specs.Prelude.{◌≡◌, ℕ, ◌+◌, ◌-◌, ◌&&◌, Bool, true, false, if◌then◌else◌, nat_eq, List, [], ◌∷◌, ◌++◌}
use Rattle.std.specs.Prelude.{Option, Some, None, option_and_then, length, take, map, filter, position, slice_get}
use Rattle.std.specs.{Prelude.{codes, count_by}, Option.{option_or}, Cmp.Lexicographic.{pointwise}}
use Rattle.serde_json.specs.Data.{Data, null, string, object, no_members, member}
use Rattle.sect_places.specs.declared.name_use.Thing.{Thing}
use Rattle.sect_editor.specs.{declared.words.Word.{Word}, declared.declaring.Head.{Head}}
use Rattle.sect_editor.specs.{declared.declaring.Declared.{Declared}, Ranges.{count, list}, Words.{AreWords}}
use Rattle.sect_places.specs.declared.name_use.Thing.TheVariants as thing
use Rattle.sect_editor.specs.declared.words.Word.TheVariants as word
use Rattle.sect_editor.specs.declared.declaring.Head.TheVariants as head

-- ---- what is declared

-- the word begins a declaration
abbrev pub is_head : Word → Bool
is_head word.Record = true
is_head word.Global = true
is_head word.Procedure = true
is_head word.Thread = true
is_head _ = false

-- in which kind of declaration what follows a word stands
abbrev pub head_after : Word → Head → Head
head_after word.Record h = head.Record
head_after word.Global h = head.Global
head_after word.Procedure h = head.Body
head_after word.Thread h = head.Body
head_after _ h = h

-- declarations are numbered, from 1
abbrev pub scope_after : Word → ℕ → ℕ
scope_after w n = if is_head w then n + 1 else n

abbrev pub declaration : Thing → ℕ → Option (List ℕ) → List ℕ → Declared
declaration what n of x = record { what = what; scope = n; of = of; name = x }

-- a type and a name are a field, a global, or a local
abbrev pub typed : Head → ℕ → Option (List ℕ) → List ℕ → List Declared
typed head.Nothing n of x = []
typed head.Record n of x = declaration thing.Field n of x ∷ []
typed head.Global n of x = declaration thing.Global n of x ∷ []
typed head.Body n of x = declaration thing.Local n of x ∷ []

-- what a word and a name behind it declare
abbrev pub named_by : Head → ℕ → Word → List ℕ → List Declared
named_by h n word.Record x = declaration thing.Record n None x ∷ []
named_by h n word.Procedure x = declaration thing.Procedure n None x ∷ []
named_by h n word.Int x = typed h n None x
named_by h n (word.Name r) x = typed h n (Some r) x
named_by h n _ x = []

-- what a word and the next one declare
abbrev pub declared_by : Head → ℕ → Word → Option Word → List Declared
declared_by h n w (Some (word.Name x)) = named_by h n w x
declared_by h n w next = []

-- what words declare, in a declaration of this kind and number
abbrev pub declared_from : Head → ℕ → List Word → List Declared
declared_from h n [] = []
declared_from h n (w ∷ ws) =
    declared_by (head_after w h) (scope_after w n) w (slice_get ws 0)
    ++ declared_from (head_after w h) (scope_after w n) ws

abbrev pub declared_in : List Word → List Declared
declared_in ws = declared_from head.Nothing 0 ws

-- ---- where one writes

-- in which declaration what follows these words stands
abbrev pub scope_of : List Word → ℕ
scope_of ws = count_by is_head ws

-- the name before the dot at the end, if the last words are a name and a dot, and perhaps the beginning of a field's
abbrev pub base_by : Option Word → Option Word → Option Word → Option (List ℕ)
base_by before (Some (word.Name x)) (Some word.Dot) = Some x
base_by (Some (word.Name x)) (Some word.Dot) (Some (word.Name begun)) = Some x
base_by before middle last = None

abbrev pub base_of : List Word → Option (List ℕ)
base_of ws = base_by (slice_get ws (length ws - 3)) (slice_get ws (length ws - 2)) (slice_get ws (length ws - 1))

-- ---- the fields behind a dot

abbrev pub is_thing : Thing → Thing → Bool
is_thing thing.Record thing.Record = true
is_thing thing.Field thing.Field = true
is_thing thing.Global thing.Global = true
is_thing thing.Procedure thing.Procedure = true
is_thing thing.Thread thing.Thread = true
is_thing thing.Local thing.Local = true
is_thing _ _ = false

-- that is declared under that name
abbrev pub is_named : Thing → List ℕ → Declared → Bool
is_named what x d = is_thing what d.what && pointwise nat_eq x d.name

-- in that declaration
abbrev pub is_named_in : ℕ → Thing → List ℕ → Declared → Bool
is_named_in scope what x d = nat_eq d.scope scope && is_named what x d

-- what is declared at that place, if one is given
abbrev pub found_in : List Declared → Option ℕ → Option Declared
found_in ds None = None
found_in ds (Some k) = slice_get ds k

-- the local of a name, or else the global
abbrev pub variable_of : List Declared → ℕ → List ℕ → Option Declared
variable_of ds scope x =
    found_in ds (option_or (position (is_named_in scope thing.Local x) ds) (position (is_named thing.Global x) ds))

abbrev pub record_named : List Declared → List ℕ → Option Declared
record_named ds r = found_in ds (position (is_named thing.Record r) ds)

-- the record of a variable's type
abbrev pub record_of : List Declared → ℕ → List ℕ → Option Declared
record_of ds scope x =
    option_and_then (record_named ds) (option_and_then (λ (d : Declared). d.of) (variable_of ds scope x))

abbrev pub is_field_of : ℕ → Declared → Bool
is_field_of scope d = nat_eq d.scope scope && is_thing thing.Field d.what

abbrev pub fields_in : List Declared → Option Declared → List Declared
fields_in ds None = []
fields_in ds (Some r) = filter (is_field_of r.scope) ds

-- ---- what is offered

-- how the protocol calls it: a struct, a field, a variable, a function
abbrev pub item_kind : Thing → ℕ
item_kind thing.Record = 22
item_kind thing.Field = 5
item_kind thing.Procedure = 3
item_kind _ = 6

abbrev pub item_json : ℕ → List ℕ → Data
item_json kind label =
    object (member (codes "kind") (count kind) (member (codes "label") (string label) no_members))

abbrev pub declared_item : Declared → Data
declared_item d = item_json (item_kind d.what) d.name

-- the words of declarations
abbrev pub outer_keywords : List (List ℕ)
outer_keywords =
    codes "global" ∷ codes "int" ∷ codes "proc" ∷ codes "protected_by" ∷ codes "record" ∷ codes "thread" ∷ []

-- and those of statements
abbrev pub inner_keywords : List (List ℕ)
inner_keywords =
    codes "all" ∷ codes "atomic" ∷ codes "call" ∷ codes "else" ∷ codes "if" ∷ codes "new" ∷ codes "null"
    ∷ codes "print" ∷ codes "while" ∷ []

abbrev pub keyword_item : List ℕ → Data
keyword_item word = item_json 14 word

-- a record, a global, a procedure, or a local of the declaration in which one writes
abbrev pub is_offered_as : Thing → Bool → Bool
is_offered_as thing.Record here = true
is_offered_as thing.Global here = true
is_offered_as thing.Procedure here = true
is_offered_as thing.Local here = here
is_offered_as _ here = false

abbrev pub is_offered : ℕ → Declared → Bool
is_offered scope d = is_offered_as d.what (nat_eq d.scope scope)

-- the keywords and the names that are known where one writes, or the fields of the record behind a dot
abbrev pub offers : List Declared → ℕ → Option (List ℕ) → List Data
offers ds scope None =
    map keyword_item outer_keywords ++ map keyword_item inner_keywords
    ++ map declared_item (filter (is_offered scope) ds)
offers ds scope (Some x) = map declared_item (fields_in ds (record_of ds scope x))

-- what is offered behind this byte of a text
abbrev pub IsCompletion : List ℕ → Option ℕ → Data → Type 0
IsCompletion source None value = value ≡ null
IsCompletion source (Some at) value =
    (all : List Word) × AreWords source all × (front : List Word) × AreWords (take at source) front
    × (value ≡ list (offers (declared_in all) (scope_of front) (base_of front)))

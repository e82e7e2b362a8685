-- Where a mistake stands.
use Rattle.std.specs.Prelude.{◌≡◌, ℕ, zero, suc, ◌+◌, ◌-◌, ◌<◌, List, [], ◌∷◌, length, map, get_or, ⊤, Option, Some}
use Rattle.std.specs.Prelude.{None}
use Rattle.sect_front.specs.{TreeView.{TreeView}, Front.{IsSpelled}, FaultPlaces.{token_span, IsFaultSpan}}
use Rattle.sect_front.specs.{declared.span.Span.{Span}, declared.tree.Record.{Record}}
use Rattle.sect_types.specs.{Items.{items}, declared.rules.rule.TypeFault.{TypeFault}}
use Rattle.sect_names.specs.{declared.fault.SchemeFault.{SchemeFault}, declared.refusal.SourceRefusal.{SourceRefusal}}
use Rattle.sect_places.specs.{declared.range.TokenRange.{TokenRange}, Ranges.{range, item_tokens}, Spans.{span_in}}
use Rattle.sect_places.specs.{NameSpans.{AreNameSpans}, declared.name_use.NameSpan.{NameSpan}}
use Rattle.sect_lint.specs.{Naming.{unknown_name}, declared.culprit.Culprit.{Culprit}}
use Rattle.sect_lint.specs.declared.mistake.Mistake.{Mistake}
use Rattle.sect_types.specs.declared.rules.rule.TypeFault.TheVariants as types
use Rattle.sect_names.specs.declared.fault.SchemeFault.TheVariants as scheme
use Rattle.sect_names.specs.declared.refusal.SourceRefusal.TheVariants as refusal
use Rattle.sect_lint.specs.declared.culprit.Culprit.TheVariants as culprit
use Rattle.sect_lint.specs.declared.mistake.Mistake.TheVariants as mistake

-- the item that is at fault
abbrev pub of_types : TypeFault → Culprit
of_types types.Memory = culprit.Item 0
of_types (types.Unknown item) = culprit.Item item
of_types (types.Twice item) = culprit.Item item
of_types (types.WrongType item) = culprit.Item item
of_types (types.SharedOutside item) = culprit.Item item
of_types (types.Nested item) = culprit.Item item
of_types (types.TooMany item) = culprit.Item item
of_types (types.Recursion item) = culprit.Item item
of_types (types.Arguments item) = culprit.Item item

-- the record that is at fault
abbrev pub of_scheme : SchemeFault → Culprit
of_scheme scheme.Memory = culprit.Record 0
of_scheme scheme.BadK = culprit.Record 0
of_scheme (scheme.NoSuchGlobal r) = culprit.Record r
of_scheme (scheme.GuardIsGuarded r) = culprit.Record r
of_scheme (scheme.HintTwice r) = culprit.Record r

-- the number of a record's item: the records before it are items, and so are their fields
abbrev pub record_item : List Record → ℕ → ℕ
record_item [] r = 0
record_item (x ∷ xs) zero = 0
record_item (x ∷ xs) (suc r) = 1 + length x.fields + record_item xs r

-- the number of the item that is at fault
abbrev pub item_number : TreeView → Culprit → ℕ
item_number tree (culprit.Item item) = item
item_number tree (culprit.Record r) = record_item tree.records r

-- the tokens of an item that the carets stand under: the name that is declared twice, which comes last, else all
abbrev pub marked : Mistake → TokenRange → TokenRange
marked mistake.Twice r = range (r.first + r.count - 1) 1
marked _ r = r

abbrev pub no_range : TokenRange
no_range = range 0 0

-- the bytes are those of the item at fault in the tree that the text spells, as far as they are marked
pub record IsItemSpan (source : List ℕ) (tree : TreeView) (m : Mistake) (who : Culprit) (span : Span) : Type 0 where
  pub spelled : IsSpelled source tree
  pub there : item_number tree who < length (items tree)
  pub is : span ≡ span_in (map token_span spelled.places)
      (marked m (get_or (item_tokens tree) (item_number tree who) no_range))

-- the bytes of this name, or where none is given those of the item
abbrev pub IsMarked : List ℕ → TreeView → Mistake → Culprit → Option NameSpan → Span → Type 0
IsMarked source tree m who None span = IsItemSpan source tree m who span
IsMarked source tree m who (Some n) span = span ≡ n.span

-- the name that is marked: the first of the item that nothing has
abbrev pub marked_name : List NameSpan → TypeFault → Option NameSpan
marked_name names (types.Unknown item) = unknown_name names item
marked_name names _ = None

-- the mistake of a text that is refused so stands at these bytes
abbrev pub IsPlaceOf : List ℕ → SourceRefusal → Mistake → Span → Type 0
IsPlaceOf source refusal.Memory m span = ⊤
IsPlaceOf source (refusal.Front why) m span = IsFaultSpan source why span
IsPlaceOf source (refusal.Types why) m span =
    (tree : TreeView) × (names : List NameSpan) × AreNameSpans source tree names
    × IsMarked source tree m (of_types why) (marked_name names why) span
IsPlaceOf source (refusal.Scheme why) m span =
    (tree : TreeView) × IsItemSpan source tree m (of_scheme why) span

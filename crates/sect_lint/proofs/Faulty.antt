-- An item or a record that is at fault is there.
use Rattle.std.proofs.Common.{◌≡◌, ◌≢◌, ℕ, zero, suc, ◌+◌, ◌<◌, List, [], ◌∷◌, ◌++◌, Some, Err, length, map, refl}
use Rattle.std.proofs.Common.{sym, ◌∙◌, ap, arith}
use Rattle.sect_lemmas.proofs.Options.{none_or_some}
use Rattle.std.specs.Prelude.{slice_index_or}
use Rattle.sect_lemmas.specs.Lists.{Has}
use Rattle.sect_front.specs.{TreeView.{TreeView}, declared.tree.Record.{Record}}
use Rattle.sect_front.specs.declared.tree.Declaration.{Declaration}
use Rattle.sect_types.specs.{First.{BreaksFrom, none_yet}, Items.{Item, items, field_items, record_items}}
use Rattle.sect_types.specs.{Programs.{ProgramView}, Rules.{Declared, Counts, after, declared_in}}
use Rattle.sect_types.specs.{declared.rules.rule.Rule.{Rule}, declared.rules.rule.TypeFault.{TypeFault}}
use Rattle.sect_hints.specs.Hints.{hints_of}
use Rattle.sect_names.specs.declared.fault.SchemeFault.{SchemeFault}
use Rattle.sect_lint.specs.{declared.mistake.Mistake.{Mistake}, Places.{of_types, of_scheme, record_item, item_number}}
use Rattle.sect_types.specs.First as types
use Rattle.sect_types.specs.declared.rules.rule.TypeFault.TheVariants as type_fault
use Rattle.sect_names.specs.Verdicts as schemes
use Rattle.sect_names.specs.declared.fault.SchemeFault.TheVariants as scheme_fault
use Rattle.sect_lint.specs.Mistakes as mistakes

breaks_within : (d : Declared) (c : Counts) (list : List Item) (i : ℕ) (r : Rule) → BreaksFrom d c list i r
    → i < length list
breaks_within d c [] i r h = absurd h
breaks_within d c (x ∷ list) zero r h = omega arith
breaks_within d c (x ∷ list) (suc i) r h = omega (arith, breaks_within d (after d c x) list i r h)

within : (t : TreeView) (i : ℕ) (r : Rule) → types.Breaks t i r → i < length (items t)
within t i r h = breaks_within (declared_in t) none_yet (items t) i r h

pub item_within : (t : TreeView) (fault : TypeFault) → fault ≢ type_fault.Memory
    → types.Judges {A = ℕ} t (Err fault) → item_number t (of_types fault) < length (items t)
item_within t type_fault.Memory ne h = absurd (ne refl)
item_within t (type_fault.Unknown i) ne h = within t i _ h.broken
item_within t (type_fault.Twice i) ne h = within t i _ h.broken
item_within t (type_fault.WrongType i) ne h = within t i _ h.broken
item_within t (type_fault.SharedOutside i) ne h = within t i _ h.broken
item_within t (type_fault.Nested i) ne h = within t i _ h.broken
item_within t (type_fault.TooMany i) ne h = within t i _ h.broken
item_within t (type_fault.Recursion i) ne h = within t i _ h.broken
item_within t (type_fault.Arguments i) ne h = within t i _ h.broken

fields_count : (before : List (List ℕ)) (ds : List Declaration) (xs : List Item)
    → length (field_items before ds xs) ≡ length ds + length xs
fields_count before [] xs = omega arith
fields_count before (d ∷ ds) xs = omega (arith, fields_count (before ++ d.name ∷ []) ds xs)

records_within : (before : List (List ℕ)) (rs : List Record) (r : ℕ) (xs : List Item) → r < length rs
    → record_item rs r < length (record_items before rs xs)
records_within before [] r xs h = absurd (omega (arith, h))
records_within before (x ∷ rs) zero xs h = omega arith
records_within before (x ∷ rs) (suc r) xs h =
    omega (
      arith,
      fields_count [] x.fields (record_items (before ++ x.name ∷ []) rs xs),
      records_within (before ++ x.name ∷ []) rs r xs (omega (arith, h)),
    )

record_within : (t : TreeView) (r : ℕ) → r < length t.records → record_item t.records r < length (items t)
record_within t r h = records_within [] t.records r _ h

-- a record with hints is there
hinted_from : (rs : List Record) (r : ℕ) → 0 < length (slice_index_or (map (λ (x : Record). x.hints) rs) r [])
    → r < length rs
hinted_from [] r h = absurd (omega (arith, h))
hinted_from (x ∷ rs) zero h = omega arith
hinted_from (x ∷ rs) (suc r) h = omega (arith, hinted_from rs r h)

some_of : (list : List (List ℕ)) (x : List ℕ) → Has list x → 0 < length list
some_of [] x h = absurd h
some_of (y ∷ list) x h = omega arith

pub broken_within : (p : ProgramView) (k : ℕ) (fault : SchemeFault) → fault ≢ scheme_fault.Memory
    → fault ≢ scheme_fault.BadK → schemes.Judges p k (Err fault)
    → item_number p.source (of_scheme fault) < length (items p.source)
broken_within p k scheme_fault.Memory ne some h = absurd (ne refl)
broken_within p k scheme_fault.BadK ne some h = absurd (some refl)
broken_within p k (scheme_fault.NoSuchGlobal r) ne some h =
    record_within p.source r (hinted_from p.source.records r (some_of (hints_of p r) _ h.1.broken.1))
broken_within p k (scheme_fault.GuardIsGuarded r) ne some h =
    record_within p.source r (hinted_from p.source.records r (some_of (hints_of p r) _ h.1.broken.2))
broken_within p k (scheme_fault.HintTwice r) ne some h =
    record_within p.source r (hinted_from p.source.records r (omega (arith, h.1.broken)))

-- what is a mistake of the text is no want of memory
pub types_known : (fault : TypeFault) (m : Mistake) → Some m ≡ mistakes.of_types fault → fault ≢ type_fault.Memory
types_known fault m h e = none_or_some m (sym (h ∙ ap mistakes.of_types e))

pub scheme_known : (fault : SchemeFault) (m : Mistake) → Some m ≡ mistakes.of_scheme fault
    → fault ≢ scheme_fault.Memory
scheme_known fault m h e = none_or_some m (sym (h ∙ ap mistakes.of_scheme e))

-- What a program's declarations say of its names and types.
use Rattle.std.proofs.Common.{◌≡◌, ◌<◌, ◌≤◌, ℕ, zero, suc, List, [], ◌∷◌, length, get_or, refl, sym, ap, ◌∙◌, arith}
use Rattle.std.proofs.Common.{subst, ◌⊎◌, inl, inr}
use Rattle.std.proofs.lemmas.Bool.{cases_lt}
use Rattle.std.proofs.lemmas.List.{length-map}
use Rattle.std.proofs.lemmas.List.Elements.{All-get_or}
use Rattle.std.specs.{Prelude.{All, slice_index_or}, List.{AllByRecursion}}
use Rattle.sect_front.specs.{declared.tree.Record.{Record}, declared.tree.GlobalObject.{GlobalObject}}
use Rattle.sect_types.specs.Programs.{ProgramView, IsOfTree, IsWithinLimits, AreRecordsThere}
use Rattle.sect_types.specs.Sight.{names_of_records, names_of_globals, all_fields}
use Rattle.sect_types.specs.Environments.{IsInRange, types_of, field_types, type_of, record_number}
use Rattle.sect_types.specs.declared.declarations.types.ValueType.{ValueType}
use Rattle.sect_types.specs.declared.declarations.types.ValueType.TheVariants.{Int}
use Rattle.sect_front.specs.declared.tree.Declaration.{Declaration}
use Rattle.sect_c.proofs.Premises.{NamesEnd, IsThere}

pub beyond : {A : Type 0} (xs : List A) (k : ℕ) (d : A) → length xs ≤ k → get_or xs k d ≡ d
beyond [] k d l = refl
beyond (x ∷ xs) zero d l = absurd (omega arith)
beyond (x ∷ xs) (suc k) d l = beyond xs k d (omega arith)

-- a record's names are as many as its types
rows : (names : List (List ℕ)) (rs : List Record) (k : ℕ)
    → length (get_or (all_fields rs) k []) ≡ length (get_or (field_types names rs) k [])
rows names [] k = refl
rows names (r ∷ rs) zero =
    length-map r.fields (λ (d : Declaration). d.name)
    ∙ sym (length-map r.fields (λ (d : Declaration). type_of names d.kind))
rows names (r ∷ rs) (suc k) = rows names rs k

pub names_end : (p : ProgramView) → IsOfTree p → NamesEnd p
names_end p is = record {
  records = λ r l. beyond (names_of_records p.source.records) r []
      (let a = length-map p.source.records (λ (r : Record). r.name) in
      let b = ap length is.records_are ∙ length-map p.source.records
      (λ (r : Record). types_of (names_of_records p.source.records) r.fields) in
      omega (arith, a, b, l));
  globals = λ g l. beyond (names_of_globals p.source.globals) g []
      (let a = length-map p.source.globals (λ (g : GlobalObject). g.name) in
      let b = ap length is.globals_are
      ∙ length-map p.source.globals (λ (g : GlobalObject). record_number (names_of_records p.source.records) g.of)
      in
      omega (arith, a, b, l));
  fields = λ f l. beyond (get_or (all_fields p.source.records) f.of []) f.number []
      (let a = rows (names_of_records p.source.records) p.source.records f.of in
      let b = ap (λ (rs : List (List ValueType)). length (get_or rs f.of [])) is.records_are in omega (arith, a, b, l));
}

-- a fact of each element, one after another
each_of : {A : Type 0} (P : A → Type 0) (d : A) (xs : List A) → ((i : ℕ) → i < length xs → P (get_or xs i d))
    → AllByRecursion P xs
each_of P d [] h = tt
each_of P d (x ∷ xs) h = (h 0 (omega arith), each_of P d xs (λ i l. h (suc i) (omega arith)))

all_of : {A : Type 0} (P : A → Type 0) (d : A) (xs : List A) → All P xs → AllByRecursion P xs
all_of P d xs h = each_of P d xs (λ i l. All-get_or P xs i d l h)

more_of : {A : Type 0} (P Q : A → Type 0) → ((x : A) → P x → Q x) → (xs : List A) → AllByRecursion P xs
    → AllByRecursion Q xs
more_of P Q f [] h = tt
more_of P Q f (x ∷ xs) h = (f x h.0, more_of P Q f xs h.1)

pub fields_there : (p : ProgramView) → AreRecordsThere p
    → AllByRecursion (λ fields. AllByRecursion (IsThere p) fields) p.records
fields_there p is =
    each_of (λ fields. AllByRecursion (IsThere p) fields) [] p.records
    (λ r l. all_of (IsThere p) Int (get_or p.records r [])
    (All-get_or (λ (ts : List ValueType). All (IsInRange (length p.records)) ts) p.records r [] l is.of_fields))

pub globals_there : (p : ProgramView) → AreRecordsThere p → IsWithinLimits p
    → AllByRecursion (λ r. r < 65536) p.globals
globals_there p is limits =
    more_of (λ r. r < length p.records) (λ r. r < 65536)
    (λ r l. let few : length p.records ≤ 64 = limits.few_records in omega arith) p.globals
    (all_of (λ r. r < length p.records) 0 p.globals is.of_globals)

pub locals_there : (p : ProgramView) → AreRecordsThere p → (u : ℕ)
    → AllByRecursion (IsThere p) (slice_index_or p.locals u [])
locals_there p is u = go (cases_lt u (length p.locals))
  where
    go : (u < length p.locals) ⊎ (length p.locals ≤ u) → AllByRecursion (IsThere p) (slice_index_or p.locals u [])
    go (inl l) =
        all_of (IsThere p) Int (get_or p.locals u [])
        (All-get_or (λ (ts : List ValueType). All (IsInRange (length p.records)) ts) p.locals u [] l is.of_locals)
    go (inr l) = subst (λ ts. AllByRecursion (IsThere p) ts) (sym (beyond p.locals u [] l)) tt

-- What the hints of one record tell.
use Rattle.std.proofs.Common.{◌≡◌, ℕ, zero, suc, ◌<◌, ◌≤◌, ◌==◌, true, false, List, [], ◌∷◌, Option, Some, None, Ok}
use Rattle.std.proofs.Common.{length, map, get_or, slice_get, refl, inl, inr, sym, ap, ◌∙◌, subst, arith}
use Rattle.std.proofs.{lemmas.List.{length-map}, lemmas.List.Quantifiers.{position-Some}}
use Rattle.std.proofs.{lemmas.Option.{slice_get-get_or}, lemmas.Bool.Decides.{nat_tests}}
use Rattle.std.specs.Prelude.{slice_index_or}
use Rattle.sect_front.specs.{declared.tree.Record.{Record}, declared.tree.GlobalObject.{GlobalObject}}
use Rattle.sect_types.specs.Environments.{record_number, types_of}
use Rattle.sect_types.specs.Sight.{same_name, names_of_globals, names_of_records}
use Rattle.sect_types.specs.Programs.{ProgramView, IsOfTree, AreRecordsThere}
use Rattle.sect_lemmas.specs.Lists.{Has}
use Rattle.sect_hints.specs.declared.fault.Rule.{Rule}
use Rattle.sect_hints.specs.declared.fault.Rule.TheVariants.{HintTwice, NoSuchGlobal, GuardIsGuarded}
use Rattle.sect_hints.specs.{Hints.{hints_of, global_of, IsBrokenBy, rank}, Verdicts.{IsFree, IsFirstBroken, Finds}}

-- there are as many records and globals by number as in the tree
pub records_counted : (p : ProgramView) → IsOfTree p → length p.records ≡ length p.source.records
records_counted p of_tree =
    ap length of_tree.records_are ∙ length-map p.source.records
    (λ (r : Record). types_of (names_of_records p.source.records) r.fields)

globals_counted : (p : ProgramView) → IsOfTree p → length p.globals ≡ length p.source.globals
globals_counted p of_tree =
    ap length of_tree.globals_are ∙ length-map p.source.globals
    (λ (g : GlobalObject). record_number (names_of_records p.source.records) g.of)

global_there : (p : ProgramView) (name : List ℕ) (g : ℕ) → IsOfTree p → global_of p name ≡ Some g → g < length p.globals
global_there p name g of_tree e =
    let within = position-Some (same_name name) (names_of_globals p.source.globals) g [] e in
    omega (arith, within.0, globals_counted p of_tree, length-map p.source.globals (λ (x : GlobalObject). x.name))

-- the hints of a record that is there
pub hints_at : (rs : List Record) (r : ℕ) (d : Record) → r < length rs
    → slice_index_or (map (λ (x : Record). x.hints) rs) r [] ≡ (get_or rs r d).hints
hints_at [] r d h = absurd (omega arith)
hints_at (x ∷ rs) zero d h = refl
hints_at (x ∷ rs) (suc r) d h = hints_at rs r d (omega arith)

-- the record of a global has these hints
record IsOwn (p : ProgramView) (g : ℕ) (hints : List (List ℕ)) : Type 0 where
  own : ℕ
  of_own : slice_get p.globals g ≡ Some own
  are : hints_of p own ≡ hints

own_hints : (p : ProgramView) (name : List ℕ) (g : ℕ) (d : Record) (hints : List (List ℕ)) → IsOfTree p
    → AreRecordsThere p → global_of p name ≡ Some g
    → hints ≡ (get_or p.source.records (get_or p.globals g 0) d).hints → IsOwn p g hints
own_hints p name g d hints of_tree there named e =
    let declared = global_there p name g of_tree named in
    let within : get_or p.globals g 0 < length p.records = there.of_globals g 0 declared in
    record {
      own = get_or p.globals g 0;
      of_own = slice_get-get_or p.globals g 0 declared;
      are = hints_at p.source.records (get_or p.globals g 0) d (omega (arith, records_counted p of_tree)) ∙ sym e;
    }

none_of : (hints : List (List ℕ)) → (length hints == 0) ≡ true → hints ≡ []
none_of [] e = refl
none_of (x ∷ hints) e = absurd (grind (arith, nat_tests))

some_of : (hints : List (List ℕ)) → (length hints == 0) ≡ false → 0 < length hints
some_of hints e = grind (arith, nat_tests)

-- a global of a record without hints may be a guard
pub free : (p : ProgramView) (name : List ℕ) (g : ℕ) (d : Record) (hints : List (List ℕ)) → IsOfTree p
    → AreRecordsThere p → global_of p name ≡ Some g
    → hints ≡ (get_or p.source.records (get_or p.globals g 0) d).hints → (length hints == 0) ≡ true → IsFree p name g
free p name g d hints of_tree there named e none =
    let its = own_hints p name g d hints of_tree there named e in
    record { named = named; own = its.own; of_own = its.of_own; unhinted = its.are ∙ none_of hints none }

-- a global of a record with a hint may not
pub guarded : (p : ProgramView) (name : List ℕ) (g : ℕ) (d : Record) (hints : List (List ℕ)) → IsOfTree p
    → AreRecordsThere p → global_of p name ≡ Some g
    → hints ≡ (get_or p.source.records (get_or p.globals g 0) d).hints → (length hints == 0) ≡ false
    → IsFirstBroken p (name ∷ []) GuardIsGuarded
guarded p name g d hints of_tree there named e some =
    let its = own_hints p name g d hints of_tree there named e in
    record {
      broken = (name, its.own, inl refl, (g, named, its.of_own), omega (arith, ap length its.are, some_of hints some));
      least = first;
    }
  where
    first : (q : Rule) → IsBrokenBy p (name ∷ []) q → rank GuardIsGuarded ≤ rank q
    first HintTwice h = absurd (omega arith)
    first NoSuchGlobal (n, has, none) =
        absurd (elim has [
          | inl e ↦ (let both : Some g ≡ None = sym named ∙ (ap (global_of p) e ∙ none) in cc)
          | inr h ↦
              h
        ])
    first GuardIsGuarded h = omega arith

-- a record that is given no guard, or a guard, breaks no rule
pub unbroken : (p : ProgramView) (hints : List (List ℕ)) (guard : Option ℕ) → Finds p hints (Ok guard) → (q : Rule)
    → IsBrokenBy p hints q → ⊥
unbroken p hints None e HintTwice h = omega (arith, ap length e)
unbroken p hints None e NoSuchGlobal (n, has, none) = subst (λ hs. Has hs n) e has
unbroken p hints None e GuardIsGuarded (n, own, has, names, hinted) = subst (λ hs. Has hs n) e has
unbroken p hints (Some g) (name, e, its) HintTwice h = omega (arith, ap length e)
unbroken p hints (Some g) (name, e, its) NoSuchGlobal (n, has, none) =
    elim (subst (λ hs. Has hs n) e has)
    [ inl same ↦ (let both : Some g ≡ None = sym its.named ∙ (ap (global_of p) same ∙ none) in cc) | inr h ↦ h ]
unbroken p hints (Some g) (name, e, its) GuardIsGuarded (n, own, has, (other, named, of_own), hinted) =
    elim (subst (λ hs. Has hs n) e has) [
      | inl same ↦ (
          let both : Some g ≡ Some other = sym its.named ∙ (ap (global_of p) same ∙ named) in
          let one : g ≡ other = cc in
          let owns : Some its.own ≡ Some own = sym its.of_own ∙ (ap (slice_get p.globals) one ∙ of_own) in
          let alike : its.own ≡ own = cc in
          omega (arith, hinted, ap length (sym its.unhinted ∙ ap (hints_of p) alike)))
      | inr h ↦ h
    ]

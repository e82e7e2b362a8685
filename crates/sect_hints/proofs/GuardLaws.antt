-- The guards of the records that have been passed.
use Rattle.std.proofs.Common.{◌≡◌, ℕ, zero, suc, ◌+◌, ◌<◌, ◌≤◌, List, [], ◌∷◌, ◌++◌, Option, Some, None, Ok, Err}
use Rattle.std.proofs.Common.{length, map, get_or, refl, inl, inr, sym, ap, ◌∙◌, subst, arith}
use Rattle.std.proofs.lemmas.List.{length-append, get_or_append_left, get_or_push, get_or_past}
use Rattle.std.proofs.{lemmas.Option.{slice_get_within}, lemmas.Bool.{cases_lt}}
use Rattle.std.specs.Prelude.{slice_index_or}
use Rattle.sect_front.specs.declared.tree.Record.{Record}
use Rattle.sect_types.specs.Programs.{ProgramView, IsOfTree}
use Rattle.sect_hints.specs.declared.fault.Rule.{Rule}
use Rattle.sect_hints.specs.declared.fault.Rule.TheVariants.{HintTwice, NoSuchGlobal, GuardIsGuarded}
use Rattle.sect_hints.specs.declared.fault.HintFault.{HintFault}
use Rattle.sect_hints.specs.Hints.{hints_of, global_of, IsBroken, ObeysHints, IsFirstFault, IsGuardOf, AreGuards}
use Rattle.sect_hints.specs.{Hints.{AreUnguarded}, Faults.{hint_fault, Judges}, Verdicts.{IsFirstBroken, Finds}}
use Rattle.sect_hints.proofs.HintLaws.{records_counted, hints_at, unbroken}

-- the first i records break no rule, and the list has their guards
pub record ArePassed (p : ProgramView) (i : ℕ) (list : List (Option ℕ)) : Type 0 where
  pub as_many : length list ≡ i
  pub each : (r : ℕ) → r < i → Finds p (hints_of p r) (Ok (get_or list r None))

-- the hints that were looked at are the record's
at_hints : (p : ProgramView) (i : ℕ) (d : Record) (hints : List (List ℕ)) (rs : List Record) → rs ≡ p.source.records
    → i < length rs → hints ≡ (get_or rs i d).hints → hints ≡ hints_of p i
at_hints p i d hints rs same h e =
    e ∙ (sym (hints_at rs i d h) ∙ ap (λ l. slice_index_or (map (λ (x : Record). x.hints) l) i []) same)

-- one record more has been passed
pub one_passed : (p : ProgramView) (i : ℕ) (d : Record) (hints : List (List ℕ)) (guard : Option ℕ) (rs : List Record)
    (list more : List (Option ℕ)) → rs ≡ p.source.records
    → i < length rs → hints ≡ (get_or rs i d).hints → Finds p hints (Ok guard) → more ≡ list ++ guard ∷ []
    → ArePassed p i list → ArePassed p (i + 1) more
one_passed p i d hints guard rs list more same h e found grown so_far = record {
  as_many = omega (arith, ap length grown, length-append list (guard ∷ []), so_far.as_many);
  each = each;
}
  where
    at : (r : ℕ) → get_or more r None ≡ get_or (list ++ guard ∷ []) r None
    at r = ap (λ l. get_or l r None) grown

    here : Finds p (hints_of p i) (Ok guard)
    here = subst (λ hs. Finds p hs (Ok guard)) (at_hints p i d hints rs same h e) found

    each : (r : ℕ) → r < i + 1 → Finds p (hints_of p r) (Ok (get_or more r None))
    each r below = elim (cases_lt r i) [
      | inl before ↦ subst (λ g. Finds p (hints_of p r) (Ok g))
          (sym (at r ∙ get_or_append_left list (guard ∷ []) None r (omega (arith, so_far.as_many))))
          (so_far.each r before)
      | inr not_before ↦ (
          let this : i ≡ r = omega arith in
          subst (λ g. Finds p (hints_of p r) (Ok g))
          (sym (at r ∙ get_or_push list guard None r (so_far.as_many ∙ this)))
          (subst (λ s. Finds p (hints_of p s) (Ok guard)) this here))
    ]

-- a rule that is broken at the next record is the first
pub first_fault : (p : ProgramView) (i : ℕ) (d : Record) (hints : List (List ℕ)) (rule : Rule) (rs : List Record)
    (list : List (Option ℕ)) → rs ≡ p.source.records
    → i < length rs → hints ≡ (get_or rs i d).hints → Finds p hints (Err rule) → ArePassed p i list
    → IsFirstFault p i rule
first_fault p i d hints rule rs list same h e found so_far =
    let here : IsFirstBroken p (hints_of p i) rule =
    subst (λ hs. IsFirstBroken p hs rule) (at_hints p i d hints rs same h e) found in
    record { broken = here.broken; first = first; least = here.least }
  where
    first : (s : ℕ) (q : Rule) → IsBroken p s q → i ≤ s
    first s q broken = elim (cases_lt s i) [
      | inl before ↦ absurd (unbroken p (hints_of p s) (get_or list s None) (so_far.each s before) q broken)
      | inr after ↦ after
    ]

-- the refusal says so
pub judged : (p : ProgramView) (i : ℕ) (rule : Rule) (fault : HintFault) → fault ≡ hint_fault rule i
    → IsFirstFault p i rule → Judges {A = ℕ} p (Err fault)
judged p i HintTwice fault e h = subst (λ f. Judges {A = ℕ} p (Err f)) (sym e) h
judged p i NoSuchGlobal fault e h = subst (λ f. Judges {A = ℕ} p (Err f)) (sym e) h
judged p i GuardIsGuarded fault e h = subst (λ f. Judges {A = ℕ} p (Err f)) (sym e) h

-- past the last record there are no hints
past : (rs : List Record) (r : ℕ) → length rs ≤ r → slice_index_or (map (λ (x : Record). x.hints) rs) r [] ≡ []
past [] r h = refl
past (x ∷ rs) zero h = absurd (omega arith)
past (x ∷ rs) (suc r) h = past rs r (omega arith)

-- the loop's end has all records behind it
pub all_passed : (p : ProgramView) (i : ℕ) (rs : List Record) (list end : List (Option ℕ)) → rs ≡ p.source.records
    → i ≤ length rs → length rs ≤ i → end ≡ list → ArePassed p i list
    → ArePassed p (length p.source.records) end
all_passed p i rs list end same below above e passed =
    let number : i ≡ length p.source.records = omega (arith, ap length same) in
    subst (λ n. ArePassed p n end) number (subst (ArePassed p i) (sym e) passed)

-- then the list has what is found at each record, also past the last
found_at : (p : ProgramView) (list : List (Option ℕ)) → ArePassed p (length p.source.records) list → (r : ℕ)
    → Finds p (hints_of p r) (Ok (get_or list r None))
found_at p list passed r = elim (cases_lt r (length p.source.records)) [
  | inl there ↦ passed.each r there
  | inr beyond ↦ subst (λ g. Finds p (hints_of p r) (Ok g))
      (sym (get_or_past list r None (omega (arith, passed.as_many)))) (past p.source.records r beyond)
]

-- no rule is broken
pub all_obey : (p : ProgramView) (list : List (Option ℕ)) → ArePassed p (length p.source.records) list → ObeysHints p
all_obey p list passed r q broken = unbroken p (hints_of p r) (get_or list r None) (found_at p list passed r) q broken

-- a lone hint that is a global's name gives that global, and no hint gives none
some_found : (p : ProgramView) (hints : List (List ℕ)) (name : List ℕ) (g : ℕ) (guard : Option ℕ) → hints ≡ name ∷ []
    → global_of p name ≡ Some g → Finds p hints (Ok guard) → guard ≡ Some g
some_found p hints name g None e named none = let clash : [] ≡ name ∷ [] = sym none ∙ e in absurd cc
some_found p hints name g (Some other) e named (its_name, is, its) =
    let alike : its_name ∷ [] ≡ name ∷ [] = sym is ∙ e in
    let same : its_name ≡ name = cc in
    sym its.named ∙ (ap (global_of p) same ∙ named)

none_found : (p : ProgramView) (hints : List (List ℕ)) (guard : Option ℕ) → hints ≡ [] → Finds p hints (Ok guard)
    → guard ≡ None
none_found p hints None e found = refl
none_found p hints (Some g) e (name, is, its) = let clash : [] ≡ name ∷ [] = sym e ∙ is in absurd cc

-- what was found for the guard that the list has
told : (p : ProgramView) (list : List (Option ℕ)) (r : ℕ) (guard : Option ℕ)
    → ArePassed p (length p.source.records) list → get_or list r None ≡ guard → Finds p (hints_of p r) (Ok guard)
told p list r guard passed e = subst (λ g. Finds p (hints_of p r) (Ok g)) e (found_at p list passed r)

-- the list has the guards
pub all_guards : (p : ProgramView) (list : List (Option ℕ)) → IsOfTree p → ArePassed p (length p.source.records) list
    → AreGuards p list
all_guards p list of_tree passed = record {
  as_many = passed.as_many ∙ sym (records_counted p of_tree);
  guarded = λ r g. (is_guard r g, gives_guard r g);
  unguarded = λ r. (
    λ e. told p list r None passed e,
    λ e. none_found p (hints_of p r) (get_or list r None) e (found_at p list passed r),
  );
}
  where
    is_guard : (r g : ℕ) → get_or list r None ≡ Some g → IsGuardOf p r g
    is_guard r g e = let found = told p list r (Some g) passed e in (found.0, found.1, found.2.named)

    gives_guard : (r g : ℕ) → IsGuardOf p r g → get_or list r None ≡ Some g
    gives_guard r g (name, e, named) =
        some_found p (hints_of p r) name g (get_or list r None) e named (found_at p list passed r)

-- and none of them is guarded itself
pub all_unguarded : (p : ProgramView) (list : List (Option ℕ)) → ArePassed p (length p.source.records) list
    → AreUnguarded p list
all_unguarded p list passed r g e =
    let its = (told p list r (Some g) passed e).2 in
    record {
      declared = slice_get_within p.globals g its.own its.of_own;
      own = its.own;
      of_own = its.of_own;
      none = none_found p (hints_of p its.own) (get_or list its.own None) its.unhinted (found_at p list passed its.own);
    }

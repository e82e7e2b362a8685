-- Hints that are tried record by record, and what they add to the notes of warnings.
use Rattle.std.proofs.Common.{◌≡◌, ◌<◌, ◌≤◌, ◌⊎◌, ◌++◌, ◌∙◌, ℕ, zero, suc, Bool, true, false, List, [], ◌∷◌, length}
use Rattle.std.proofs.Common.{Option, Some, None, refl, sym, ap, subst, inl, inr, arith, cond, true≢false}
use Rattle.std.proofs.Common.{◌+◌, below_more}
use Rattle.std.proofs.lemmas.List.{append_assoc, append-nil, get_or-set_same, get_or-set_other, length-set}
use Rattle.std.proofs.lemmas.{Option.{slice_get_cases}, Bool.{or_parts}}
use Rattle.std.specs.{Prelude.{nat_eq, is_some, slice_index_or, slice_set}, List.{list_any}, Cmp.{unsigned_Decides}}
use Rattle.std.specs.String.{string_bytes}
use Rattle.sect_front.specs.{declared.tree.Record.{Record}}
use Rattle.sect_places.specs.declared.name_use.NameSpan.{NameSpan}
use Rattle.sect_emit.specs.Compiled.{CompiledView}
use Rattle.sect_warnings.specs.{declared.trials.Trial.{Trial}}
use Rattle.sect_warnings.specs.{Placed.{PlacedView}, Hinting.{IsHintSaid, IsHintOf, guard_for, declared_by, hint_words}}
use Rattle.sect_warnings.specs.declared.hinting.TriedHint.{TriedHint}
use Rattle.sect_lint.specs.Naming.{found}
use Rattle.sect_warnings.specs.ClassLocks.{class_lock}
use Rattle.sect_warnings.specs.steps.Trials.{sought, IsAdded, IsTried, IsTrialSaid, IsTriedFor, IsTriedBelow}
use Rattle.sect_warnings.specs.steps.Trials.{with_note, no_placed}
use Rattle.sect_warnings.specs.steps.Trials.{AreNoted}

-- with nothing added a warning is as it was
pub noted_nothing : (p : PlacedView) → p ≡ with_note p []
noted_nothing p = sym (ap (λ n. record p { note = n }) (append-nil p.note))

pub noted_twice : (p : PlacedView) (s t : List ℕ) → with_note (with_note p s) t ≡ with_note p (s ++ t)
noted_twice p s t = ap (λ n. record p { note = n }) (append_assoc p.note s t)

-- where what is said is nothing, no note changes
pub all_unsaid : (Says : Option Trial → List ℕ → Type 0) (trials : List (Option Trial)) (ps : List PlacedView)
    → ((k : ℕ) → Says (slice_index_or trials k None) []) → AreNoted Says trials ps ps
all_unsaid Says trials ps each = record {
  still = refl;
  each = λ k lt. ([], each k, noted_nothing (slice_index_or ps k no_placed));
}

-- what is added in two steps
pub in_two : (A B C : Option Trial → List ℕ → Type 0)
    → ((o : Option Trial) (s t : List ℕ) → A o s → B o t → C o (s ++ t)) → (trials : List (Option Trial))
    (xs ys zs : List PlacedView) → AreNoted A trials xs ys → AreNoted B trials ys zs → AreNoted C trials xs zs
in_two A B C both trials xs ys zs first second = record {
  still = second.still ∙ first.still;
  each = λ k lt.
      (let a = first.each k lt in
      let b = second.each k (omega (arith, lt, first.still)) in (
        a.0 ++ b.0,
        both (slice_index_or trials k None) a.0 b.0 a.1 b.1,
        b.2 ∙ ap (λ p. with_note p b.0) a.2 ∙ noted_twice (slice_index_or xs k no_placed) a.0 b.0,
      ));
}

-- what is added is said so too
pub noted_as : (A B : Option Trial → List ℕ → Type 0) → ((o : Option Trial) (s : List ℕ) → A o s → B o s)
    → (trials : List (Option Trial)) (xs ys : List PlacedView) → AreNoted A trials xs ys → AreNoted B trials xs ys
noted_as A B so trials xs ys noted = record {
  still = noted.still;
  each = λ k lt. (let a = noted.each k lt in (a.0, so (slice_index_or trials k None) a.0 a.1, a.2));
}

-- to the notes of the first warnings, so many, is added what is said of their trials
module _ (Says : Option Trial → List ℕ → Type 0) (trials : List (Option Trial)) (old : List PlacedView) where
  abbrev pub IsNotedAt : List PlacedView → ℕ → Type 0
  IsNotedAt now k =
      (said : List ℕ) × Says (slice_index_or trials k None) said
      × (slice_index_or now k no_placed ≡ with_note (slice_index_or old k no_placed) said)

  pub record AreNotedBelow (m : ℕ) (now : List PlacedView) : Type 0 where
    pub still : length now ≡ length old
    pub each : (k : ℕ) → k < m → IsNotedAt now k
    pub rest : (k : ℕ) → m ≤ k → slice_index_or now k no_placed ≡ slice_index_or old k no_placed

  pub none_noted : AreNotedBelow 0 old
  none_noted = record {
    still = refl;
    each = λ k lt. absurd (omega (arith, lt));
    rest = λ k le. refl;
  }

  -- nothing is said of the next
  pub none_more : (m : ℕ) (now : List PlacedView) → AreNotedBelow m now → Says (slice_index_or trials m None) []
      → AreNotedBelow (m + 1) now
  none_more m now before none = record {
    still = before.still;
    each = below_more (IsNotedAt now) m before.each
        ([], none, before.rest m (omega arith) ∙ noted_nothing (slice_index_or old m no_placed));
    rest = λ k le. before.rest k (omega (arith, le));
  }

  -- this is said of the next
  pub one_more : (m : ℕ) (now : List PlacedView) (said : List ℕ) → m < length old → AreNotedBelow m now
      → Says (slice_index_or trials m None) said
      → AreNotedBelow (m + 1) (slice_set now m (with_note (slice_index_or now m no_placed) said))
  one_more m now said within before says =
      let there : m < length now = omega (arith, within, before.still) in
      let put : PlacedView = with_note (slice_index_or now m no_placed) said in
      let other : (k : ℕ) → (k ≡ m → ⊥) → slice_index_or (slice_set now m put) k no_placed
      ≡ slice_index_or now k no_placed
      = λ k apart. get_or-set_other now m k put no_placed apart in
      record {
        still = length-set now m put ∙ before.still;
        each = below_more (IsNotedAt (slice_set now m put)) m
            (λ k below.
            (let a = before.each k below in
            (a.0, a.1, other k (λ e. absurd (omega (arith, below, e))) ∙ a.2))) (
              said,
              says,
              get_or-set_same now m put no_placed there
                  ∙ ap (λ p. with_note p said) (before.rest m (omega arith)),
            );
        rest = λ k le. other k (λ e. absurd (omega (arith, le, e))) ∙ before.rest k (omega (arith, le));
      }

  pub all_noted : (m : ℕ) (now : List PlacedView) → length old ≤ m → AreNotedBelow m now
      → AreNoted Says trials old now
  all_noted m now all noted = record {
    still = noted.still;
    each = λ k lt. noted.each k (omega (arith, lt, all));
  }

-- a trial is of that record or it isn't
sought_is : (r : ℕ) (t : Trial)
    → ((t.guarded ≡ r) × (sought r (Some t) ≡ Some t.of)) ⊎ ((t.guarded ≡ r → ⊥) × (sought r (Some t) ≡ None))
sought_is r t = by (nat_eq t.guarded r) refl where
  by : (b : Bool) → nat_eq t.guarded r ≡ b
      → ((t.guarded ≡ r) × (cond b (Some t.of) None ≡ Some t.of))
      ⊎ ((t.guarded ≡ r → ⊥) × (cond b (Some t.of) None ≡ None))
  by true e = inl ((unsigned_Decides t.guarded r).0 e, refl)
  by false e = inr (λ same. true≢false (sym ((unsigned_Decides t.guarded r).1 same) ∙ e), refl)

module _ (source : List ℕ) (names : List NameSpan) (c : CompiledView) where
  -- before any record nothing is said
  pub none_below : (o : Option Trial) → IsTriedBelow source names c 0 o []
  none_below None = refl
  none_below (Some t) = (λ lt. absurd (omega (arith, lt)), λ le. refl)

  -- behind the records below r that of r is tried
  pub one_below : (r : ℕ) (o : Option Trial) (s t : List ℕ) → IsTriedBelow source names c r o s
      → IsTriedFor source names c r o t → IsTriedBelow source names c (r + 1) o (s ++ t)
  one_below r None s t below own = ap (λ x. x ++ t) below ∙ own
  one_below r (Some x) s t below own = (
    λ lt. elim (sought_is r x) [
      | inl here ↦
          let le : r ≤ x.guarded = omega (arith, here.0) in
          let same : t ≡ s ++ t = sym (ap (λ y. y ++ t) (below.1 le)) in
          subst (IsTrialSaid source names c (Some x)) same (own.0 here.0)
      | inr other ↦
          let less : x.guarded < r = omega (arith, lt, other.0) in
          let same : s ≡ s ++ t = sym (ap (λ y. s ++ y) (own.1 other.0) ∙ append-nil s) in
          subst (IsTrialSaid source names c (Some x)) same (below.0 less)
    ],
    λ le.
        let other : x.guarded ≡ r → ⊥ = λ e. absurd (omega (arith, le, e)) in
        let before : r ≤ x.guarded = omega (arith, le) in
        ap (λ y. y ++ t) (below.1 before) ∙ own.1 other,
  )

  -- behind all records each trial's hint is said: of a record that isn't there that is nothing
  pub all_below : (o : Option Trial) (s : List ℕ)
      → IsTriedBelow source names c (length c.scheme.program.source.records) o s → IsTrialSaid source names c o s
  all_below None s below = below
  all_below (Some t) s below = elim (slice_get_cases c.scheme.program.source.records t.guarded).1 [
    | inl there ↦ below.0 there.1
    | inr past ↦ subst (λ (o : Option Record).
        IsHintOf source c t.of.section (class_lock t.of.lock.class t.of.lock.effect)
        (found names (declared_by names o)) (guard_for c.scheme t.guarded) s) (sym past.1) (below.1 past.0)
  ]

  -- a record whose hint is sought by none
  pub none_for : (r : ℕ) (o : Option Trial) → is_some (sought r o) ≡ false → IsTriedFor source names c r o []
  none_for r None isnt = refl
  none_for r (Some t) isnt = elim (sought_is r t) [
    | inl here ↦ absurd (true≢false (sym (ap is_some here.1) ∙ isnt))
    | inr other ↦ ((λ e. absurd (other.0 e)), λ e. refl)
  ]

  -- a record whose hint can't be tried
  pub untried_for : (r : ℕ) (o : Option Trial) → IsTried source names c r None → IsTriedFor source names c r o []
  untried_for r None tried = refl
  untried_for r (Some t) tried = (
    λ e. subst (λ q. IsHintSaid source names c t.of.section (class_lock t.of.lock.class t.of.lock.effect) (Some q) [])
        (sym e) (tried t.of.section (class_lock t.of.lock.class t.of.lock.effect)),
    λ e. refl,
  )

  -- one whose hint was tried
  pub tried_for : (r : ℕ) (d : TriedHint) (o : Option Trial) (s : List ℕ) → IsTried source names c r (Some d)
      → IsAdded d.compiled (hint_words d.name (string_bytes d.guard)) (sought r o) s
      → IsTriedFor source names c r o s
  tried_for r d None s tried added = added
  tried_for r d (Some t) s tried added = elim (sought_is r t) [
    | inl here ↦
        let a = subst (λ w. IsAdded d.compiled (hint_words d.name (string_bytes d.guard)) w s) here.1 added in (
          λ e. subst (λ q. IsHintSaid source names c t.of.section (class_lock t.of.lock.class t.of.lock.effect)
              (Some q) s) (sym e)
              (subst (IsHintSaid source names c t.of.section (class_lock t.of.lock.class t.of.lock.effect) (Some r))
              (sym a.2) (tried t.of.section (class_lock t.of.lock.class t.of.lock.effect) a.0 a.1)),
          λ e. absurd (e here.0),
        )
    | inr other ↦
        let a = subst (λ w. IsAdded d.compiled (hint_words d.name (string_bytes d.guard)) w s) other.1 added in
        ((λ e. absurd (other.0 e)), λ e. a)
  ]

-- where none of a list is, each isn't
pub none_at : {A : Type 0} (f : A → Bool) (xs : List A) (d : A) → list_any f xs ≡ false → f d ≡ false → (k : ℕ)
    → f (slice_index_or xs k d) ≡ false
none_at f [] d none last k = last
none_at f (x ∷ xs) d none last zero = (or_parts (f x) (list_any f xs) none).0
none_at f (x ∷ xs) d none last (suc k) = none_at f xs d (or_parts (f x) (list_any f xs) none).1 last k

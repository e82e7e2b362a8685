-- Which keys may be left out is seen by the fixed parts of the plans and by the points-to sets.
use Rattle.std.proofs.Common.{◌≡◌, ◌≢◌, ◌⊎◌, ◌<◌, inl, inr, ◌∙◌, refl, sym, ap, subst, arith, ℕ, List, [], ◌∷◌, length}
use Rattle.std.proofs.Common.{true≢false, Bool, false, Some, ◌||◌, not}
use Rattle.std.proofs.lemmas.Option.{slice_get_within, slice_get-get_or}
use Rattle.std.proofs.lemmas.Bool.{or_cases, not_from_false, not-true}
use Rattle.std.specs.Prelude.{slice_get, slice_index_or}
use Rattle.sect_lemmas.specs.Lists.{Has}
use Rattle.sect_lemmas.proofs.{Membership.{Has-cases}, Options.{some_injective}}
use Rattle.sect_types.specs.{Sections.{sections_of}, Store.{StoreView, ObjectView, object_at}}
use Rattle.sect_types.specs.{Meaning.{WorkView}, declared.meaning.store.ObjectName.{ObjectName}}
use Rattle.sect_points.specs.{Paths.{PathHas}, Sets.{InSets}}
use Rattle.sect_modes.specs.{declared.mode.Mode.{Mode}, declared.key.Key.{Key}, Mode.{are_compatible, join_of}}
use Rattle.sect_names.specs.{Locks.{IsPathIn}}
use Rattle.sect_emit.specs.declared.plan.Grip.{Grip}
use Rattle.sect_emit.specs.Plan.{grip, key_of, object_mode, gathered, object_wishes, IsFixedPart}
use Rattle.sect_emit.specs.{Pointed.{ObjectsStay}, State.{plan_at}}
use Rattle.sect_emit.specs.Compiled.{CompiledView, IsCompiled, program_of}
use Rattle.sect_emit.proofs.shared.Modes.{all_modes, each_mode, if_then, holds, sharing_turned}
use Rattle.sect_emit.proofs.shared.Pointing.{denoted}
use Rattle.sect_emit.proofs.shared.Plans.{gathered-all, fixed_part_keys, object_part_keys, object_wish_from}
use Rattle.sect_emit.proofs.shared.PlanModes.{key_of-injective, class_or_object, all_or_object}
use Rattle.sect_emit.proofs.shared.TypedPrograms.{typed_program}
use Rattle.sect_conflicts.specs.{Conflicts.{Clash, set_at}, Laws.{IsSectionOver}}
use Rattle.sect_world.specs.Loose.{NoPartIsAgainst, NoPathIsAgainst, IsSeen}
use Rattle.sect_names.specs.declared.lock.Lock.TheVariants as lock

abbrev parts_apart : Mode → Mode → Mode → Bool
parts_apart m n b = if_then (not (are_compatible (join_of m n) b))
    (not (are_compatible m b) || not (are_compatible n b))

-- what isn't compatible with a join isn't with one of both
join_apart : (m n b : Mode) → are_compatible (join_of m n) b ≡ false
    → (are_compatible m b ≡ false) ⊎ (are_compatible n b ≡ false)
join_apart m n b e =
    elim (or_cases (not (are_compatible m b)) (not (are_compatible n b)) (holds _ _
    (each_mode (parts_apart m n) (each_mode (λ n. all_modes (parts_apart m n))
    (each_mode (λ m. all_modes (λ n. all_modes (parts_apart m n))) refl m) n) b)
    (not_from_false (are_compatible (join_of m n) b) e))) [
      | inl h ↦ inl (not-true (are_compatible m b) h)
      | inr h ↦ inr (not-true (are_compatible n b) h)
    ]

abbrev WishAgainst : List Grip → Key → Mode → Type 0
WishAgainst gs k b = (x : Grip) × Has gs x × (x.key ≡ k) × (are_compatible x.mode b ≡ false)

wish_against : (gs : List Grip) (g : Grip) → Has (gathered gs) g → (b : Mode) → are_compatible g.mode b ≡ false
    → WishAgainst gs g.key b
wish_against gs g h = gathered-all (λ k a. (b : Mode) → are_compatible a b ≡ false → WishAgainst gs k b)
    (λ k m n x y b e. elim (join_apart m n b e) [ inl l ↦ x b l | inr r ↦ y b r ]) gs
    (λ x i b e. (x, i, refl, e)) g h

module _ (c : CompiledView) (compiled : IsCompiled c) where
  -- another section, and a clash of its plan with one key
  module _ (t : ℕ) (k : Key) (m : Mode) (j : ℕ) (before : StoreView) (w : WorkView) (over : IsSectionOver c j before w)
      (other : over.section.thread ≢ t) where
    within : j < length (sections_of (program_of c).texts)
    within = slice_get_within (sections_of (program_of c).texts) j over.section over.at

    set_is : slice_get c.sets j ≡ Some (set_at c j)
    set_is = slice_get-get_or c.sets j [] (let h = within in omega (arith, h, compiled.set_count))

    part_is : slice_get c.parts j ≡ Some (slice_index_or c.parts j [])
    part_is = slice_get-get_or c.parts j [] (let h = within in omega (arith, h, compiled.part_count))

    planned : IsFixedPart c.scheme (set_at c j) (slice_index_or c.parts j [])
    planned = compiled.planned j (set_at c j) (slice_index_or c.parts j []) set_is part_is

    abbrev part : List Grip
    part = slice_index_or c.parts j []

    abbrev objects : List Grip
    objects = gathered (object_wishes before w.locals (set_at c j))

    by_part : NoPartIsAgainst c t k m → ((o : ObjectName) → k ≡ key_of o → ⊥) → (n : Mode)
        → Has (plan_at c j before w.locals) (grip k n) → are_compatible m n ≡ false → ⊥
    by_part none fixed n has apart = elim (Has-cases part objects (grip k n) has) [
      | inl i ↦ true≢false (sym (none j over.section over.at other n i) ∙ apart)
      | inr i ↦ (let o = object_part_keys before w.locals (set_at c j) (grip k n) i in fixed o.0 o.1)
    ]

    by_path : (store now : StoreView) (o : ObjectName) (x : ObjectView) → object_at store o ≡ Some x
        → NoPathIsAgainst c t x.site m → k ≡ key_of o → ObjectsStay store now → ObjectsStay before now → (n : Mode)
        → Has (plan_at c j before w.locals) (grip k n) → are_compatible m n ≡ false → ⊥
    by_path store now o x there none is stay remain n has apart = elim (Has-cases part objects (grip k n) has) [
      | inl i ↦ (elim (fixed_part_keys c.scheme (set_at c j) part planned (grip k n) i) [
        | inl e ↦ all_or_object o (sym e ∙ is)
        | inr (a, e) ↦ class_or_object a o (sym e ∙ is)
      ])
      | inr i ↦
          let x' = wish_against (object_wishes before w.locals (set_at c j)) (grip k n) i m (sharing_turned n m ∙ apart)
          in
          let q = object_wish_from before w.locals (set_at c j) x'.0 x'.1 in
          let same = key_of-injective q.2 o (sym (ap (λ (g : Grip). g.key) q.5) ∙ x'.2 ∙ is) in
          let own : IsPathIn c.scheme over.section.thread q.0 =
          compiled.lawful j over.section (set_at c j) (lock.Path q.0 q.1) over.at set_is q.3 in
          let a = denoted c.scheme compiled.scheme (typed_program c compiled) over.section.thread before w over.pointed
          q.0 own.of q.2 own.refers own.own q.4 in
          let mine = stay o x there in
          let theirs = remain o a.0 (subst (λ z. object_at before z ≡ Some a.0) same a.1) in
          let one : theirs.0 ≡ mine.0 = some_injective theirs.0 mine.0 (sym theirs.1 ∙ mine.1) in
          let site : a.0.site ≡ x.site = sym theirs.2 ∙ ap (λ (z : ObjectView). z.site) one ∙ mine.2 in
          let goes = none j over.section over.at other q.0 q.1 q.3
          (subst (PathHas (InSets c.scheme.classes.sets) q.0) site a.2) in
          let modes : are_compatible (object_mode q.1) m ≡ false =
          subst (λ (g : Grip). are_compatible g.mode m ≡ false) q.5 x'.3 in
          true≢false (sym goes ∙ (sharing_turned m (object_mode q.1) ∙ modes))
    ]

  one_key : (k : Key) (m : Mode) (gs : List Grip) → ((n : Mode) → Has gs (grip k n) → are_compatible m n ≡ false → ⊥)
      → Clash (grip k m ∷ []) gs → ⊥
  one_key k m gs none (k', m', n, inl e, has, apart) =
      none n (subst (λ z. Has gs (grip z n)) (sym (ap (λ (g : Grip). g.key) e)) has)
      (ap (λ (g : Grip). are_compatible g.mode n) e ∙ apart)
  one_key k m gs none (k', m', n, inr e, has, apart) = e

  pub is_seen : IsSeen c
  is_seen = record {
    fixed = λ t store k m fixed none j before now w over other stay remain.
        one_key k m (plan_at c j before w.locals) (by_part t k m j before w over other none fixed);
    objects = λ t store o x m there none j before now w over other stay remain.
        one_key (key_of o) m (plan_at c j before w.locals)
        (by_path t (key_of o) m j before w over other store now o x there none refl stay remain);
  }

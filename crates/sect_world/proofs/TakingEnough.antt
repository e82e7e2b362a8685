-- What sections take of their plans is enough.
use Rattle.std.proofs.Common.{◌≡◌, ◌⊎◌, ◌<◌, inl, inr, ◌∙◌, refl, sym, ap, subst, arith, ℕ, List, [], ◌∷◌, length}
use Rattle.std.proofs.Common.{Bool, true, false, Some}
use Rattle.std.proofs.lemmas.Option.{slice_get_within, slice_get-get_or}
use Rattle.std.specs.Prelude.{slice_get, slice_index_or}
use Rattle.sect_lemmas.specs.Lists.{Has}
use Rattle.sect_lemmas.proofs.Membership.{Has-cases, Has-left, Has-right}
use Rattle.sect_types.specs.{Sections.{sections_of}, Store.{StoreView, ObjectView, object_at}}
use Rattle.sect_types.specs.{Meaning.{WorkView}, declared.meaning.store.ObjectName.{ObjectName}}
use Rattle.sect_types.specs.declared.meaning.store.Datum.TheVariants.{Refers}
use Rattle.sect_points.specs.{Paths.{PathView, PathHas}, Sets.{InSets}}
use Rattle.sect_modes.specs.{declared.mode.Mode.{Mode}, declared.key.Key.{Key}}
use Rattle.sect_modes.specs.Mode.{are_compatible, is_at_least, join_of}
use Rattle.sect_modes.specs.Key.{is_key_below}
use Rattle.sect_names.specs.{Locks.{IsPathIn}, declared.lock.Effect.{Effect}, declared.lock.Lock.{Lock}}
use Rattle.sect_emit.specs.declared.plan.Grip.{Grip}
use Rattle.sect_emit.specs.Plan.{grip, key_of, object_mode, gathered, object_wishes, plan_of, path_datum, IsFixedPart}
use Rattle.sect_emit.specs.Plan.{held_mode, is_met, Ascends}
use Rattle.sect_emit.specs.{State.{plan_at}, Compiled.{CompiledView, IsCompiled, program_of}}
use Rattle.sect_emit.proofs.shared.Modes.{at_least_itself}
use Rattle.sect_emit.proofs.shared.Pointing.{denoted}
use Rattle.sect_emit.proofs.shared.Plans.{gathered-all, gathered_key, gathered_meets, gathered_ascends, plan_ascends}
use Rattle.sect_emit.proofs.shared.Plans.{fixed_part_keys, object_wish_from, ascending_mode, ascends-append}
use Rattle.sect_emit.proofs.shared.Plans.{ascends_left, ascending_across}
use Rattle.sect_emit.proofs.shared.PlanModes.{object_wish_there, class_or_object, all_or_object}
use Rattle.sect_emit.proofs.shared.TypedPrograms.{typed_program}
use Rattle.sect_conflicts.specs.{Conflicts.{Selects, set_at}, Laws.{IsSectionOver}}
use Rattle.sect_conflicts.specs.Taken.{TakenView, AreTaken, IsKeyMet, IsPathMet}
use Rattle.sect_conflicts.proofs.shared.Selecting.{selected, chosen_or_not}
use Rattle.sect_world.specs.{Loose.{MayBeLeftOut, NoPartIsAgainst, NoPathIsAgainst}, Enough.{TakenKeysAreEnough}}
use Rattle.sect_world.proofs.LeavingOut.{is_seen}
use Rattle.sect_names.specs.declared.lock.Effect.TheVariants as effect
use Rattle.sect_names.specs.declared.lock.Lock.TheVariants as lock

-- what is chosen of an ascending list ascends
chosen_ascends : (P : Grip → Type 0) (xs ys : List Grip) → Selects P xs ys → Ascends xs → Ascends ys
chosen_ascends P [] ys none up = subst Ascends (sym none) tt
chosen_ascends P (x ∷ xs) ys (inl (rest, p, is, more)) up =
    subst Ascends (sym is) ((λ h has. up.0 h (selected P xs rest more h has).0), chosen_ascends P xs rest more up.1)
chosen_ascends P (x ∷ xs) ys (inr (fails, more)) up = chosen_ascends P xs ys more up.1

-- of two modes of an object one is their join
join_objects : (e d : Effect) → (join_of (object_mode e) (object_mode d) ≡ object_mode e)
    ⊎ (join_of (object_mode e) (object_mode d) ≡ object_mode d)
join_objects effect.Read effect.Read = inl refl
join_objects effect.Read effect.Write = inr refl
join_objects effect.Write effect.Read = inl refl
join_objects effect.Write effect.Write = inl refl

-- in an ascending list a key is met that stands there at least so strongly
met_there : (gs : List Grip) → Ascends gs → (k : Key) (n m : Mode) → Has gs (grip k n) → is_at_least n m ≡ true
    → is_met (held_mode k gs) m ≡ true
met_there gs up k n m has at_least =
    subst (λ o. is_met o m ≡ true) (sym (ascending_mode gs up (grip k n) has)) at_least

module _ (c : CompiledView) (compiled : IsCompiled c) (taken : TakenView) (are : AreTaken c taken) (i : ℕ)
    (store : StoreView) (w : WorkView) (over : IsSectionOver c i store w) where
  within : i < length (sections_of (program_of c).texts)
  within = slice_get_within (sections_of (program_of c).texts) i over.section over.at

  set_is : slice_get c.sets i ≡ Some (set_at c i)
  set_is = slice_get-get_or c.sets i [] (let h = within in omega (arith, h, compiled.set_count))

  abbrev part : List Grip
  part = slice_index_or c.parts i []

  planned : IsFixedPart c.scheme (set_at c i) part
  planned = compiled.planned i (set_at c i) part set_is
      (slice_get-get_or c.parts i [] (let h = within in omega (arith, h, compiled.part_count)))

  abbrev kept_part : List Grip
  kept_part = slice_index_or taken.parts i []

  abbrev kept_paths : List Lock
  kept_paths = slice_index_or taken.paths i []

  of_part : Selects (IsKeyMet c over.section.thread) part kept_part
  of_part = are.parts i over.section kept_part over.at
      (slice_get-get_or taken.parts i [] (let h = within in omega (arith, h, are.part_count)))

  of_paths : Selects (IsPathMet c over.section.thread) (set_at c i) kept_paths
  of_paths = are.paths i over.section kept_paths over.at
      (slice_get-get_or taken.paths i [] (let h = within in omega (arith, h, are.path_count)))

  abbrev wishes : List Lock → List Grip
  wishes locks = object_wishes store w.locals locks

  abbrev held : List Grip
  held = plan_of kept_part kept_paths store w.locals

  whole_ascends : Ascends (plan_at c i store w.locals)
  whole_ascends = plan_ascends c.scheme part (set_at c i) store w.locals planned

  -- what is held ascends as the plan does
  held_ascends : Ascends held
  held_ascends =
      ascends-append kept_part (gathered (wishes kept_paths))
      (chosen_ascends (IsKeyMet c over.section.thread) part kept_part of_part
      (ascends_left part (gathered (wishes (set_at c i))) whole_ascends))
      (gathered_ascends (wishes kept_paths)) below
    where
      below : (x y : Grip) → Has kept_part x → Has (gathered (wishes kept_paths)) y → is_key_below x.key y.key ≡ true
      below x y hx hy =
          let g = gathered_key (wishes kept_paths) y hy in
          let q = object_wish_from store w.locals kept_paths g.0 g.1 in
          let whole = selected (IsPathMet c over.section.thread) (set_at c i) kept_paths of_paths (lock.Path q.0 q.1)
          q.3 in
          let there = gathered_meets (wishes (set_at c i)) (grip (key_of q.2) (object_mode q.1))
          (object_wish_there store w.locals (set_at c i) q.0 q.1 q.2 whole.0 q.4) in
          subst (λ k. is_key_below x.key k ≡ true) (sym (ap (λ (z : Grip). z.key) q.5) ∙ g.2)
          (ascending_across part (gathered (wishes (set_at c i))) whole_ascends x (grip (key_of q.2) there.0)
          (selected (IsKeyMet c over.section.thread) part kept_part of_part x hx).0 there.1)

  -- a key of the fixed part
  in_part : (k : Key) (m : Mode) → Has part (grip k m)
      → (is_met (held_mode k held) m ≡ true) ⊎ MayBeLeftOut c over.section.thread store k m
  in_part k m has = elim (chosen_or_not (IsKeyMet c over.section.thread) part kept_part of_part (grip k m) has) [
    | inl h ↦ inl (met_there held held_ascends k m m (Has-left kept_part (gathered (wishes kept_paths)) (grip k m) h)
        (at_least_itself m))
    | inr fails ↦ inr ((is_seen c compiled).fixed over.section.thread store k m not_object (none fails))
  ]
    where
      not_object : (o : ObjectName) → k ≡ key_of o → ⊥
      not_object o is = elim (fixed_part_keys c.scheme (set_at c i) part planned (grip k m) has) [
        | inl e ↦ all_or_object o (sym e ∙ is)
        | inr (n, e) ↦ class_or_object n o (sym e ∙ is)
      ]

      none : (IsKeyMet c over.section.thread (grip k m) → ⊥) → NoPartIsAgainst c over.section.thread k m
      none fails j section at other n h = by (are_compatible m n) refl where
        by : (b : Bool) → are_compatible m n ≡ b → are_compatible m n ≡ true
        by true e = e
        by false e = absurd (fails (j, (section, at, other), (n, h, e)))

  -- the mode in which a plan has an object is that of one of its locks
  abbrev Wished : Key → Mode → Type 0
  Wished k m =
      (x : Grip) × (e : Effect) × Has (wishes (set_at c i)) x × (x.key ≡ k) × (x.mode ≡ m) × (m ≡ object_mode e)

  joins : (k : Key) (m n : Mode) → Wished k m → Wished k n → Wished k (join_of m n)
  joins k m n a b =
      let both : join_of m n ≡ join_of (object_mode a.1) (object_mode b.1) =
      ap (λ z. join_of z n) a.5 ∙ ap (join_of (object_mode a.1)) b.5 in
      elim (join_objects a.1 b.1) [
        | inl l ↦ (a.0, a.1, a.2, a.3, a.4 ∙ a.5 ∙ sym (both ∙ l), both ∙ l)
        | inr r ↦ (b.0, b.1, b.2, b.3, b.4 ∙ b.5 ∙ sym (both ∙ r), both ∙ r)
      ]

  wished : (g : Grip) → Has (gathered (wishes (set_at c i))) g → Wished g.key g.mode
  wished g h = gathered-all Wished joins (wishes (set_at c i)) each g h where
    each : (x : Grip) → Has (wishes (set_at c i)) x → Wished x.key x.mode
    each x has = let q = object_wish_from store w.locals (set_at c i) x has in
        (x, q.1, has, refl, refl, ap (λ (z : Grip). z.mode) q.5)

  -- an object that a path of the section denotes
  on_path : (p : PathView) (e : Effect) (o : ObjectName) → Has (set_at c i) (lock.Path p e)
      → path_datum store w.locals p ≡ Refers o
      → (is_met (held_mode (key_of o) held) (object_mode e) ≡ true)
      ⊎ MayBeLeftOut c over.section.thread store (key_of o) (object_mode e)
  on_path p e o has denotes =
      elim (chosen_or_not (IsPathMet c over.section.thread) (set_at c i) kept_paths of_paths (lock.Path p e) has) [
        | inl h ↦
            let there = gathered_meets (wishes kept_paths) (grip (key_of o) (object_mode e))
            (object_wish_there store w.locals kept_paths p e o h denotes) in
            inl (met_there held held_ascends (key_of o) there.0 (object_mode e)
            (Has-right kept_part (gathered (wishes kept_paths)) (grip (key_of o) there.0) there.1) there.2)
        | inr fails ↦
            inr ((is_seen c compiled).objects over.section.thread store o a.0 (object_mode e) a.1 (none fails))
      ]
    where
      own : IsPathIn c.scheme over.section.thread p
      own = compiled.lawful i over.section (set_at c i) (lock.Path p e) over.at set_is has

      a : (x : ObjectView) × (object_at store o ≡ Some x) × PathHas (InSets c.scheme.classes.sets) p x.site
          × (x.site < c.scheme.classes.sets.sites)
      a =
          let d = denoted c.scheme compiled.scheme (typed_program c compiled) over.section.thread store w over.pointed p
          own.of o own.refers own.own denotes in
          let below = slice_get_within c.scheme.classes.numbers d.0.site d.4.0 d.4.2 in
          (d.0, d.1, d.2, omega (arith, below, compiled.scheme.parted.sites))

      none : (IsPathMet c over.section.thread (lock.Path p e) → ⊥)
          → NoPathIsAgainst c over.section.thread a.0.site (object_mode e)
      none fails j section at other q d h here = by (are_compatible (object_mode e) (object_mode d)) refl where
        by : (b : Bool) → are_compatible (object_mode e) (object_mode d) ≡ b
            → are_compatible (object_mode e) (object_mode d) ≡ true
        by true is = is
        by false is = absurd (fails (j, (section, at, other), (lock.Path q d, h, (is, (a.0.site, a.3, a.2, here)))))

  in_objects : (k : Key) (m : Mode) → Has (gathered (wishes (set_at c i))) (grip k m)
      → (is_met (held_mode k held) m ≡ true) ⊎ MayBeLeftOut c over.section.thread store k m
  in_objects k m h =
      let x = wished (grip k m) h in
      let q = object_wish_from store w.locals (set_at c i) x.0 x.2 in
      let key : key_of q.2 ≡ k = sym (ap (λ (z : Grip). z.key) q.5) ∙ x.3 in
      let mode : object_mode q.1 ≡ m = sym (ap (λ (z : Grip). z.mode) q.5) ∙ x.4 in
      subst (λ j. (is_met (held_mode j held) m ≡ true) ⊎ MayBeLeftOut c over.section.thread store j m) key
      (subst (λ n. (is_met (held_mode (key_of q.2) held) n ≡ true)
      ⊎ MayBeLeftOut c over.section.thread store (key_of q.2) n) mode (on_path q.0 q.1 q.2 q.3 q.4))

pub taken_keys_are_enough : (c : CompiledView) → IsCompiled c → TakenKeysAreEnough c
taken_keys_are_enough c compiled taken are i store w over k m has =
    elim (Has-cases (slice_index_or c.parts i []) (gathered (object_wishes store w.locals (set_at c i))) (grip k m)
    has) [
      | inl h ↦ in_part c compiled taken are i store w over k m h
      | inr h ↦ in_objects c compiled taken are i store w over k m h
    ]

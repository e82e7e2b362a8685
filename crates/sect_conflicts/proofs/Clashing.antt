-- Where plans clash.
use Rattle.std.proofs.Common.{◌≡◌, ◌⊎◌, ℕ, ◌<◌, List, [], length, false, Some, refl, sym, ap, ◌∙◌, subst, inl, inr}
use Rattle.std.proofs.{Common.{arith}, lemmas.Option.{slice_get_within, slice_get-get_or}}
use Rattle.std.specs.Prelude.{slice_get, slice_index_or}
use Rattle.sect_lemmas.specs.Lists.{Has}
use Rattle.sect_lemmas.proofs.{Membership.{Has-cases, Has-left}, Options.{some_injective}}
use Rattle.sect_types.specs.{Sections.{sections_of}, Store.{StoreView, ObjectView, object_at}, Meaning.{WorkView}}
use Rattle.sect_types.specs.{declared.meaning.store.ObjectName.{ObjectName}, declared.meaning.store.Datum.{Datum}}
use Rattle.sect_types.specs.declared.meaning.store.Datum.TheVariants.{Refers}
use Rattle.sect_points.specs.{Paths.{PathView, PathHas}, Sets.{InSets}}
use Rattle.sect_modes.specs.{declared.mode.Mode.{Mode}, declared.key.Key.{Key}, Mode.{are_compatible}}
use Rattle.sect_names.specs.{declared.lock.Effect.{Effect}, declared.lock.Lock.{Lock}, Schemes.{SchemeView}}
use Rattle.sect_names.specs.{Locks.{IsPathIn}, Records.{IsTypedProgram}}
use Rattle.sect_emit.specs.declared.plan.Grip.{Grip}
use Rattle.sect_emit.specs.Plan.{grip, key_of, object_mode, gathered, object_wishes, path_datum, IsFixedPart}
use Rattle.sect_emit.specs.{Pointed.{ObjectsStay}, State.{plan_at, start}}
use Rattle.sect_emit.specs.Compiled.{CompiledView, IsCompiled, program_of}
use Rattle.sect_emit.proofs.shared.{Modes.{sharing_turned, at_least_itself}, Pointing.{denoted}}
use Rattle.sect_emit.proofs.shared.Plans.{gathered-all, fixed_part_keys, object_part_keys, object_wish_from}
use Rattle.sect_emit.proofs.shared.PlanModes.{plan_gives_object, key_of-injective, class_or_object, all_or_object}
use Rattle.sect_emit.proofs.shared.TypedPrograms.{typed_program}
use Rattle.sect_conflicts.specs.declared.conflict.PathPair.{PathPair}
use Rattle.sect_conflicts.specs.Conflicts.{Clash, AlwaysAsks, MayGoTogether, MayBeOne, paths_between}
use Rattle.sect_conflicts.specs.Conflicts.{set_at}
use Rattle.sect_conflicts.specs.Laws.{IsSectionOver, PlansAlwaysClash, PlansClashWherePathsMeet, PlansNeverClash}
use Rattle.sect_conflicts.specs.Laws.{PlansGoTogetherAtTheStart}
use Rattle.sect_conflicts.specs.steps.Steady.{steady_at}
use Rattle.sect_conflicts.proofs.shared.{Stronger.{both_stronger}, Selecting.{selected, all_selected}}
use Rattle.sect_conflicts.proofs.{ModeTables.{join_apart}, PathPairs.{between_locked, locked_between}}
use Rattle.sect_conflicts.proofs.Steadying.{plan_at_the_start, none_clashes}
use Rattle.sect_names.specs.declared.lock.Lock.TheVariants as lock

-- sections that ask for a key in every state clash in whatever states
pub always_clashing : (c : CompiledView) → PlansAlwaysClash c
always_clashing c i j k (m, n, mine, theirs, apart) store after ours others =
    let f = mine store ours in
    let g = theirs after others in
    (k, f.0, g.0, f.1, g.1, both_stronger f.0 g.0 m n f.2 g.2 apart)

-- a wish of the key that isn't compatible with the mode
abbrev WishAgainst : List Grip → Key → Mode → Type 0
WishAgainst gs k b = (x : Grip) × Has gs x × (x.key ≡ k) × (are_compatible x.mode b ≡ false)

-- where a join isn't compatible with a mode, some wish isn't
wish_against : (gs : List Grip) (g : Grip) → Has (gathered gs) g → (b : Mode) → are_compatible g.mode b ≡ false
    → WishAgainst gs g.key b
wish_against gs g h = gathered-all (λ k a. (b : Mode) → are_compatible a b ≡ false → WishAgainst gs k b)
    (λ k m n x y b e. elim (join_apart m n b e) [ inl l ↦ x b l | inr r ↦ y b r ]) gs
    (λ x i b e. (x, i, refl, e)) g h

-- keys of the fixed part are no keys of objects
never_both : (s : SchemeView) (locks others : List Lock) (part : List Grip) → IsFixedPart s locks part
    → (store : StoreView) (locals : List Datum) (k : Key) (m n : Mode) → Has part (grip k m)
    → Has (gathered (object_wishes store locals others)) (grip k n) → ⊥
never_both s locks others part is store locals k m n h j =
    let o = object_part_keys store locals others (grip k n) j in
    elim (fixed_part_keys s locks part is (grip k m) h) [
      | inl e ↦ all_or_object o.0 (sym e ∙ o.1)
      | inr (a, e) ↦ class_or_object a o.0 (sym e ∙ o.1)
    ]

module _ (c : CompiledView) (compiled : IsCompiled c) where
  typed : IsTypedProgram (program_of c)
  typed = typed_program c compiled

  -- what is compiled of a section
  module _ (i : ℕ) (store : StoreView) (w : WorkView) (over : IsSectionOver c i store w) where
    there : i < length (sections_of (program_of c).texts)
    there = slice_get_within (sections_of (program_of c).texts) i over.section over.at

    set_is : slice_get c.sets i ≡ Some (set_at c i)
    set_is = slice_get-get_or c.sets i [] (let h = there in omega (arith, h, compiled.set_count))

    part_is : slice_get c.parts i ≡ Some (slice_index_or c.parts i [])
    part_is = slice_get-get_or c.parts i [] (let h = there in omega (arith, h, compiled.part_count))

    planned : IsFixedPart c.scheme (set_at c i) (slice_index_or c.parts i [])
    planned = compiled.planned i (set_at c i) (slice_index_or c.parts i []) set_is part_is

    path_in : (p : PathView) (e : Effect) → Has (set_at c i) (lock.Path p e)
        → IsPathIn c.scheme over.section.thread p
    path_in p e h = compiled.lawful i over.section (set_at c i) (lock.Path p e) over.at set_is h

    -- what a path of it denotes exists, at a site of the path's set
    abbrev Exists : PathView → ObjectName → Type 0
    Exists p o = (x : ObjectView) × (object_at store o ≡ Some x) × PathHas (InSets c.scheme.classes.sets) p x.site
        × (x.site < c.scheme.classes.sets.sites)

    exists : (p : PathView) (e : Effect) → Has (set_at c i) (lock.Path p e) → (o : ObjectName)
        → path_datum store w.locals p ≡ Refers o → Exists p o
    exists p e h o is =
        let own = path_in p e h in
        let a = denoted c.scheme compiled.scheme typed over.section.thread store w over.pointed p own.of o own.refers
        own.own is in
        let below = slice_get_within c.scheme.classes.numbers a.0.site a.4.0 a.4.2 in
        (a.0, a.1, a.2, omega (arith, below, compiled.scheme.parted.sites))

  -- a key of the fixed part is asked for in every state
  fixed_asked : (i : ℕ) (k : Key) (m : Mode) → Has (slice_index_or c.parts i []) (grip k m) → AlwaysAsks c i k m
  fixed_asked i k m h store locals = (
    m,
    Has-left (slice_index_or c.parts i []) (gathered (object_wishes store locals (set_at c i))) (grip k m) h,
    at_least_itself m,
  )

  -- two sections, and the states in which their plans are made
  module _ (i j : ℕ) (pairs : List PathPair) (together : MayGoTogether c i j pairs) (store after now : StoreView)
      (w v : WorkView) (mine : IsSectionOver c i store w) (theirs : IsSectionOver c j after v)
      (stay : ObjectsStay store now) (remain : ObjectsStay after now) where
    -- some pair denotes one object, each path in its state
    abbrev SomeMeets : Type 0
    SomeMeets = (pair : PathPair) × Has pairs pair × ((o : ObjectName)
        × (path_datum store w.locals pair.first ≡ Refers o) × (path_datum after v.locals pair.second ≡ Refers o))

    -- paths that denote one object may do so
    one_object : (p q : PathView) (e f : Effect) → Has (set_at c i) (lock.Path p e) → Has (set_at c j) (lock.Path q f)
        → (o : ObjectName) → path_datum store w.locals p ≡ Refers o → path_datum after v.locals q ≡ Refers o
        → MayBeOne c.scheme (record { first = p; second = q })
    one_object p q e f hp hq o ep eq =
        let a = exists i store w mine p e hp o ep in
        let b = exists j after v theirs q f hq o eq in
        let x = stay o a.0 a.1 in
        let y = remain o b.0 b.1 in
        let same : y.0 ≡ x.0 = some_injective y.0 x.0 (sym y.1 ∙ x.1) in
        let site : b.0.site ≡ a.0.site = sym y.2 ∙ ap (λ (z : ObjectView). z.site) same ∙ x.2 in
        (a.0.site, a.3, a.2, subst (PathHas (InSets c.scheme.classes.sets) q) site b.2)

    objects_meet : (k : Key) (m n : Mode) → Has (gathered (object_wishes store w.locals (set_at c i))) (grip k m)
        → Has (gathered (object_wishes after v.locals (set_at c j))) (grip k n) → are_compatible m n ≡ false → SomeMeets
    objects_meet k m n hm hn apart =
        let x = wish_against (object_wishes store w.locals (set_at c i)) (grip k m) hm n apart in
        let y = wish_against (object_wishes after v.locals (set_at c j)) (grip k n) hn x.0.mode
        (sharing_turned n x.0.mode ∙ x.3) in
        let p = object_wish_from store w.locals (set_at c i) x.0 x.1 in
        let q = object_wish_from after v.locals (set_at c j) y.0 y.1 in
        let keys : key_of q.2 ≡ key_of p.2 =
        sym (ap (λ (g : Grip). g.key) q.5) ∙ y.2 ∙ sym x.2 ∙ ap (λ (g : Grip). g.key) p.5 in
        let same = key_of-injective q.2 p.2 keys in
        let eq : path_datum after v.locals q.0 ≡ Refers p.2 = q.4 ∙ ap Refers same in
        let modes : are_compatible (object_mode p.1) (object_mode q.1) ≡ false =
        subst (λ (g : Grip). are_compatible g.mode (object_mode q.1) ≡ false) p.5
        (subst (λ (g : Grip). are_compatible x.0.mode g.mode ≡ false) q.5 (sharing_turned x.0.mode y.0.mode ∙ y.3)) in
        let pair : PathPair = record { first = p.0; second = q.0 } in (
          pair,
          all_selected (MayBeOne c.scheme) (paths_between (set_at c i) (set_at c j)) pairs together.meetings pair
              (locked_between p.0 q.0 p.1 q.1 (set_at c i) (set_at c j) p.3 q.3 modes)
              (one_object p.0 q.0 p.1 q.1 p.3 q.3 p.2 p.4 eq),
          (p.2, p.4, eq),
        )

    clash_meets : Clash (plan_at c i store w.locals) (plan_at c j after v.locals) → SomeMeets
    clash_meets (k, m, n, hm, hn, apart) =
        cases (Has-cases (slice_index_or c.parts i []) (gathered (object_wishes store w.locals (set_at c i)))
        (grip k m) hm)
        (Has-cases (slice_index_or c.parts j []) (gathered (object_wishes after v.locals (set_at c j))) (grip k n) hn)
      where
        cases : Has (slice_index_or c.parts i []) (grip k m)
            ⊎ Has (gathered (object_wishes store w.locals (set_at c i))) (grip k m)
            → Has (slice_index_or c.parts j []) (grip k n)
            ⊎ Has (gathered (object_wishes after v.locals (set_at c j))) (grip k n) → SomeMeets
        cases (inl x) (inl y) = absurd (together.free k (m, n, fixed_asked i k m x, fixed_asked j k n y, apart))
        cases (inl x) (inr y) = absurd (never_both c.scheme (set_at c i) (set_at c j) (slice_index_or c.parts i [])
            (planned i store w mine) after v.locals k m n x y)
        cases (inr x) (inl y) = absurd (never_both c.scheme (set_at c j) (set_at c i) (slice_index_or c.parts j [])
            (planned j after v theirs) store w.locals k n m y x)
        cases (inr x) (inr y) = objects_meet k m n x y apart

    meets_clash : SomeMeets → Clash (plan_at c i store w.locals) (plan_at c j after v.locals)
    meets_clash (pair, h, (o, ep, eq)) =
        let had = selected (MayBeOne c.scheme) (paths_between (set_at c i) (set_at c j)) pairs together.meetings pair
        h in
        let m = between_locked (set_at c i) (set_at c j) pair had.0 in
        let x = plan_gives_object c.scheme (slice_index_or c.parts i []) (set_at c i) store w.locals
        (planned i store w mine) pair.first m.0 o m.2 ep in
        let y = plan_gives_object c.scheme (slice_index_or c.parts j []) (set_at c j) after v.locals
        (planned j after v theirs) pair.second m.1 o m.3 eq in
        (key_of o, x.0, y.0, x.1, y.1, both_stronger x.0 y.0 (object_mode m.0) (object_mode m.1) x.2 y.2 m.4)

  -- each in its state
  pub clash_where_paths_meet : PlansClashWherePathsMeet c
  clash_where_paths_meet i j pairs together store after now w v mine theirs stay remain = (
    clash_meets i j pairs together store after now w v mine theirs stay remain,
    meets_clash i j pairs together store after now w v mine theirs stay remain,
  )

  -- no pair, no clash
  pub never_clashing : PlansNeverClash c
  never_clashing i j together store after now w v mine theirs stay remain h =
      (clash_meets i j [] together store after now w v mine theirs stay remain h).1

-- at the start each plan is what is asked for in every state
pub together_at_the_start : (c : CompiledView) → PlansGoTogetherAtTheStart c
together_at_the_start c i j pairs together fuel t u th other at also h =
    none_clashes c i j together.free
    (subst (λ gs. Clash gs (steady_at c j)) (plan_at_the_start c i fuel t th at)
    (subst (Clash (plan_at c i (start c fuel).store th.frame.work.locals)) (plan_at_the_start c j fuel u other also) h))

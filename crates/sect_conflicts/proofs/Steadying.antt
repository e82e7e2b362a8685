-- What a section asks for in every state is its fixed part and the globals that its locks name.
use Rattle.std.proofs.Common.{◌≡◌, ◌⊎◌, ℕ, List, [], ◌∷◌, ◌++◌, Option, Some, None, true, false, refl, sym, ap, ◌∙◌}
use Rattle.std.proofs.Common.{subst, inl, inr}
use Rattle.std.specs.Prelude.{slice_index_or}
use Rattle.sect_lemmas.specs.Lists.{Has}
use Rattle.sect_lemmas.proofs.{Membership.{Has-cases, Has-left, Has-right}, Options.{some_injective}}
use Rattle.sect_lemmas.proofs.Replaced.{slice_get-map}
use Rattle.sect_types.specs.declared.declarations.types.ValueType.{ValueType}
use Rattle.sect_types.specs.{declared.meaning.store.ObjectName.{ObjectName}, declared.meaning.store.Datum.{Datum}}
use Rattle.sect_types.specs.declared.meaning.store.Datum.TheVariants.{Number, Null, Refers}
use Rattle.sect_types.specs.Store.{ObjectView, StoreView, object_at}
use Rattle.sect_types.specs.Whole.{FrameView, first_store, first_work, first_frames}
use Rattle.sect_types.proofs.shared.{Data.{fresh_refers, null_refers}, Starts.{first_frame, settled_work}}
use Rattle.sect_points.specs.Paths.{PathView, var, dot}
use Rattle.sect_modes.specs.{declared.mode.Mode.{Mode}, declared.key.Key.{Key}, Mode.{are_compatible, is_at_least}}
use Rattle.sect_modes.specs.Key.{is_key_below}
use Rattle.sect_names.specs.{declared.lock.Effect.{Effect}, declared.lock.Lock.{Lock}, Schemes.{SchemeView}}
use Rattle.sect_emit.specs.declared.plan.Grip.{Grip}
use Rattle.sect_emit.specs.Plan.{grip, object_mode, object_wish, gathered, object_wishes, path_datum, plan_of}
use Rattle.sect_emit.specs.{Plan.{IsFixedPart, Ascends, field_datum, field_of}, PlanLaws.{Gives}}
use Rattle.sect_emit.specs.{Compiled.{CompiledView, program_of}, State.{ThreadState, IsThread, outside, start, plan_at}}
use Rattle.sect_emit.proofs.shared.Modes.{at_least_itself, join_least}
use Rattle.sect_emit.proofs.shared.Plans.{gathered-all, gathered_key, gathered_meets, gathered_ascends, ascending_mode}
use Rattle.sect_emit.proofs.shared.{Plans.{ascends-append, fixed_part_keys}, Starting.{no_reference}}
use Rattle.sect_conflicts.specs.declared.conflict.KeyClash.{KeyClash}
use Rattle.sect_conflicts.specs.Conflicts.{Clash, AlwaysAsks, AlwaysClash, IsStrongest, IsFirstClash, set_at}
use Rattle.sect_conflicts.specs.steps.Steady.{global_wish, global_wishes, steady_of, steady_at, IsFirstIn}
use Rattle.sect_conflicts.proofs.shared.Stronger.{both_stronger}
use Rattle.sect_points.specs.declared.holders.Variable.TheVariants as variable
use Rattle.sect_modes.specs.declared.key.Key.TheVariants as key
use Rattle.sect_names.specs.declared.lock.Lock.TheVariants as lock

-- in each state a path asks for the global that it names
global_there : (store : StoreView) (locals : List Datum) (p : PathView) (e : Effect) (g : Grip)
    → Has (global_wish p e) g → Has (object_wish (path_datum store locals p) (object_mode e)) g
global_there store locals (var (variable.Global n)) e g h = h
global_there store locals (var (variable.Local t x)) e g h = absurd h
global_there store locals (dot p f) e g h = absurd h

globals_there : (store : StoreView) (locals : List Datum) (locks : List Lock) (g : Grip)
    → Has (global_wishes locks) g → Has (object_wishes store locals locks) g
globals_there store locals [] g h = absurd h
globals_there store locals (lock.All ∷ locks) g h = globals_there store locals locks g h
globals_there store locals (lock.Class c r ∷ locks) g h = globals_there store locals locks g h
globals_there store locals (lock.Path p e ∷ locks) g h =
    elim (Has-cases (global_wish p e) (global_wishes locks) g h) [
      | inl i ↦ Has-left (object_wish (path_datum store locals p) (object_mode e)) (object_wishes store locals locks) g
          (global_there store locals p e g i)
      | inr i ↦ Has-right (object_wish (path_datum store locals p) (object_mode e)) (object_wishes store locals locks) g
          (globals_there store locals locks g i)
    ]

-- what is gathered of some wishes is met in what is gathered of more
gathered_more : (xs ys : List Grip) → ((g : Grip) → Has xs g → Has ys g) → (k : Key) (m : Mode)
    → Has (gathered xs) (grip k m) → Gives (gathered ys) k m
gathered_more xs ys more k m h =
    let w = gathered_key xs (grip k m) h in
    let a = gathered_meets ys w.0 (more w.0 w.1) in
    let there : Has (gathered ys) (grip k a.0) = subst (λ j. Has (gathered ys) (grip j a.0)) w.2 a.1 in (
      a.0,
      there,
      gathered-all (λ j n. j ≡ k → is_at_least a.0 n ≡ true)
          (λ j n o x y e. join_least n o a.0 (x e) (y e)) xs
          (λ x i e.
          let b = gathered_meets ys x (more x i) in
          let same = some_injective b.0 a.0
          (sym (ascending_mode (gathered ys) (gathered_ascends ys) (grip k b.0)
          (subst (λ j. Has (gathered ys) (grip j b.0)) e b.1))
          ∙ ascending_mode (gathered ys) (gathered_ascends ys) (grip k a.0) there) in
          subst (λ n. is_at_least n x.mode ≡ true) same b.2)
          (grip k m) h refl,
    )

steady_given : (part : List Grip) (locks : List Lock) (k : Key) (m : Mode) → Has (steady_of part locks) (grip k m)
    → (store : StoreView) (locals : List Datum) → Gives (plan_of part locks store locals) k m
steady_given part locks k m h store locals =
    elim (Has-cases part (gathered (global_wishes locks)) (grip k m) h) [
      | inl i ↦ (m, Has-left part (gathered (object_wishes store locals locks)) (grip k m) i, at_least_itself m)
      | inr i ↦
          let a = gathered_more (global_wishes locks) (object_wishes store locals locks)
          (globals_there store locals locks) k m i in
          (a.0, Has-right part (gathered (object_wishes store locals locks)) (grip k a.0) a.1, a.2)
    ]

-- these globals are globals
global_key : (p : PathView) (e : Effect) (g : Grip) → Has (global_wish p e) g → (n : ℕ) × (g.key ≡ key.Global n)
global_key (var (variable.Global n)) e g (inl is) = (n, sym (ap (λ (x : Grip). x.key) is))
global_key (var (variable.Global n)) e g (inr none) = absurd none
global_key (var (variable.Local t x)) e g h = absurd h
global_key (dot p f) e g h = absurd h

global_keys : (locks : List Lock) (g : Grip) → Has (global_wishes locks) g → (n : ℕ) × (g.key ≡ key.Global n)
global_keys [] g h = absurd h
global_keys (lock.All ∷ locks) g h = global_keys locks g h
global_keys (lock.Class c r ∷ locks) g h = global_keys locks g h
global_keys (lock.Path p e ∷ locks) g h =
    elim (Has-cases (global_wish p e) (global_wishes locks) g h) [
      | inl i ↦ global_key p e g i
      | inr i ↦ global_keys locks g i
    ]

-- what is found ascends
pub steady_ascends : (s : SchemeView) (part : List Grip) (locks : List Lock) → IsFixedPart s locks part
    → Ascends (steady_of part locks)
steady_ascends s part locks p =
    ascends-append part (gathered (global_wishes locks)) (subst Ascends (sym p.2) (gathered_ascends p.0))
    (gathered_ascends (global_wishes locks)) below where
      by : (a : Key) (n : ℕ) → (a ≡ key.All) ⊎ ((c : ℕ) × (a ≡ key.Class c)) → is_key_below a (key.Global n) ≡ true
      by a n (inl e) = subst (λ k. is_key_below k (key.Global n) ≡ true) (sym e) refl
      by a n (inr (c, e)) = subst (λ k. is_key_below k (key.Global n) ≡ true) (sym e) refl

      below : (x y : Grip) → Has part x → Has (gathered (global_wishes locks)) y → is_key_below x.key y.key ≡ true
      below x y hx hy =
          let g = gathered_key (global_wishes locks) y hy in
          let n = global_keys locks g.0 g.1 in
          subst (λ k. is_key_below x.key k ≡ true) (sym n.1 ∙ g.2) (by x.key n.0 (fixed_part_keys s locks part p x hx))

-- what denotes no object asks for none
no_wish : (d : Datum) (m : Mode) → ((o : ObjectName) → d ≡ Refers o → ⊥) → object_wish d m ≡ []
no_wish (Number n) m none = refl
no_wish Null m none = refl
no_wish (Refers o) m none = absurd (none o refl)

-- at the start
module _ (s : SchemeView) (fuel : ℕ) (types : List ValueType) where
  abbrev store : StoreView
  store = first_store s.program

  abbrev locals : List Datum
  locals = (first_work fuel types).locals

  -- no field refers to anything
  no_field : (d : Datum) (f : ℕ) (o : ObjectName) → field_of store d f ≡ Refers o → ⊥
  no_field (Number n) f o e = null_refers o e
  no_field Null f o e = null_refers o e
  no_field (Refers b) f o e = by (object_at store b) refl e
    where
      by : (x : Option ObjectView) → object_at store b ≡ x → field_datum x f ≡ Refers o → ⊥
      by None is e = null_refers o e
      by (Some x) is e = no_reference s b x f o is e

  -- so paths ask for the globals that they name, and for nothing else
  start_wish : (p : PathView) (e : Effect)
      → object_wish (path_datum store locals p) (object_mode e) ≡ global_wish p e
  start_wish (var (variable.Global n)) e = refl
  start_wish (var (variable.Local t x)) e =
      no_wish (path_datum store locals (var (variable.Local t x))) (object_mode e) (λ o is. fresh_refers types x o is)
  start_wish (dot p f) e =
      no_wish (path_datum store locals (dot p f)) (object_mode e)
      (λ o is. no_field (path_datum store locals p) f.number o is)

  pub start_wishes : (locks : List Lock) → object_wishes store locals locks ≡ global_wishes locks
  start_wishes [] = refl
  start_wishes (lock.All ∷ locks) = start_wishes locks
  start_wishes (lock.Class c r ∷ locks) = start_wishes locks
  start_wishes (lock.Path p e ∷ locks) =
      ap (λ ws. ws ++ object_wishes store locals locks) (start_wish p e)
      ∙ ap (λ ws. global_wish p e ++ ws) (start_wishes locks)

module _ (c : CompiledView) where
  -- the plan at the start is what is asked for in every state
  pub plan_at_the_start : (i fuel t : ℕ) (th : ThreadState) → IsThread (start c fuel) t th
      → plan_at c i (start c fuel).store th.frame.work.locals ≡ steady_at c i
  plan_at_the_start i fuel t th at =
      let f = slice_get-map outside (first_frames fuel (program_of c).texts (program_of c).locals) t th at in
      let g = first_frame fuel (program_of c).texts (program_of c).locals t f.0 f.1 in
      let work = ap (λ (x : ThreadState). x.frame.work) (sym f.2) ∙ ap (λ (x : FrameView). x.work) g.3
      ∙ settled_work g.0 (first_work fuel g.1) in
      ap (λ w. plan_at c i (first_store (program_of c)) w.locals) work
      ∙ ap (λ ws. slice_index_or c.parts i [] ++ gathered ws) (start_wishes c.scheme fuel g.1 (set_at c i))

  -- what is found is asked for in every state
  pub always_asks : (i : ℕ) (k : Key) (m : Mode) → Has (steady_at c i) (grip k m) → AlwaysAsks c i k m
  always_asks i k m h store locals =
      steady_given (slice_index_or c.parts i []) (slice_index_or c.sets i []) k m h store locals

  -- and what is asked for in every state is found
  pub asked_found : (i : ℕ) (k : Key) (m : Mode) → AlwaysAsks c i k m → Gives (steady_at c i) k m
  asked_found i k m asks =
      subst (λ ws. Gives (slice_index_or c.parts i [] ++ gathered ws) k m)
      (start_wishes c.scheme 0 [] (set_at c i)) (asks (first_store (program_of c)) (first_work 0 []).locals)

  -- the mode that is found is the strongest
  strongest : (i : ℕ) (k : Key) (m : Mode) → Ascends (steady_at c i) → Has (steady_at c i) (grip k m)
      → IsStrongest c i k m
  strongest i k m up h = (
    always_asks i k m h,
    λ n asks.
        let g = asked_found i k n asks in
        let same = some_injective g.0 m
        (sym (ascending_mode (steady_at c i) up (grip k g.0) g.1) ∙ ascending_mode (steady_at c i) up (grip k m) h) in
        subst (λ x. is_at_least x n ≡ true) same g.2,
  )

  module _ (i j : ℕ) where
    -- a clash in every state is one of what is found
    pub found_clash : (k : Key) → AlwaysClash c i j k → (x : Grip) × (y : Grip) × Has (steady_at c i) x
        × Has (steady_at c j) y × (x.key ≡ k) × (y.key ≡ k) × (are_compatible x.mode y.mode ≡ false)
    found_clash k (m, n, mine, theirs, apart) =
        let x = asked_found i k m mine in
        let y = asked_found j k n theirs in (
          grip k x.0,
          grip k y.0,
          x.1,
          y.1,
          refl,
          refl,
          both_stronger x.0 y.0 m n x.2 y.2 apart,
        )

    -- so the first of what is found is the first in every state
    pub first_found : (clash : KeyClash) → Ascends (steady_at c i) → Ascends (steady_at c j)
        → IsFirstIn (steady_at c i) (steady_at c j) clash → IsFirstClash c i j clash
    first_found clash up also h = record {
      first = strongest i clash.key clash.first up h.first;
      second = strongest j clash.key clash.second also h.second;
      apart = h.apart;
      least = λ k always. let f = found_clash k always in
          subst (λ x. is_key_below x clash.key ≡ false) f.4 (h.least f.0 f.1 f.2 f.3 (f.4 ∙ sym f.5) f.6);
    }

    -- and where nothing is found there is none
    pub none_found : (Clash (steady_at c i) (steady_at c j) → ⊥) → (k : Key) → AlwaysClash c i j k → ⊥
    none_found none k (m, n, mine, theirs, apart) =
        let x = asked_found i k m mine in
        let y = asked_found j k n theirs in
        none (k, x.0, y.0, x.1, y.1, both_stronger x.0 y.0 m n x.2 y.2 apart)

    pub none_clashes : ((k : Key) → AlwaysClash c i j k → ⊥) → Clash (steady_at c i) (steady_at c j) → ⊥
    none_clashes free (k, m, n, hx, hy, apart) = free k (m, n, always_asks i k m hx, always_asks j k n hy, apart)

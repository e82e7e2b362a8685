-- The beginnings of what is carried back are carried back from beginnings, or a load looks into them.
use Rattle.std.proofs.Common.{◌≡◌, ◌⊎◌, ℕ, ◌≤◌, List, [], ◌∷◌, Option, Some, None, refl, sym, ap, ◌∙◌, subst, inl, inr}
use Rattle.std.proofs.Common.{arith}
use Rattle.sect_lemmas.specs.Lists.{Has}
use Rattle.sect_types.specs.{declared.expansion.action.Field.{Field}, declared.expansion.action.Value.{Value}}
use Rattle.sect_types.specs.{declared.expansion.action.Action.{Action}, declared.expansion.action.Label.{Label}}
use Rattle.sect_points.specs.declared.holders.Variable.{Variable}
use Rattle.sect_points.specs.{declared.holders.Variable.TheVariants.{Global, Local}, Paths.{PathView, var, dot}}
use Rattle.sect_points.specs.Partitions.{ClassesView, HasClass}
use Rattle.sect_points.specs.PathClasses.{ArePathClasses, variable_of, variable_in}
use Rattle.sect_names.specs.{declared.lock.Effect.{Effect}, declared.lock.Lock.{Lock}}
use Rattle.sect_names.specs.{Schemes.{SchemeView, IsScheme, guard_of}, Locks.{depth, IsClassed, Covers, PathTo, IsOwn}}
use Rattle.sect_names.specs.Carrying.{locked_for, Makes, Generated, Replaced, BeforeStore, BeforeAssignment, Before}
use Rattle.sect_names.specs.{Carrying.{LockOn, CarriedBack}, Laws.{IsProgramStep}}
use Rattle.sect_names.specs.Along.{NeededBefore, NeededAlong, AreProgramSteps, GoesBy, read_for, reading_lock}
use Rattle.sect_names.specs.Along.{ReadsBeginnings}
use Rattle.sect_names.proofs.shared.{Covering.{covers_refl}, Respecting.{respects_cover}}
use Rattle.sect_names.proofs.Sounding.{global_classed}
use Rattle.sect_points.proofs.shared.ClassLaws.{path_classes}
use Rattle.sect_types.specs.declared.expansion.action.Value.TheVariants as value
use Rattle.sect_types.specs.declared.expansion.action.Action.TheVariants as action
use Rattle.sect_types.specs.declared.expansion.action.Label.TheVariants as label
use Rattle.sect_names.specs.declared.lock.Effect.TheVariants as effect
use Rattle.sect_names.specs.declared.lock.Lock.TheVariants as lock

-- over an assignment: a beginning comes from one, or it begins what is put in the base's place
replaced_goes : (x : Variable) (source : Option PathView) (p p' q' : PathView) (f : Field) → Replaced x source p p'
    → GoesBy p' q' f
    → ((q : PathView) × GoesBy p q f × Replaced x source q q') ⊎ ((z : PathView) × (source ≡ Some z) × GoesBy z q' f)
replaced_goes x source (var v) p' q' f h goes =
    elim h [ inl a ↦ inr (p', a.1, goes) | inr b ↦ absurd (subst (λ z. GoesBy z q' f) b.1 goes) ]
replaced_goes x source (dot e g) p' q' f (r, before, is) goes =
    at (subst (λ z. GoesBy z q' f) is goes) (λ k. replaced_goes x source e r q' f before k)
  where
    at : GoesBy (dot r g) q' f → (GoesBy r q' f → ((q : PathView) × GoesBy e q f × Replaced x source q q')
        ⊎ ((z : PathView) × (source ≡ Some z) × GoesBy z q' f))
        → ((q : PathView) × GoesBy (dot e g) q f × Replaced x source q q')
        ⊎ ((z : PathView) × (source ≡ Some z) × GoesBy z q' f)
    at (inl (same, by)) later = inl (e, inl (refl, by), subst (Replaced x source e) (sym same) before)
    at (inr k) later = elim (later k) [ inl a ↦ inl (a.0, inr a.1, a.2) | inr b ↦ inr b ]

-- over a store
stored_goes : (c : ClassesView) (z : Variable) (fz : Field) (w : Option Variable) (p p' q' : PathView) (f : Field)
    → BeforeStore c z fz w p p' → GoesBy p' q' f
    → (q : PathView) × GoesBy p q f × BeforeStore c z fz w q q'
stored_goes c z fz w (var v) p' q' f is goes = absurd (subst (λ y. GoesBy y q' f) is goes)
stored_goes c z fz w (dot e g) p' q' f h goes = elim h [
  | inl (r, before, on) ↦ at r before (subst (λ y. GoesBy y q' f) on.1 goes)
      (λ k. stored_goes c z fz w e r q' f before k)
  | inr (same, one, (v, reads, is)) ↦ absurd (subst (λ y. GoesBy y q' f) is goes)
]
  where
    at : (r : PathView) → BeforeStore c z fz w e r → GoesBy (dot r g) q' f
        → (GoesBy r q' f → (q : PathView) × GoesBy e q f × BeforeStore c z fz w q q')
        → (q : PathView) × GoesBy (dot e g) q f × BeforeStore c z fz w q q'
    at r before (inl (same, by)) later = (e, inl (refl, by), subst (BeforeStore c z fz w e) (sym same) before)
    at r before (inr k) later = let a = later k in (a.0, inr a.1, a.2)

-- a load looks into q by the field f
abbrev LoadsFrom : ℕ → Action → PathView → Field → Type 0
LoadsFrom t (action.Assign x v) q f = ⊥
LoadsFrom t (action.Compute x v o w) q f = ⊥
LoadsFrom t (action.New x r i) q f = ⊥
LoadsFrom t (action.Load x b g) q f = (q ≡ var (variable_of t b)) × (f ≡ g)
LoadsFrom t (action.Store b g v) q f = ⊥
LoadsFrom t (action.Print v) q f = ⊥

abbrev LooksFrom : ℕ → Label → PathView → Field → Type 0
LooksFrom t (label.Act a) q f = LoadsFrom t a q f
LooksFrom t (label.Test c) q f = ⊥
LooksFrom t (label.Section i) q f = ⊥

module _ (c : ClassesView) (t : ℕ) where
  -- a beginning of what is carried back
  abbrev Carries : Label → PathView → PathView → Field → Type 0
  Carries step p q' f = ((q : PathView) × GoesBy p q f × Before c t step q q') ⊎ LooksFrom t step q' f

  itself_goes : (step : Label) → ((q : PathView) → Before c t step q q) → (p p' q' : PathView) (f : Field) → p' ≡ p
      → GoesBy p' q' f → Carries step p q' f
  itself_goes step stays p p' q' f is goes = inl (q', subst (λ z. GoesBy z q' f) is goes, stays q')

  -- where a variable or nothing is put in the base's place, it has no beginning
  var_goes : (source : Option PathView) → ((z q : PathView) (f : Field) → source ≡ Some z → GoesBy z q f → ⊥)
      → (x : Variable) (p p' q' : PathView) (f : Field) → Replaced x source p p' → GoesBy p' q' f
      → (q : PathView) × GoesBy p q f × Replaced x source q q'
  var_goes source none x p p' q' f h goes =
      elim (replaced_goes x source p p' q' f h goes) [ inl a ↦ a | inr b ↦ absurd (none b.0 q' f b.1 b.2) ]

  one_goes : (v : Variable) (z q : PathView) (f : Field) → Some (var v) ≡ Some z → GoesBy z q f → ⊥
  one_goes v z q f e goes = let is : var v ≡ z = cc in subst (λ y. GoesBy y q f) (sym is) goes

  assigned_goes : (x : ℕ) (v : Value) (p p' q' : PathView) (f : Field) → BeforeAssignment t x v p p' → GoesBy p' q' f
      → (q : PathView) × GoesBy p q f × BeforeAssignment t x v q q'
  assigned_goes x (value.Number n) p p' q' f is goes = (q', subst (λ z. GoesBy z q' f) is goes, refl)
  assigned_goes x value.Null p p' q' f h goes = var_goes None (λ z q f e goes. absurd cc) (Local t x) p p' q' f h goes
  assigned_goes x (value.Local y) p p' q' f h goes =
      var_goes (Some (var (Local t y))) (one_goes (Local t y)) (Local t x) p p' q' f h goes
  assigned_goes x (value.Global g) p p' q' f h goes =
      var_goes (Some (var (Global g))) (one_goes (Global g)) (Local t x) p p' q' f h goes

  before_goes : (step : Label) (p p' q' : PathView) (f : Field) → Before c t step p p' → GoesBy p' q' f
      → Carries step p q' f
  before_goes (label.Act (action.Assign x v)) p p' q' f h goes = inl (assigned_goes x v p p' q' f h goes)
  before_goes (label.Act (action.Compute x v o w)) p p' q' f is goes =
      itself_goes (label.Act (action.Compute x v o w)) (λ q. refl) p p' q' f is goes
  before_goes (label.Act (action.New x r i)) p p' q' f h goes =
      inl (var_goes None (λ z q f e goes. absurd cc) (Local t x) p p' q' f h goes)
  before_goes (label.Act (action.Load x b g)) p p' q' f h goes =
      elim (replaced_goes (Local t x) (Some (dot (var (variable_of t b)) g)) p p' q' f h goes) [
        | inl a ↦ inl a
        | inr (z, is, k) ↦ inr (loaded z (let e : dot (var (variable_of t b)) g ≡ z = cc in e) k)
      ]
    where
      loaded : (z : PathView) → dot (var (variable_of t b)) g ≡ z → GoesBy z q' f
          → (q' ≡ var (variable_of t b)) × (f ≡ g)
      loaded z e k = elim (subst (λ y. GoesBy y q' f) (sym e) k) [ inl a ↦ a | inr n ↦ absurd n ]
  before_goes (label.Act (action.Store b g v)) p p' q' f h goes =
      inl (stored_goes c (variable_of t b) g (variable_in t v) p p' q' f h goes)
  before_goes (label.Act (action.Print v)) p p' q' f is goes =
      itself_goes (label.Act (action.Print v)) (λ q. refl) p p' q' f is goes
  before_goes (label.Test d) p p' q' f is goes = itself_goes (label.Test d) (λ q. refl) p p' q' f is goes
  before_goes (label.Section i) p p' q' f is goes = itself_goes (label.Section i) (λ q. refl) p p' q' f is goes

  -- a global stays what it is
  other_stays : (x g : ℕ) (source : Option PathView) → Replaced (Local t x) source (var (Global g)) (var (Global g))
  other_stays x g source = inr (λ e. absurd cc, refl)

  global_stays : (step : Label) (g : ℕ) → Before c t step (var (Global g)) (var (Global g))
  global_stays (label.Act (action.Assign x (value.Number n))) g = refl
  global_stays (label.Act (action.Assign x value.Null)) g = other_stays x g None
  global_stays (label.Act (action.Assign x (value.Local y))) g = other_stays x g (Some (var (Local t y)))
  global_stays (label.Act (action.Assign x (value.Global h))) g = other_stays x g (Some (var (Global h)))
  global_stays (label.Act (action.Compute x v o w)) g = refl
  global_stays (label.Act (action.New x r i)) g = other_stays x g None
  global_stays (label.Act (action.Load x b f)) g = other_stays x g (Some (dot (var (variable_of t b)) f))
  global_stays (label.Act (action.Store b f v)) g = refl
  global_stays (label.Act (action.Print v)) g = refl
  global_stays (label.Test d) g = refl
  global_stays (label.Section i) g = refl

-- a beginning of a path has a class where the path has one, and fewer fields
begins_classed : (c : ClassesView) → ArePathClasses c → (p q : PathView) (f : Field) (n : ℕ) → HasClass c p n
    → GoesBy p q f → (m : ℕ) × HasClass c q m
begins_classed c laws (var v) q f n h goes = absurd goes
begins_classed c laws (dot e g) q f n h goes = let d = laws.down e g n h in elim goes [
  | inl (same, by) ↦ (d.0, subst (λ z. HasClass c z d.0) (sym same) d.1)
  | inr k ↦ begins_classed c laws e q f d.0 d.1 k
]

begins_shorter : (p q : PathView) (f : Field) → GoesBy p q f → depth q ≤ depth p
begins_shorter (var v) q f goes = absurd goes
begins_shorter (dot e g) q f goes = elim goes [
  | inl (same, by) ↦ (let d = ap depth same in omega (arith, d))
  | inr k ↦ (let d = begins_shorter e q f k in omega (arith, d))
]

module _ (s : SchemeView) (scheme : IsScheme s) where
  guard_classed : (r g : ℕ) → guard_of s.guards r ≡ Some g → IsClassed s (var (Global g))
  guard_classed r g is = global_classed s scheme g (scheme.unguarded r g is).declared

  -- the lock for reading a path is carried back to that of what the path is carried back to
  reading_carried : (t : ℕ) (step : Label) (q q' : PathView) (f : Field) (n : ℕ) → Before s.classes t step q q'
      → HasClass s.classes q' n → depth q' ≤ s.most
      → CarriedBack s t step (reading_lock s q f) (reading_lock s q' f)
  reading_carried t step q q' f n before class short = by (guard_of s.guards f.of) refl
    where
      by : (o : Option ℕ) → guard_of s.guards f.of ≡ o
          → CarriedBack s t step (lock.Path (read_for o q) effect.Read) (lock.Path (read_for o q') effect.Read)
      by None is = (q', before, (n, class, inl (short, refl)))
      by (Some g) is = let k = guard_classed f.of g is in
          (var (Global g), global_stays s.classes t step g, (k.0, k.1, inl (omega arith, refl)))

  -- a statement generates locks on variables alone
  one_path : (v : Variable) (p : PathView) (e d : Effect) → lock.Path p e ≡ lock.Path (var v) d → p ≡ var v
  one_path v p e d is = cc

  makes_no_beginning : (o : Option ℕ) (i : ℕ) (p q : PathView) (e : Effect) (f : Field) → Makes s o i (lock.Path p e)
      → GoesBy p q f → ⊥
  makes_no_beginning None i p q e f h goes = let is = h.2 in absurd cc
  makes_no_beginning (Some g) i p q e f is goes =
      subst (λ z. GoesBy z q f) (one_path (Global g) p e effect.Write is) goes

  generates_no_beginning : (t : ℕ) (step : Label) (p q : PathView) (e : Effect) (f : Field)
      → Generated s t step (lock.Path p e) → GoesBy p q f → ⊥
  generates_no_beginning t (label.Act (action.Assign x v)) p q e f h goes = absurd h
  generates_no_beginning t (label.Act (action.Compute x v o w)) p q e f h goes = absurd h
  generates_no_beginning t (label.Act (action.New x r i)) p q e f h goes =
      makes_no_beginning (guard_of s.guards r) i p q e f h goes
  generates_no_beginning t (label.Act (action.Load x b g)) p q e f h goes =
      subst (λ z. GoesBy z q f) (one_path (locked_for (guard_of s.guards g.of) (variable_of t b)) p e effect.Read h.1)
      goes
  generates_no_beginning t (label.Act (action.Store b g v)) p q e f h goes =
      subst (λ z. GoesBy z q f) (one_path (locked_for (guard_of s.guards g.of) (variable_of t b)) p e effect.Write h.1)
      goes
  generates_no_beginning t (label.Act (action.Print v)) p q e f h goes = absurd h
  generates_no_beginning t (label.Test d) p q e f h goes = absurd h
  generates_no_beginning t (label.Section i) p q e f h goes = absurd h

  -- reading a variable's object needs the lock on the variable itself, or on the guard
  pub read_variable : (o : Option ℕ) (v : Variable) → read_for o (var v) ≡ var (locked_for o v)
  read_variable None v = refl
  read_variable (Some g) v = refl

  -- what a load looks into, it needs to read
  looked_generated : (t : ℕ) (step : Label) (q : PathView) (f : Field) (n : ℕ) → HasClass s.classes q n
      → LooksFrom t step q f → Generated s t step (reading_lock s q f)
  looked_generated t (label.Act (action.Load x b g)) q f n class (same, by) =
      let v = variable_of t b in
      let path : read_for (guard_of s.guards f.of) q ≡ var (locked_for (guard_of s.guards g.of) v) =
      ap (read_for (guard_of s.guards f.of)) same ∙ ap (λ (u : Field). read_for (guard_of s.guards u.of) (var v)) by
      ∙ read_variable (guard_of s.guards g.of) v in
      ((n, subst (λ z. HasClass s.classes z n) same class), ap (λ z. lock.Path z effect.Read) path)
  looked_generated t (label.Act (action.Assign x v)) q f n class h = absurd h
  looked_generated t (label.Act (action.Compute x v o w)) q f n class h = absurd h
  looked_generated t (label.Act (action.New x r i)) q f n class h = absurd h
  looked_generated t (label.Act (action.Store b g v)) q f n class h = absurd h
  looked_generated t (label.Act (action.Print v)) q f n class h = absurd h
  looked_generated t (label.Test d) q f n class h = absurd h
  looked_generated t (label.Section i) q f n class h = absurd h

  -- one step
  pub reads_before : (t : ℕ) (step : Label) → IsProgramStep s t step → (After : Lock → Type 0) → ReadsBeginnings s After
      → ReadsBeginnings s (NeededBefore s t step After)
  reads_before t step there After after p' q' f e needed goes = elim needed [
    | inl own ↦ absurd (generates_no_beginning t step p' q' e f own goes)
    | inr (lock.All, needs, is) ↦ absurd cc
    | inr (lock.Class c r, needs, is) ↦ absurd cc
    | inr (lock.Path p d, needs, (z, before, on)) ↦ on_path p d z needs before on
  ]
    where
      from : (p : PathView) (d : Effect) (n : ℕ) → After (lock.Path p d) → Before s.classes t step p p'
          → HasClass s.classes p' n → depth p' ≤ s.most
          → (m : Lock) × NeededBefore s t step After m × Covers s m (reading_lock s q' f)
      from p d n needs before class short =
          let beginning = begins_classed s.classes (path_classes s.classes scheme.parted) p' q' f n class goes in
          elim (before_goes s.classes t step p p' q' f before goes) [
            | inl (q, k, carried) ↦
                let m = after p q f d needs k in
                let less = begins_shorter p' q' f goes in
                let r = respects_cover s scheme t step there (reading_lock s q f) m.0 (reading_lock s q' f) m.2
                (reading_carried t step q q' f beginning.0 carried beginning.1 (omega (arith, less, short))) in
                (r.0, inr (m.0, m.1, r.1), r.2)
            | inr k ↦ (
              reading_lock s q' f,
              inl (looked_generated t step q' f beginning.0 beginning.1 k),
              covers_refl s (reading_lock s q' f),
            )
          ]

      on_path : (p : PathView) (d : Effect) (z : PathView) → After (lock.Path p d) → Before s.classes t step p z
          → LockOn s d z (lock.Path p' e)
          → (m : Lock) × NeededBefore s t step After m × Covers s m (reading_lock s q' f)
      on_path p d z needs before (n, class, limit) = elim limit [
        | inl (short, is) ↦
            let same : z ≡ p' = cc in
            from p d n needs (subst (Before s.classes t step p) same before)
            (subst (λ y. HasClass s.classes y n) same class) (subst (λ y. depth y ≤ s.most) same short)
        | inr (long, is) ↦ absurd cc
      ]

  -- step by step
  pub reads_along : (t : ℕ) (last : List Lock) → ReadsBeginnings s (Has last) → (steps : List Label)
      → AreProgramSteps s t steps → ReadsBeginnings s (NeededAlong s t last steps)
  reads_along t last ends [] there = ends
  reads_along t last ends (step ∷ steps) there =
      reads_before t step there.0 (NeededAlong s t last steps) (reads_along t last ends steps there.1)

-- a beginning of a typed path is typed
pub begins_to : (s : SchemeView) (p q : PathView) (f : Field) (r : ℕ) → PathTo s.program p r → GoesBy p q f
    → PathTo s.program q f.of
begins_to s (var v) q f r to goes = absurd goes
begins_to s (dot e g) q f r to goes = elim goes [
  | inl (same, by) ↦ subst (λ z. PathTo s.program z f.of) (sym same)
      (subst (λ (u : Field). PathTo s.program e u.of) (sym by) to.0)
  | inr k ↦ begins_to s e q f g.of to.0 k
]

-- and begins in the same thread
pub begins_own : (t : ℕ) (p q : PathView) (f : Field) → IsOwn t p → GoesBy p q f → IsOwn t q
begins_own t (var v) q f own goes = absurd goes
begins_own t (dot e g) q f own goes =
    elim goes [ inl (same, by) ↦ subst (IsOwn t) (sym same) own | inr k ↦ begins_own t e q f own k ]

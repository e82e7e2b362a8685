-- A step of one thread keeps what it and the others have secured.
use Rattle.std.proofs.Common.{◌≡◌, ◌≢◌, ◌⊎◌, inl, inr, ℕ, ◌<◌, List, [], ◌∷◌, ◌++◌, true, Option, Some, None, length}
use Rattle.std.proofs.{Common.{refl, sym, ap, ◌∙◌, subst}, lemmas.Bool.{or_cases, or_left, or_right}}
use Rattle.sect_types.specs.{declared.expansion.action.Label.{Label}, Statements.{TextView}}
use Rattle.sect_types.specs.declared.meaning.store.ObjectName.{ObjectName}
use Rattle.sect_types.specs.declared.meaning.store.Datum.TheVariants.{Refers}
use Rattle.sect_types.specs.Store.{ObjectView, StoreView, object_at, count}
use Rattle.sect_types.specs.Meaning.{WorkView, Change, Unchanged, Written, Added, after_change}
use Rattle.sect_points.specs.Paths.{PathView}
use Rattle.sect_names.specs.{declared.lock.Effect.{Effect}, Schemes.{IsScheme}, Carrying.{right_for, CarriedBack}}
use Rattle.sect_names.specs.{Records.{IsTypedProgram, IsNeedable}, Walks.{Leads, StandsInThread}, Needed.{end_of}}
use Rattle.sect_names.specs.{Along.{NeededIn}, declared.lock.Lock.{Lock}}
use Rattle.sect_emit.specs.{Pointed.{IsPointed, StepsTo, IsMade}, declared.plan.Grip.{Grip}}
use Rattle.sect_emit.specs.Plan.{grip, key_of, held_mode, path_datum, class_mode, object_mode, is_met}
use Rattle.sect_emit.specs.{Compiled.{CompiledView, program_of}, State.{Running, ThreadState, State, IsThread}}
use Rattle.sect_emit.specs.ModeTests.{passes}
use Rattle.sect_names.proofs.shared.{Walking.{needed_step, leads_stands}, Needing.{needed_needable}}
use Rattle.sect_names.proofs.shared.Ends.{end_needable}
use Rattle.sect_emit.proofs.shared.{Pointing.{step_pointed}, Securing.{needed_secures}}
use Rattle.sect_emit.proofs.shared.Grips.{held_split, held_more, held_one, held_only}
use Rattle.sect_modes.specs.{declared.mode.Mode.{Mode}, declared.mode.Mode.TheVariants.{Exclusive}}
use Rattle.sect_modes.specs.Mode.{is_at_least, intention_of, is_making}
use Rattle.sect_world.specs.Events.{guard_at, fresh_grip, grips_of}
use Rattle.sect_world.specs.Held.{holds_all, mode_of_class, may_read, may_make_by}
use Rattle.sect_world.specs.{Kept.{AreGripsKept, HoldsClassOf, HaveTheirClass}, Secured.{may_by, AllSecured, Good}}
use Rattle.sect_world.proofs.KeptPointed.{pointed_thread, stands_inside}
use Rattle.sect_world.proofs.Holding.{passes_in, holds_same, holds_append, all_more, mode_of_class_more, met_more}
use Rattle.sect_world.proofs.{Holding.{may_grows}, Excluding.{readers_and_writers_exclude}}
use Rattle.sect_world.proofs.MetPlans.{key_test, may_itself, may_by_class, denotes, beginnings_are_held}
use Rattle.sect_world.proofs.AllowedChanges.{was_there, LeavesAlone, left_alone, next_is_none, sites_stay, IsAllowed}
use Rattle.sect_world.proofs.Denoting.{path_stays}
use Rattle.sect_types.specs.declared.expansion.action.Action.TheVariants as action
use Rattle.sect_types.specs.declared.expansion.action.Label.TheVariants as label
use Rattle.sect_names.specs.declared.lock.Effect.TheVariants as effect
use Rattle.sect_names.specs.declared.lock.Lock.TheVariants as lock
use Rattle.sect_modes.specs.declared.key.Key.TheVariants as key
use Rattle.sect_types.specs.declared.meaning.store.ObjectName.TheVariants as object

-- with what it holds a thread keeps the classes of its objects over a change of the store
pub classes_stay : (c : CompiledView) (u : ℕ) (s : StoreView) → u < length s.made → (change : Change) (held : List Grip)
    → AreGripsKept s held → HaveTheirClass c s held → HaveTheirClass c (after_change u s change) held
classes_stay c u s room change held of whole = record {
  objects = λ o y m is at. (let x = (of o m is).0 in
      let z = sites_stay u s room change o x.0 x.1 in
      let same : z.0 ≡ y = let a = z.1 in cc in
      subst (λ site. HoldsClassOf c held site m) (sym z.2 ∙ ap (λ (q : ObjectView). q.site) same)
      (whole.objects o x.0 m is x.1));
  classes = whole.classes;
}

-- thread t is in a section, of which k is still to run
pub record IsRunning (s : State) (t : ℕ) (th : ThreadState) (k : TextView) : Type 0 where
  pub at : IsThread s t th
  pub number : ℕ
  pub runs : th.position ≡ Running number k

-- the keys of thread u allow this change
pub record MayChange (c : CompiledView) (s : State) (u : ℕ) (th : ThreadState) (change : Change) : Type 0 where
  pub at : IsThread s u th
  pub allowed : IsAllowed c s.store th.held change

-- a change by thread u, seen by thread t
module _ (c : CompiledView) (scheme : IsScheme c.scheme) (typed : IsTypedProgram (program_of c)) (s : State)
    (good : Good c s) (t u : ℕ) (apart : t ≢ u) (th other : ThreadState) (k : TextView) (mine : IsRunning s t th k)
    (change : Change) (by_u : MayChange c s u other change) where
  room : u < length s.store.made
  room = (pointed_thread c s good.kept u other by_u.at).row

  secured_now : AllSecured c s.store t mine.number th.frame.work.locals th.held k
  secured_now = good.secured t th mine.number k mine.at mine.runs

  -- what t may read, u leaves as it is
  read_stays : (o : ObjectName) (x : ObjectView) → object_at s.store o ≡ Some x → may_read c s.store th.held o ≡ true
      → (d : Change) → IsAllowed c s.store other.held d → LeavesAlone u s.store d o
  read_stays o x there reads Unchanged allows = tt
  read_stays o x there reads (Written z f d) allows = λ e.
      let reads_z : may_read c s.store th.held z ≡ true =
      subst (λ q. may_read c s.store th.held q ≡ true) (sym e) reads in
      readers_and_writers_exclude c s good.kept t u th other apart mine.at by_u.at (good.classes t th mine.at)
      (good.classes u other by_u.at) z reads_z allows
  read_stays o x there reads (Added new) allows = next_is_none u s.store room o x there

  -- the paths that t needs denote what they did
  pub others_leave_needed_paths_alone : (p : PathView) (e : Effect)
      → NeededIn c.scheme t (end_of c.scheme mine.number) k (lock.Path p e)
      → path_datum (after_change u s.store change) th.frame.work.locals p ≡ path_datum s.store th.frame.work.locals p
  others_leave_needed_paths_alone p e needed =
      path_stays s.store (after_change u s.store change) th.frame.work.locals p (λ q f o goes is.
      let stands = stands_inside c s good.kept t th mine.at mine.number k mine.runs in
      let held = beginnings_are_held c scheme typed t s.store th.frame.work (pointed_thread c s good.kept t th mine.at)
      th.held mine.number k stands secured_now p q f e needed goes o is in
      left_alone u s.store room change o (read_stays o held.0.0 held.0.1 held.1 change by_u.allowed))

  -- so what it has secured stays secured
  pub others_leave_secured : AllSecured c (after_change u s.store change) t mine.number th.frame.work.locals th.held k
  others_leave_secured lock.All needed = secured_now lock.All needed
  others_leave_secured (lock.Class n r) needed = secured_now (lock.Class n r) needed
  others_leave_secured (lock.Path p e) needed = λ o is.
      may_grows c s.store (after_change u s.store change) th.held th.held (holds_same th.held)
      (sites_stay u s.store room change) e o
      (secured_now (lock.Path p e) needed o (sym (others_leave_needed_paths_alone p e needed) ∙ is))

right_enough : (e : Effect) → is_at_least (class_mode (right_for e)) (object_mode e) ≡ true
right_enough effect.Read = refl
right_enough effect.Write = refl

exclusive_passes : (e : Effect) → key_test e Exclusive ≡ true
exclusive_passes effect.Read = refl
exclusive_passes effect.Write = refl

-- the key of the next object isn't held yet
pub next_not_held : (t : ℕ) (s : StoreView) → t < length s.made → (held : List Grip) → AreGripsKept s held
    → held_mode (key_of (object.Made t (count s t))) held ≡ None
next_not_held t s room held of = by (held_mode (key_of (object.Made t (count s t))) held) refl
  where
    by : (o : Option Mode) → held_mode (key_of (object.Made t (count s t))) held ≡ o → o ≡ None
    by None is = refl
    by (Some m) is = let x = (of (object.Made t (count s t)) m is).0 in
        absurd (next_is_none t s room (object.Made t (count s t)) x.0 x.1 refl)

-- a thread in section i, of which k is still to run: what it works with and what it holds
pub record IsInside (c : CompiledView) (t i : ℕ) (s : StoreView) (w : WorkView) (held : List Grip) (k : TextView) : Type
    0 where
  pub pointed : IsPointed c.scheme t s w
  pub kept : AreGripsKept s held
  pub stands : StandsInThread c.scheme t k
  pub secured : AllSecured c s t i w.locals held k

-- its step, by which it comes to hold more: the key of an object that it makes, where nothing guards the object's
-- record
pub record IsStepTo (c : CompiledView) (t : ℕ) (s : StoreView) (w : WorkView) (k : TextView) (l : Label) (k' : TextView)
    (v : WorkView) (change : Change) (more : List Grip) : Type 0 where
  pub leads : Leads k l k'
  pub does : StepsTo (program_of c) t l s w (after_change t s change) v
  pub fresh : (x : ObjectView) → change ≡ Added x → guard_at c x.site ≡ None
      → more ≡ grip (key_of (object.Made t (count s t))) Exclusive ∷ []

module _ (c : CompiledView) (scheme : IsScheme c.scheme) (typed : IsTypedProgram (program_of c)) (t i : ℕ)
    (s : StoreView) (w v : WorkView) (k k' : TextView) (l : Label) (change : Change) (held more : List Grip)
    (inside : IsInside c t i s w held k) (step : IsStepTo c t s w k l k' v change more) where
  -- what it may do it may still do
  grows : (e : Effect) (o : ObjectName) → may_by e c s held o ≡ true
      → may_by e c (after_change t s change) (held ++ more) o ≡ true
  grows e o h = may_grows c s (after_change t s change) held (held ++ more) (holds_append held more)
      (sites_stay t s inside.pointed.row change) e o h

  -- an object that is new is its own
  made_is_held : (e : Effect) (o : ObjectName) (y : ObjectView) → object_at (after_change t s change) o ≡ Some y
      → guard_at c y.site ≡ None → change ≡ Added y → o ≡ object.Made t (count s t)
      → may_by e c (after_change t s change) (held ++ more) o ≡ true
  made_is_held e o y there none added new =
      let k = key_of (object.Made t (count s t)) in
      let gets : held_mode k more ≡ Some Exclusive =
      subst (λ gs. held_mode k gs ≡ Some Exclusive) (sym (step.fresh y added none)) (held_one k Exclusive) in
      let has : held_mode k (held ++ more) ≡ Some Exclusive =
      held_more k held more Exclusive (next_not_held t s inside.pointed.row held inside.kept) gets in
      may_itself c (after_change t s change) (held ++ more) e o y there none
      (inr (inl (Exclusive, ap (λ z. held_mode (key_of z) (held ++ more)) new ∙ has, exclusive_passes e)))

  -- what stays itself when it is carried back is needed before the step
  before : (x : Lock) → CarriedBack c.scheme t l x x → NeededIn c.scheme t (end_of c.scheme i) k' x
      → NeededIn c.scheme t (end_of c.scheme i) k x
  before x back needed = (needed_step c.scheme t (end_of c.scheme i) k x).1
      (inr (l, k', step.leads, inr (x, needed, back)))

  -- all that it needs is secured after the step, as it was before
  pub step_keeps_secured : AllSecured c (after_change t s change) t i v.locals (held ++ more) k'
  step_keeps_secured lock.All needed =
      all_more held (held ++ more) (holds_append held more) (inside.secured lock.All (before lock.All refl needed))
  step_keeps_secured (lock.Class n r) needed =
      elim (or_cases (holds_all held) (is_met (held_mode (key.Class n) held) (class_mode r))
      (inside.secured (lock.Class n r) (before (lock.Class n r) refl needed))) [
        | inl all ↦ or_left (holds_all (held ++ more)) (is_met (held_mode (key.Class n) (held ++ more)) (class_mode r))
            (all_more held (held ++ more) (holds_append held more) all)
        | inr met ↦
            or_right (holds_all (held ++ more)) (is_met (held_mode (key.Class n) (held ++ more)) (class_mode r))
            (met_more held (held ++ more) (holds_append held more) (key.Class n) (class_mode r) met)
      ]
  step_keeps_secured (lock.Path p e) needed =
      λ o is. at o is (was_there t s inside.pointed.row change o (there o is).0 (there o is).1)
    where
      next : IsPointed c.scheme t (after_change t s change) v
      next = (step_pointed c.scheme scheme typed t s w inside.pointed l
          (leads_stands c.scheme t k l k' step.leads inside.stands).0 (after_change t s change) v step.does).0

      own : IsNeedable c.scheme t (lock.Path p e)
      own = needed_needable c.scheme t scheme typed (end_of c.scheme i) (end_needable c.scheme t i) k'
          (leads_stands c.scheme t k l k' step.leads inside.stands).1 (lock.Path p e) needed

      there : (o : ObjectName) → path_datum (after_change t s change) v.locals p ≡ Refers o
          → (x : ObjectView) × (object_at (after_change t s change) o ≡ Some x) × (guard_at c x.site ≡ None)
      there o is = denotes c scheme typed t (after_change t s change) v next held p e own o is

      at : (o : ObjectName) (is : path_datum (after_change t s change) v.locals p ≡ Refers o)
          → ((x : ObjectView) × (object_at s o ≡ Some x) × (x.site ≡ (there o is).0.site))
          ⊎ ((change ≡ Added (there o is).0) × (o ≡ object.Made t (count s t)))
          → may_by e c (after_change t s change) (held ++ more) o ≡ true
      at o is (inr (added, new)) = made_is_held e o (there o is).0 (there o is).1 (there o is).2 added new
      at o is (inl (x, was, same)) =
          elim (needed_secures c.scheme scheme typed t (end_of c.scheme i) (end_needable c.scheme t i) k inside.stands s
          w inside.pointed l k' step.leads (after_change t s change) v step.does p e o needed is) [
            | inl (inl (q, needs, denotes)) ↦ grows e o (inside.secured (lock.Path q e) needs o denotes)
            | inl (inr (n, needs, (y, is_there, class))) ↦
                let one : y ≡ x = cc in
                let none : guard_at c y.site ≡ None = ap (λ (z : ObjectView). guard_at c z.site) one
                ∙ ap (guard_at c) same
                ∙ (there o is).2 in
                grows e o
                (elim (or_cases (holds_all held) (is_met (held_mode (key.Class n) held) (class_mode (right_for e)))
                (inside.secured (lock.Class n (right_for e)) needs)) [
                  | inl all ↦ may_itself c s held e o y is_there none (inl all)
                  | inr met ↦ may_by_class c s held e n (class_mode (right_for e)) o y is_there none class met
                      (right_enough e)
                ])
            | inr made ↦ absurd (next_is_none t s inside.pointed.row o x was (new_name l made))
          ]
        where
          new_name : (l : Label) → IsMade t w.made l p o → object.Made t (count s t) ≡ o
          new_name l made = ap (object.Made t) (sym inside.pointed.made) ∙ sym (made_name l made)
            where
              made_name : (l : Label) → IsMade t w.made l p o → o ≡ object.Made t w.made
              made_name (label.Act (action.Assign x v)) made = absurd made
              made_name (label.Act (action.Compute x v u w)) made = absurd made
              made_name (label.Act (action.New x r i)) made = made.1
              made_name (label.Act (action.Load x b f)) made = absurd made
              made_name (label.Act (action.Store b f v)) made = absurd made
              made_name (label.Act (action.Print v)) made = absurd made
              made_name (label.Test d) made = absurd made
              made_name (label.Section n) made = absurd made

same_made : (t n : ℕ) (o : ObjectName) → key_of o ≡ key_of (object.Made t n) → o ≡ object.Made t n
same_made t n (object.Global g) e = absurd cc
same_made t n (object.Made u m) e = let f : key.Made u m ≡ key.Made t n = e in cc

-- more keys keep the class of what is held
class_of_more : (c : CompiledView) (held more : List Grip) (site : ℕ) (m : Mode) → HoldsClassOf c held site m
    → HoldsClassOf c (held ++ more) site m
class_of_more c held more site m (inl all) = inl (all_more held (held ++ more) (holds_append held more) all)
class_of_more c held more site m (inr (b, is, enough)) =
    inr (b, mode_of_class_more c held (held ++ more) (holds_append held more) site b is, enough)

-- what a change adds to the keys has no class
no_class_comes : (c : CompiledView) (t made : ℕ) (change : Change) (n : ℕ) (m : Mode)
    → held_mode (key.Class n) (grips_of c t made change) ≡ Some m → ⊥
no_class_comes c t made Unchanged n m e = absurd cc
no_class_comes c t made (Written z f d) n m e = absurd cc
no_class_comes c t made (Added x) n m e = by (guard_at c x.site) e
  where
    by : (g : Option ℕ) → held_mode (key.Class n) (fresh_grip g t made) ≡ Some m → ⊥
    by None e = absurd cc
    by (Some g) e = absurd cc

-- and it holds the classes of its objects
pub step_keeps_classes : (c : CompiledView) (t : ℕ) (s : StoreView) → t < length s.made
    → (change : Change) (held : List Grip) (made : ℕ) → made ≡ count s t → AreGripsKept s held → HaveTheirClass c s held
    → IsAllowed c s held change → HaveTheirClass c (after_change t s change) (held ++ grips_of c t made change)
step_keeps_classes c t s room change held made counted of whole allowed = record {
  objects = λ o y m is at. class_of_more c held (grips_of c t made change) y.site m
      (elim (held_split (key_of o) held (grips_of c t made change) m is) [
        | inl old ↦ (classes_stay c t s room change held of whole).objects o y m old at
        | inr new ↦ by o y m change allowed at new
      ]);
  classes = λ n m is. elim (held_split (key.Class n) held (grips_of c t made change) m is) [
    | inl old ↦ (let b = whole.classes n m old in
        (b.0, holds_append held (grips_of c t made change) key.All b.0 b.1, b.2))
    | inr new ↦ absurd (no_class_comes c t made change n m new)
  ];
}
  where
    made_by : (x : ObjectView) (m : Mode) → may_make_by c s held x.site None ≡ true → Exclusive ≡ m
        → HoldsClassOf c held x.site m
    made_by x m makes is = elim (or_cases (holds_all held) (passes is_making (mode_of_class c held x.site)) makes) [
      | inl all ↦ inl all
      | inr passed ↦ (let k = passes_in is_making (mode_of_class c held x.site) passed in
          inr (k.0, k.1, subst (λ z. is_at_least k.0 (intention_of z) ≡ true) is k.2))
    ]

    fresh : (o : ObjectName) (y : ObjectView) (m : Mode) (x : ObjectView) (g : Option ℕ) → guard_at c x.site ≡ g
        → may_make_by c s held x.site g ≡ true
        → object_at (after_change t s (Added x)) o ≡ Some y → held_mode (key_of o) (fresh_grip g t made) ≡ Some m
        → HoldsClassOf c held y.site m
    fresh o y m x (Some g) guarded makes at e = absurd cc
    fresh o y m x None none makes at e =
        let p = held_only (key_of o) (key_of (object.Made t made)) Exclusive m e in
        let name : o ≡ object.Made t (count s t) = same_made t made o p.0 ∙ ap (object.Made t) counted in
        elim (was_there t s room (Added x) o y at) [
          | inl (z, there, same) ↦ absurd (next_is_none t s room o z there (sym name))
          | inr (is, other) ↦
              let same : x ≡ y = let f : Added x ≡ Added y = is in cc in
              subst (λ (q : ObjectView). HoldsClassOf c held q.site m) same (made_by x m makes p.1)
        ]

    by : (o : ObjectName) (y : ObjectView) (m : Mode) (d : Change) → IsAllowed c s held d
        → object_at (after_change t s d) o ≡ Some y → held_mode (key_of o) (grips_of c t made d) ≡ Some m
        → HoldsClassOf c held y.site m
    by o y m Unchanged allows at e = absurd cc
    by o y m (Written z f d) allows at e = absurd cc
    by o y m (Added x) allows at e = fresh o y m x (guard_at c x.site) refl allows at e

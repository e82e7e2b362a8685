-- States of runs are well kept.
use Rattle.std.proofs.Common.{◌≡◌, ◌≢◌, ℕ, zero, suc, ◌<◌, Bool, true, false, refl, sym, ap, ◌∙◌, subst, ◌⊎◌, inl, inr}
use Rattle.std.proofs.Common.{⊎_elim, List, [], ◌∷◌, ◌++◌, length, Option, Some, None, true≢false, arith, append_assoc}
use Rattle.std.proofs.{Common.{append-nil}, lemmas.Option.{slice_get_within, slice_get-get_or}, lemmas.Bool.{and_parts}}
use Rattle.std.proofs.lemmas.List.{length-map}
use Rattle.std.specs.Prelude.{slice_get, slice_index_or, ⊤, ℤ, if◌then◌else◌}
use Rattle.sect_lemmas.specs.Lists.{Has, put_at}
use Rattle.sect_types.specs.Statements.{TextView, Stop, Do, Choose, Loop, Section}
use Rattle.sect_types.specs.{Sections.{SectionView, sections_of}, Programs.{environment_at, sites_of}}
use Rattle.sect_types.specs.declared.meaning.store.ObjectName.{ObjectName}
use Rattle.sect_types.specs.declared.meaning.store.ObjectName.TheVariants.{Global, Made}
use Rattle.sect_types.specs.declared.meaning.store.Datum.{Datum}
use Rattle.sect_types.specs.declared.meaning.store.Datum.TheVariants.{Number, Null, Refers}
use Rattle.sect_types.specs.{declared.meaning.store.Fault.{Fault}, Store.{ObjectView, StoreView, object_at, count}}
use Rattle.sect_types.specs.Meaning.{WorkView, Change, Unchanged, Written, Added, after_change, Next, On, Off, next}
use Rattle.sect_types.specs.Whole.{settled, failed, frame_after, local_step, first_store, first_work}
use Rattle.sect_types.specs.Whole.{first_frames}
use Rattle.sect_points.specs.{Paths.{PathView, var, dot, PathHas}, Sets.{InSets}}
use Rattle.sect_names.specs.{declared.lock.Lock.{Lock}, declared.lock.Effect.{Effect}}
use Rattle.sect_names.specs.Locks.{IsPathOf, IsPathIn, IsOwn}
use Rattle.sect_modes.specs.{declared.mode.Mode.{Mode}, declared.mode.Mode.TheVariants.{Exclusive}}
use Rattle.sect_modes.specs.{declared.key.Key.{Key}, Mode.{are_compatible, is_at_least, intention_of}}
use Rattle.sect_modes.specs.Key.{is_same_key}
use Rattle.sect_emit.specs.declared.plan.Grip.{Grip}
use Rattle.sect_emit.specs.Plan.{grip, key_of, path_datum, field_datum, field_of, held_mode, Ascends, IsFixedPart}
use Rattle.sect_emit.specs.Compiled.{CompiledView, IsCompiled, program_of}
use Rattle.sect_emit.specs.State.{Position, Outside, Entered, Running, Faulted, ThreadState, State, IsThread, plan_at}
use Rattle.sect_emit.specs.{State.{start, outside}, ModeTests.{is_reading_object}}
use Rattle.sect_world.specs.declared.event.Deed.{Deed}
use Rattle.sect_world.specs.declared.event.Deed.TheVariants.{Local, Enter, Take, Begin, Again, Act, Leave}
use Rattle.sect_world.specs.declared.event.Event.{Event}
use Rattle.sect_world.specs.Events.{all_but, lets, lets_in, guard_at, fresh_grip, grips_of, entering, taking, beginning}
use Rattle.sect_world.specs.Events.{giving_back, with_frame, emptied, acting, changed_by, frame_out, step_in, IsReady}
use Rattle.sect_world.specs.{Events.{IsOver, MayDo}, Runs.{RunsTo, IsRun}}
use Rattle.sect_world.specs.Kept.{IsPlaced, AsksInOrder, IsTextOf, IsObject, IsStoreKept, IsWorkKept, AreGripsKept}
use Rattle.sect_world.specs.Kept.{AreApart, HaveTheirClass, IsAt, IsThreadKept, AreCompatible, IsWellKept, HoldsClassOf}
use Rattle.sect_world.specs.Held.{class_mode_in, mode_of_class}
use Rattle.sect_lemmas.proofs.{Options.{some_injective, none_or_some}, Places.{each_passes}}
use Rattle.sect_lemmas.proofs.Replaced.{at-put_at, length-changed_at, slice_get-map}
use Rattle.sect_emit.proofs.shared.{Keys.{not_below_itself}, Modes.{sharing_turned}}
use Rattle.sect_emit.proofs.shared.Grips.{held_split}
use Rattle.sect_emit.proofs.shared.Plans.{mode_is_there, ascending_mode, ascends_left, ascends_right}
use Rattle.sect_emit.proofs.shared.PlanModes.{plan_object, plan_object_mode, plan_holds_the_classes, key_of-injective}
use Rattle.sect_emit.proofs.shared.{PlanModes.{plan_holds_all}, Pointing.{others_pointed}}
use Rattle.sect_world.proofs.{Planning.{plan_at_ascends}, Listing.{text_of}}
use Rattle.sect_world.proofs.KeptSteps.{Grows, grows_same, fresh_name, added_there, IsNextKept, next_kept}
use Rattle.sect_world.proofs.LocalSteps.{local_looks, IsQuiet, local_quiet}
use Rattle.sect_world.proofs.KeptStarts.{first_store_kept, first_work_kept}
use Rattle.sect_types.proofs.shared.Data.{refers_injective, null_refers}
use Rattle.sect_types.proofs.shared.Starts.{first_frame, first_frames-length, settled_text, settled_work}
use Rattle.sect_names.proofs.shared.Sounding.{path_there}
use Rattle.sect_points.proofs.shared.ClassLaws.{path_classes}
use Rattle.sect_modes.proofs.shared.Keys.{same_key, key_itself}
use Rattle.sect_points.specs.declared.holders.Variable.TheVariants as variable
use Rattle.sect_points.specs.declared.holders.Holder.TheVariants as holder
use Rattle.sect_names.specs.declared.lock.Lock.TheVariants as lock
use Rattle.sect_modes.specs.declared.key.Key.TheVariants as key

-- what is there stays there
object_on : (t : ℕ) (s after : StoreView) → Grows t s after → (o : ObjectName) → IsObject s o → IsObject after o
object_on t s after g o x = let y = g.keeps o x.0 x.1 in (y.0, y.1)

grips_on : (t : ℕ) (s after : StoreView) → Grows t s after → (gs : List Grip) → AreGripsKept s gs
    → AreGripsKept after gs
grips_on t s after g gs k o m e = let h = k o m e in (object_on t s after g o h.0, h.1)

grips_append : (s : StoreView) (xs ys : List Grip) → AreGripsKept s xs → AreGripsKept s ys → AreGripsKept s (xs ++ ys)
grips_append s xs ys a b o m e = ⊎_elim (λ h. a o m h) (λ h. b o m h) (held_split (key_of o) xs ys m e)

-- a key that isn't in a list has no mode there
no_mode : (k : Key) (gs : List Grip) → ((m : Mode) → held_mode k gs ≡ Some m → ⊥) → held_mode k gs ≡ None
no_mode k gs none = by (held_mode k gs) refl where
  by : (o : Option Mode) → held_mode k gs ≡ o → held_mode k gs ≡ None
  by None e = e
  by (Some m) e = absurd (none m e)

ascends_apart : (gs : List Grip) → Ascends gs → AreApart gs
ascends_apart [] a = tt
ascends_apart (g ∷ gs) a = (
  no_mode g.key gs
      (λ m e. not_below_itself g.key (a.0 (grip g.key m) (mode_is_there g.key m gs e))),
  ascends_apart gs a.1,
)

apart_more : (xs : List Grip) (g : Grip) → AreApart xs → held_mode g.key xs ≡ None → AreApart (xs ++ g ∷ [])
apart_more [] g a none = (refl, tt)
apart_more (x ∷ xs) g a none = by (is_same_key g.key x.key) refl none (apart_more xs g a.1) where
  one : (m : Mode) → held_mode x.key (g ∷ []) ≡ Some m → is_same_key x.key g.key ≡ true
  one m h = by (is_same_key x.key g.key) refl h where
    by : (b : Bool) → is_same_key x.key g.key ≡ b → (if b then Some g.mode else None) ≡ Some m
        → is_same_key x.key g.key ≡ true
    by true e f = e
    by false e f = absurd (none_or_some m f)

  by : (b : Bool) → is_same_key g.key x.key ≡ b → (if b then Some x.mode else held_mode g.key xs) ≡ None
      → (held_mode g.key xs ≡ None → AreApart (xs ++ g ∷ [])) → AreApart (x ∷ xs ++ g ∷ [])
  by true e n more = absurd (none_or_some x.mode (sym n))
  by false e n more = (
    no_mode x.key (xs ++ g ∷ [])
        (λ m is. ⊎_elim (λ h. none_or_some m (sym a.0 ∙ h)) (λ h. other m h) (held_split x.key xs (g ∷ []) m is)),
    more n,
  )
    where
      other : (m : Mode) → held_mode x.key (g ∷ []) ≡ Some m → ⊥
      other m h = true≢false (sym (ap (λ k. is_same_key g.key k) (same_key x.key g.key (one m h)) ∙ key_itself g.key)
          ∙ e)

no_grips : (s : StoreView) → AreGripsKept s []
no_grips s o m e = absurd (none_or_some m e)

classes_on : (c : CompiledView) (t : ℕ) (s after : StoreView) → Grows t s after → (gs : List Grip) → AreGripsKept s gs
    → HaveTheirClass c s gs → HaveTheirClass c after gs
classes_on c t s after g gs k h = record {
  objects = λ o x m e at. (let x0 = (k o m e).0 in
      let y = g.keeps o x0.0 x0.1 in
      let same : x ≡ y.0 = some_injective x y.0 (sym at ∙ y.1) in
      subst (λ site. HoldsClassOf c gs site m) (sym (ap (λ (z : ObjectView). z.site) same ∙ y.2))
      (h.objects o x0.0 m e x0.1));
  classes = h.classes;
}

-- what another thread does keeps a thread
thread_on : (c : CompiledView) (t u : ℕ) (s after : StoreView) (th : ThreadState) → Grows t s after → t ≢ u
    → IsThreadKept c s u th → IsThreadKept c after u th
thread_on c t u s after th g apart k = record {
  asks = k.asks;
  at = by th.position k.at;
  work = record {
    made = k.work.made ∙ sym (g.others u apart);
    locals =
        others_pointed c.scheme s after g.keeps u th.frame.work.locals k.work.locals;
  };
  text = k.text;
  held = grips_on t s after g th.held k.held;
  apart = k.apart;
  wanted = grips_on t s after g th.wanted k.wanted;
} where
  by : (p : Position) → IsAt c s u p th → IsAt c after u p th
  by Outside a = a
  by Entered a = (
    a.0,
    classes_on c t s after g (th.held ++ th.wanted)
        (grips_append s th.held th.wanted k.held k.wanted) a.1,
    a.2,
  )
  by (Running i k) a = a
  by (Faulted i why) a = a

-- the thread holds nothing that is in another's way
abbrev IsCompatibleWith : State → ℕ → ThreadState → Type 0
IsCompatibleWith s t th =
    (u : ℕ) (other : ThreadState) (k : Key) (m n : Mode) → t ≢ u → IsThread s u other → held_mode k th.held ≡ Some m
    → held_mode k other.held ≡ Some n → are_compatible m n ≡ true

-- thread t replaced, and the store
replaced_kept : (c : CompiledView) (s : State) (t : ℕ) (th : ThreadState) (store : StoreView) (output : List ℤ)
    → IsWellKept c s → Grows t s.store store → IsStoreKept c store
    → IsThreadKept c store t th → IsCompatibleWith s t th
    → IsWellKept c (record { store = store; output = output; threads = put_at t th s.threads })
replaced_kept c s t th store output k g ks kt fits =
    record {
      as_many = length-changed_at t (λ old. th) s.threads ∙ k.as_many;
      store = ks;
      threads =
          threads;
      compatible = compatible;
    } where
      threads : (u : ℕ) (x : ThreadState) → slice_get (put_at t th s.threads) u ≡ Some x → IsThreadKept c store u x
      threads u x at = by (at-put_at t u th x s.threads at) where
        by : ((t ≡ u) × (th ≡ x)) ⊎ ((t ≢ u) × (slice_get s.threads u ≡ Some x)) → IsThreadKept c store u x
        by (inl same) = subst (λ n. IsThreadKept c store n x) same.0 (subst (IsThreadKept c store t) same.1 kt)
        by (inr other) = thread_on c t u s.store store x g other.0 (k.threads u x other.1)

      compatible : AreCompatible (record { store = store; output = output; threads = put_at t th s.threads })
      compatible u v x y j m n apart atx aty hx hy =
          by (at-put_at t u th x s.threads atx) (at-put_at t v th y s.threads aty) where
            by : ((t ≡ u) × (th ≡ x)) ⊎ ((t ≢ u) × (slice_get s.threads u ≡ Some x))
                → ((t ≡ v) × (th ≡ y)) ⊎ ((t ≢ v) × (slice_get s.threads v ≡ Some y)) → are_compatible m n ≡ true
            by (inl a) (inl b) = absurd (apart (sym a.0 ∙ b.0))
            by (inl a) (inr b) = fits v y j m n b.0 b.1
                (subst (λ (z : ThreadState). held_mode j z.held ≡ Some m) (sym a.1) hx) hy
            by (inr a) (inl b) = sharing_turned m n
                ∙ fits u x j n m a.0 a.1 (subst (λ (z : ThreadState). held_mode j z.held ≡ Some n) (sym b.1) hy) hx
            by (inr a) (inr b) = k.compatible u v x y j m n apart a.1 b.1 hx hy

-- a thread that holds what it held is compatible with the others
held_compatible : (c : CompiledView) (s : State) (t : ℕ) (old th : ThreadState) → IsWellKept c s → IsThread s t old
    → th.held ≡ old.held → IsCompatibleWith s t th
held_compatible c s t old th k at same u other j m n apart there hx hy =
    k.compatible t u old other j m n apart at there (subst (λ gs. held_mode j gs ≡ Some m) same hx) hy

nothing_compatible : (s : State) (t : ℕ) (th : ThreadState) → th.held ≡ [] → IsCompatibleWith s t th
nothing_compatible s t th none u other j m n apart there hx hy =
    absurd (none_or_some m (subst (λ gs. held_mode j gs ≡ Some m) none hx))

abbrev NotStop : TextView → Type 0
NotStop Stop = ⊥
NotStop (Do a r) = ⊤
NotStop (Choose d p q r) = ⊤
NotStop (Loop d p r) = ⊤
NotStop (Section i p r) = ⊤

not_stop : (k : TextView) → NotStop k → k ≢ Stop
not_stop k n e = subst NotStop e n

settled_stands : (k : TextView) (w : WorkView) → (settled k w).ended ≡ None → (settled k w).text ≢ Stop
settled_stands Stop w e = absurd (none_or_some _ (sym e))
settled_stands (Do a r) w e = not_stop (Do a r) tt
settled_stands (Choose d p q r) w e = not_stop (Choose d p q r) tt
settled_stands (Loop d p r) w e = not_stop (Loop d p r) tt
settled_stands (Section i p r) w e = not_stop (Section i p r) tt

failed_stands : (why : Fault) (k : TextView) (w : WorkView) → (failed why k w).ended ≡ None
    → (failed why k w).text ≢ Stop
failed_stands why k w e = absurd (none_or_some _ (sym e))

all_others : {X : Type 0} (t u : ℕ) (test : X → Bool) (xs : List X) (x : X) → all_but t test xs ≡ true → t ≢ u
    → slice_get xs u ≡ Some x → test x ≡ true
all_others t u test [] x e apart at = absurd (none_or_some x at)
all_others zero zero test (y ∷ xs) x e apart at = absurd (apart refl)
all_others zero (suc u) test (y ∷ xs) x e apart at = each_passes test xs e u x at
all_others (suc t) zero test (y ∷ xs) x e apart at = ap test (sym (some_injective y x at))
    ∙ (and_parts (test y) (all_but t test xs) e).0
all_others (suc t) (suc u) test (y ∷ xs) x e apart at =
    all_others t u test xs x (and_parts (test y) (all_but t test xs) e).1 (λ same. apart (ap suc same)) at

module _ (c : CompiledView) (is : IsCompiled c) where
  -- what a path of a lock denotes is there, at one of the path's sites
  path_lies : (s : StoreView) (t : ℕ) (w : WorkView) (p : PathView) (o : ObjectName) → IsStoreKept c s
      → IsWorkKept c s t w → IsPathOf (program_of c) p → IsOwn t p → path_datum s w.locals p ≡ Refers o
      → (x : ObjectView) × (object_at s o ≡ Some x) × PathHas (InSets c.scheme.classes.sets) p x.site
  path_lies s t w (var (variable.Global g)) o ks kw there own e =
      let x = ks.pointed.globals g there in
      (x.0, ap (object_at s) (sym (refers_injective (Global g) o e)) ∙ x.1, x.2)
  path_lies s t w (var (variable.Local u x)) o ks kw there own e =
      let l = kw.locals x o e in
      (l.0, l.1, subst (λ v. InSets c.scheme.classes.sets (holder.Local v x) l.0.site) (sym own) l.2)
  path_lies s t w (dot p f) o ks kw there own e =
      by (path_datum s w.locals p) refl e (λ q h. path_lies s t w p q ks kw there.0 own h) where
        by : (d : Datum) → path_datum s w.locals p ≡ d → field_of s d f.number ≡ Refers o
            → ((q : ObjectName) → path_datum s w.locals p ≡ Refers q → (x : ObjectView) × (object_at s q ≡ Some x)
            × PathHas (InSets c.scheme.classes.sets) p x.site)
            → (x : ObjectView) × (object_at s o ≡ Some x) × PathHas (InSets c.scheme.classes.sets) (dot p f) x.site
        by (Number n) at r more = absurd (null_refers o r)
        by Null at r more = absurd (null_refers o r)
        by (Refers q) at r more =
            let y = more q at in
            let l = ks.pointed.fields q y.0 f.number y.1 o (ap (λ z. field_datum z f.number) (sym y.1) ∙ r) in
            (l.0, l.1, (y.0.site, y.2, l.2))

  -- a section that is there has its locks and the fixed part of its plan
  abbrev locks_at : ℕ → List Lock
  locks_at i = slice_index_or c.sets i []

  abbrev part_at : ℕ → List Grip
  part_at i = slice_index_or c.parts i []

  locks_there : (i : ℕ) (x : SectionView) → slice_get (sections_of (program_of c).texts) i ≡ Some x
      → slice_get c.sets i ≡ Some (locks_at i)
  locks_there i x at =
      let lt = slice_get_within (sections_of (program_of c).texts) i x at in
      let sets = is.set_count in
      slice_get-get_or c.sets i [] (omega (arith, lt, sets))

  part_there : (i : ℕ) (x : SectionView) → slice_get (sections_of (program_of c).texts) i ≡ Some x
      → slice_get c.parts i ≡ Some (part_at i)
  part_there i x at =
      let lt = slice_get_within (sections_of (program_of c).texts) i x at in
      let parts = is.part_count in
      slice_get-get_or c.parts i [] (omega (arith, lt, parts))

  -- the plan of a section of thread t
  module _ (s : StoreView) (t i : ℕ) (body : TextView) (w : WorkView) (ks : IsStoreKept c s) (kw : IsWorkKept c s t w)
      (there : slice_get (sections_of (program_of c).texts) i ≡ Some (record { thread = t; body = body })) where
    denotes : (p : PathView) (e : Effect) (o : ObjectName) → Has (locks_at i) (lock.Path p e)
        → path_datum s w.locals p ≡ Refers o
        → (x : ObjectView) × (object_at s o ≡ Some x) × PathHas (InSets c.scheme.classes.sets) p x.site
    denotes p e o h r =
        let locks = locks_there i (record { thread = t; body = body }) there in
        let lawful : IsPathIn c.scheme t p =
        is.lawful i (record { thread = t; body = body }) (locks_at i) (lock.Path p e) there locks h in
        path_lies s t w p o ks kw (path_there (program_of c) p lawful.of lawful.refers) lawful.own r

    -- the object keys of a plan are those of objects that are there
    pub plan_kept : AreGripsKept s (plan_at c i s w.locals)
    plan_kept o m e =
        let part = is.planned i (locks_at i) (part_at i) (locks_there i (record { thread = t; body = body }) there)
        (part_there i (record { thread = t; body = body }) there) in
        let has = mode_is_there (key_of o) m (plan_at c i s w.locals) e in
        let p = plan_object c.scheme (part_at i) (locks_at i) s w.locals part (grip (key_of o) m) o has refl in
        let x = denotes p.0 p.1 o p.2 p.3 in
        ((x.0, x.1), plan_object_mode c.scheme (part_at i) (locks_at i) s w.locals part (grip (key_of o) m) o has refl)

    -- a plan has the class of each of its objects, and `all` with each class
    pub plan_classes : HaveTheirClass c s (plan_at c i s w.locals)
    plan_classes = record {
      objects = λ o x m e at. inr (class_of o x m e at);
      classes = λ n m e. (let h = plan_holds_all c.scheme (part_at i) (locks_at i) s w.locals part n m
          (mode_is_there (key.Class n) m (plan_at c i s w.locals) e) in (
            h.0,
            ascending_mode (plan_at c i s w.locals) (plan_at_ascends c is i s w.locals) (grip key.All h.0) h.1,
            h.2,
          ));
    }
      where
        part : IsFixedPart c.scheme (locks_at i) (part_at i)
        part = is.planned i (locks_at i) (part_at i) (locks_there i (record { thread = t; body = body }) there)
            (part_there i (record { thread = t; body = body }) there)

        class_of : (o : ObjectName) (x : ObjectView) (m : Mode) → held_mode (key_of o) (plan_at c i s w.locals) ≡ Some m
            → object_at s o ≡ Some x
            → (b : Mode) × (mode_of_class c (plan_at c i s w.locals) x.site ≡ Some b)
            × (is_at_least b (intention_of m) ≡ true)
        class_of o x m e at =
            let of = (ks.sited o x at).1 in
            let within = slice_get_within (sites_of (program_of c).globals (program_of c).texts) x.site
            (ks.sited o x at).0 of in
            let sites = is.scheme.sites in
            let many = is.scheme.parted.sites in
            let n = slice_index_or c.scheme.classes.numbers x.site 0 in
            let numbered : slice_get c.scheme.classes.numbers x.site ≡ Some n =
            slice_get-get_or c.scheme.classes.numbers x.site 0 (omega (arith, within, sites, many)) in
            let h = plan_holds_the_classes c.scheme (part_at i) (locks_at i) s w.locals part o n
            (λ p f d has r hd. let y = denotes p f o has r in
            let same : y.0 ≡ x = some_injective y.0 x (sym y.1 ∙ at) in
            (path_classes c.scheme.classes is.scheme.parted).one p d n hd (
              x.site,
              subst (λ (z : ObjectView). PathHas (InSets c.scheme.classes.sets) p z.site) same y.2,
              numbered,
            ))
            m (mode_is_there (key_of o) m (plan_at c i s w.locals) e) in (
              h.0,
              ap (class_mode_in (plan_at c i s w.locals)) numbered
                  ∙ ascending_mode (plan_at c i s w.locals) (plan_at_ascends c is i s w.locals) (grip (key.Class n) h.0)
                  h.1,
              h.2,
            )

  -- what holds of a thread at a known place
  placed_at : (th : ThreadState) (p : Position) → th.position ≡ p → AsksInOrder th → IsPlaced p th
  placed_at th p e a = subst (λ q. IsPlaced q th) e a

  stands_at : (s : StoreView) (t : ℕ) (th : ThreadState) (p : Position) → th.position ≡ p → IsAt c s t th.position th
      → IsAt c s t p th
  stands_at s t th p e a = subst (λ q. IsAt c s t q th) e a

  -- a thread outside after a local step
  local_frame_kept : (s : StoreView) (t : ℕ) (text : TextView) (w : WorkView) (n : Next)
      → IsTextOf (program_of c) t false text → w.printed ≡ [] → IsNextKept c is s t false n → IsQuiet w n
      → (p : Position) → p ≡ Outside
      → IsThreadKept c s t (record { position = p; frame = frame_after text n; wanted = []; held = [] })
  local_frame_kept s t text w (On rest v ch) kt printed k q p at = record {
    asks = subst (λ x. IsPlaced x (record { position = p; frame = settled rest v; wanted = []; held = [] })) (sym at)
        (refl, refl);
    at = subst (λ x. IsAt c s t x (record { position = p; frame = settled rest v; wanted = []; held = [] })) (sym at)
        (ap (λ (z : WorkView). z.printed) (settled_work rest v) ∙ q.1 ∙ printed, settled_stands rest v);
    work = subst (IsWorkKept c s t) (sym (settled_work rest v))
        (subst (λ x. IsWorkKept c (after_change t s x) t v) q.0 k.1);
    text = subst (IsTextOf (program_of c) t false) (sym (settled_text rest v)) k.0;
    held = no_grips s;
    apart = tt;
    wanted = no_grips s;
  }
  local_frame_kept s t text w (Off why v) kt printed k q p at = record {
    asks = subst (λ x. IsPlaced x (record { position = p; frame = failed why text v; wanted = []; held = [] })) (sym at)
        (refl, refl);
    at = subst (λ x. IsAt c s t x (record { position = p; frame = failed why text v; wanted = []; held = [] })) (sym at)
        (q ∙ printed, failed_stands why text v);
    work = k;
    text = kt;
    held = no_grips s;
    apart = tt;
    wanted = no_grips s;
  }

  local_kept : (s : StoreView) (t : ℕ) (th : ThreadState) → t < length s.made → IsStoreKept c s → IsThreadKept c s t th
      → th.position ≡ Outside → IsThreadKept c s t (with_frame (local_step (program_of c) t th.frame) th)
  local_kept s t th lt ks k at =
      let p = placed_at th Outside at k.asks in
      let sound = k.text.sound in
      let f = local_step (program_of c) t th.frame in
      let kept : IsNextKept c is s t false (next (program_of c) t th.frame.text None th.frame.work) =
      subst (IsNextKept c is s t false)
      (sym (local_looks (program_of c) (environment_at (program_of c) t) t th.frame.text th.frame.work s sound))
      (next_kept c is s t false th.frame.text th.frame.work lt ks k.work k.text) in
      let r = local_frame_kept s t th.frame.text th.frame.work (next (program_of c) t th.frame.text None th.frame.work)
      k.text (stands_at s t th Outside at k.at).0 kept
      (local_quiet (program_of c) (environment_at (program_of c) t) t th.frame.text th.frame.work sound) th.position
      at in
      subst (λ gs. IsThreadKept c s t (record { position = th.position; frame = f; wanted = gs; held = th.held }))
      (sym p.1)
      (subst (λ gs. IsThreadKept c s t (record { position = th.position; frame = f; wanted = []; held = gs })) (sym p.0)
      r)

  -- one that has entered
  enter_kept : (s : StoreView) (t i : ℕ) (body rest : TextView) (th : ThreadState) → IsStoreKept c s
      → IsThreadKept c s t th → th.position ≡ Outside → th.frame.ended ≡ None → th.frame.text ≡ Section i body rest
      → IsThreadKept c s t (entering (plan_at c i s th.frame.work.locals) th)
  enter_kept s t i body rest th ks k at alive text =
      let p = placed_at th Outside at k.asks in
      let listed = (subst (IsTextOf (program_of c) t false) text k.text).listed.0 in
      record {
        asks = (
          alive,
          subst (λ gs. Ascends (gs ++ plan_at c i s th.frame.work.locals)) (sym p.0)
              (plan_at_ascends c is i s th.frame.work.locals),
        );
        at = (
          (stands_at s t th Outside at k.at).0,
          subst (λ gs. HaveTheirClass c s (gs ++ plan_at c i s th.frame.work.locals)) (sym p.0)
              (plan_classes s t i body th.frame.work ks k.work listed),
          (i, body, rest, text),
        );
        work = k.work;
        text = k.text;
        held = k.held;
        apart = k.apart;
        wanted = plan_kept s t i body th.frame.work ks k.work listed;
      }

  -- one that has taken its first wanted key
  take_kept : (s : StoreView) (t : ℕ) (k : Key) (m : Mode) (rest : List Grip) (th : ThreadState) → IsThreadKept c s t th
      → th.position ≡ Entered → th.wanted ≡ grip k m ∷ rest → IsThreadKept c s t (taking k m rest th)
  take_kept s t k m rest th kt at wants =
      let same : th.held ++ th.wanted ≡ (th.held ++ grip k m ∷ []) ++ rest = ap (λ gs. th.held ++ gs) wants
      ∙ sym (append_assoc th.held (grip k m ∷ []) rest) in
      let p = placed_at th Entered at kt.asks in
      let a = stands_at s t th Entered at kt.at in
      let up : Ascends (grip k m ∷ rest) = subst Ascends wants (ascends_right th.held th.wanted p.1) in
      let kept : AreGripsKept s (grip k m ∷ rest) = subst (AreGripsKept s) wants kt.wanted in
      record {
        asks = subst (λ q. IsPlaced q (taking k m rest th)) (sym at) (p.0, subst Ascends same p.1);
        at = subst (λ q. IsAt c s t q (taking k m rest th)) (sym at) (a.0, subst (HaveTheirClass c s) same a.1, a.2);
        work = kt.work;
        text = kt.text;
        held = grips_append s th.held (grip k m ∷ []) kt.held (first kept);
        apart = ascends_apart (th.held ++ grip k m ∷ [])
            (ascends_left (th.held ++ grip k m ∷ []) rest (subst Ascends same p.1));
        wanted = λ o n e. kept o n (ascending_mode (grip k m ∷ rest) up (grip (key_of o) n)
            (inr (mode_is_there (key_of o) n rest e)));
      } where
        first : AreGripsKept s (grip k m ∷ rest) → AreGripsKept s (grip k m ∷ [])
        first kept o n e = by (is_same_key (key_of o) k) refl e where
          by : (b : Bool) → is_same_key (key_of o) k ≡ b → (if b then Some m else None) ≡ Some n
              → IsObject s o × (is_reading_object n ≡ true)
          by true is e' = kept o n (ap (λ x. if x then Some m else held_mode (key_of o) rest) is ∙ e')
          by false is e' = absurd (none_or_some n e')

  take_compatible : (s : State) (t : ℕ) (k : Key) (m : Mode) (rest : List Grip) (th : ThreadState) → IsWellKept c s
      → IsThread s t th → all_but t (lets_in k m) s.threads ≡ true → IsCompatibleWith s t (taking k m rest th)
  take_compatible s t k m rest th kept at lets_all u other j a b apart there hj hb =
      ⊎_elim old new (held_split j th.held (grip k m ∷ []) a hj) where
        old : held_mode j th.held ≡ Some a → are_compatible a b ≡ true
        old h = kept.compatible t u th other j a b apart at there h hb

        new : held_mode j (grip k m ∷ []) ≡ Some a → are_compatible a b ≡ true
        new h = by (is_same_key j k) refl h where
          by : (x : Bool) → is_same_key j k ≡ x → (if x then Some m else None) ≡ Some a → are_compatible a b ≡ true
          by true is e =
              let free = all_others t u (lets_in k m) s.threads other lets_all apart there in
              let let_in : are_compatible b m ≡ true =
              ap (λ o. lets o m) (sym (ap (λ z. held_mode z other.held) (sym (same_key j k is)) ∙ hb)) ∙ free in
              sharing_turned a b ∙ ap (are_compatible b) (sym (some_injective m a e)) ∙ let_in
          by false is e = absurd (none_or_some a e)

  begin_kept : (s : StoreView) (t i : ℕ) (body rest : TextView) (th : ThreadState) → IsThreadKept c s t th
      → IsReady th i body rest → IsThreadKept c s t (beginning i body rest th)
  begin_kept s t i body rest th k ready =
      let text = subst (IsTextOf (program_of c) t false) ready.text k.text in
      record {
        asks = ((placed_at th Entered ready.entered k.asks).0, ready.wanted);
        at = record { sound = text.sound.1; listed = text.listed.1 };
        work = k.work;
        text = record { sound = text.sound.2; listed = text.listed.2 };
        held = k.held;
        apart = k.apart;
        wanted = k.wanted;
      }

  again_kept : (s : StoreView) (t i : ℕ) (body rest : TextView) (th : ThreadState) → IsThreadKept c s t th
      → IsReady th i body rest → IsThreadKept c s t (giving_back th)
  again_kept s t i body rest th k ready = record {
    asks = (refl, ready.wanted);
    at = (
      (stands_at s t th Entered ready.entered k.at).0,
      λ e. subst (λ x. x ≢ Stop) (sym ready.text) (not_stop (Section i body rest) tt),
    );
    work = k.work;
    text = k.text;
    held = no_grips s;
    apart = tt;
    wanted = k.wanted;
  }

  -- the keys that a step adds
  fresh_kept : (s : StoreView) (t n : ℕ) (guard : Option ℕ) → IsObject s (Made t n)
      → AreGripsKept s (fresh_grip guard t n)
  fresh_kept s t n (Some g) there o m e = absurd (none_or_some m e)
  fresh_kept s t n None there o m e = by (is_same_key (key_of o) (key.Made t n)) refl e where
    by : (b : Bool) → is_same_key (key_of o) (key.Made t n) ≡ b → (if b then Some Exclusive else None) ≡ Some m
        → IsObject s o × (is_reading_object m ≡ true)
    by true is e' = (
      subst (IsObject s) (sym (key_of-injective o (Made t n) (same_key (key_of o) (key.Made t n) is)))
          there,
      ap is_reading_object (sym (some_injective Exclusive m e')),
    )
    by false is e' = absurd (none_or_some m e')

  grips_kept : (s : StoreView) (t n : ℕ) (ch : Change) → n ≡ count s t → t < length s.made
      → AreGripsKept (after_change t s ch) (grips_of c t n ch)
  grips_kept s t n Unchanged e lt = no_grips s
  grips_kept s t n (Written o f d) e lt = no_grips (after_change t s (Written o f d))
  grips_kept s t n (Added x) e lt =
      fresh_kept (after_change t s (Added x)) t n (guard_at c x.site)
      (x, ap (λ k. object_at (after_change t s (Added x)) (Made t k)) e ∙ added_there s t x lt)

  fresh_apart : (s : StoreView) (t n : ℕ) (guard : Option ℕ) (held : List Grip) → n ≡ count s t → AreGripsKept s held
      → AreApart held → AreApart (held ++ fresh_grip guard t n)
  fresh_apart s t n (Some g) held e k a = subst AreApart (sym (append-nil held)) a
  fresh_apart s t n None held e k a =
      apart_more held (grip (key.Made t n) Exclusive) a
      (no_mode (key.Made t n) held (λ m h. let x = (k (Made t n) m h).0 in
      fresh_name s t x.0 (ap (λ j. object_at s (Made t j)) (sym e) ∙ x.1)))

  grips_apart : (s : StoreView) (t n : ℕ) (ch : Change) (held : List Grip) → n ≡ count s t → AreGripsKept s held
      → AreApart held → AreApart (held ++ grips_of c t n ch)
  grips_apart s t n Unchanged held e k a = subst AreApart (sym (append-nil held)) a
  grips_apart s t n (Written o f d) held e k a = subst AreApart (sym (append-nil held)) a
  grips_apart s t n (Added x) held e k a = fresh_apart s t n (guard_at c x.site) held e k a

  act_kept : (s : StoreView) (t i : ℕ) (k : TextView) (th : ThreadState) (n : Next) → t < length s.made
      → IsThreadKept c s t th → th.position ≡ Running i k → IsStoreKept c s → IsNextKept c is s t true n
      → IsThreadKept c (changed_by t n s) t (acting c t i n th) × IsStoreKept c (changed_by t n s)
      × Grows t s (changed_by t n s)
  act_kept s t i k th (On rest w ch) lt kt at ks kn = (
    record {
      asks = placed_at th (Running i k) at kt.asks;
      at = kn.0;
      work = kn.1;
      text = kt.text;
      held = grips_append (after_change t s ch) th.held (grips_of c t th.frame.work.made ch)
          (grips_on t s (after_change t s ch) kn.3 th.held kt.held)
          (grips_kept s t th.frame.work.made ch kt.work.made lt);
      apart = grips_apart s t th.frame.work.made ch th.held kt.work.made kt.held kt.apart;
      wanted = grips_on t s (after_change t s ch) kn.3 th.wanted kt.wanted;
    },
    kn.2,
    kn.3,
  )
  act_kept s t i k th (Off why w) lt kt at ks kn = (
    record {
      asks = placed_at th (Running i k) at kt.asks;
      at = tt;
      work = kn;
      text = kt.text;
      held =
          kt.held;
      apart = kt.apart;
      wanted = kt.wanted;
    },
    ks,
    grows_same t s,
  )

  -- nobody else holds the key of an object that isn't there yet
  fresh_compatible : (s : State) (t : ℕ) (n : ℕ) (guard : Option ℕ) (u : ℕ) (other : ThreadState) (j : Key) (a b : Mode)
      → IsWellKept c s → n ≡ count s.store t → IsThread s u other
      → held_mode j (fresh_grip guard t n) ≡ Some a → held_mode j other.held ≡ Some b → are_compatible a b ≡ true
  fresh_compatible s t n (Some g) u other j a b k e there hj hb = absurd (none_or_some a hj)
  fresh_compatible s t n None u other j a b k e there hj hb = by (is_same_key j (key.Made t n)) refl hj where
    by : (x : Bool) → is_same_key j (key.Made t n) ≡ x → (if x then Some Exclusive else None) ≡ Some a
        → are_compatible a b ≡ true
    by true same e' =
        let x = ((k.threads u other there).held (Made t n) b
        (ap (λ z. held_mode z other.held) (sym (same_key j (key.Made t n) same)) ∙ hb)).0 in
        absurd (fresh_name s.store t x.0 (ap (λ m. object_at s.store (Made t m)) (sym e) ∙ x.1))
    by false same e' = absurd (none_or_some a e')

  grips_compatible : (s : State) (t : ℕ) (n : ℕ) (ch : Change) (u : ℕ) (other : ThreadState) (j : Key) (a b : Mode)
      → IsWellKept c s → n ≡ count s.store t → IsThread s u other
      → held_mode j (grips_of c t n ch) ≡ Some a → held_mode j other.held ≡ Some b → are_compatible a b ≡ true
  grips_compatible s t n Unchanged u other j a b k e there hj hb = absurd (none_or_some a hj)
  grips_compatible s t n (Written o f d) u other j a b k e there hj hb = absurd (none_or_some a hj)
  grips_compatible s t n (Added x) u other j a b k e there hj hb =
      fresh_compatible s t n (guard_at c x.site) u other j a b k e there hj hb

  act_compatible : (s : State) (t i : ℕ) (th : ThreadState) (n : Next) → IsWellKept c s → IsThread s t th
      → IsCompatibleWith s t (acting c t i n th)
  act_compatible s t i th (On rest w ch) k at u other j a b apart there hj hb =
      ⊎_elim (λ h. k.compatible t u th other j a b apart at there h hb)
      (λ h. grips_compatible s t th.frame.work.made ch u other j a b k (k.threads t th at).work.made there h hb)
      (held_split j th.held (grips_of c t th.frame.work.made ch) a hj)
  act_compatible s t i th (Off why w) k at u other j a b apart there hj hb =
      k.compatible t u th other j a b apart at there hj hb

  leave_kept : (s : StoreView) (t : ℕ) (how : Option Fault) (th : ThreadState) → IsThreadKept c s t th → th.wanted ≡ []
      → IsThreadKept c s t (with_frame (frame_out how th.frame) (giving_back th))
  leave_kept s t None th k wants = record {
    asks = (refl, wants);
    at = (
      ap (λ (z : WorkView). z.printed) (settled_work th.frame.text (emptied th.frame.work)),
      settled_stands th.frame.text (emptied th.frame.work),
    );
    work = subst (IsWorkKept c s t) (sym (settled_work th.frame.text (emptied th.frame.work)))
        (record { made = k.work.made; locals = k.work.locals });
    text = subst (IsTextOf (program_of c) t false) (sym (settled_text th.frame.text (emptied th.frame.work))) k.text;
    held = no_grips s;
    apart = tt;
    wanted = k.wanted;
  }
  leave_kept s t (Some why) th k wants = record {
    asks = (refl, wants);
    at = (refl, failed_stands why th.frame.text (emptied th.frame.work));
    work = record { made = k.work.made; locals = k.work.locals };
    text = k.text;
    held = no_grips s;
    apart = tt;
    wanted = k.wanted;
  }

  over_wants : (th : ThreadState) (how : Option Fault) → AsksInOrder th → IsOver th.position how → th.wanted ≡ []
  over_wants th None a over = (placed_at th (Running over.0 Stop) over.1 a).1
  over_wants th (Some why) a over = (placed_at th (Faulted over.0 why) over.1 a).1

  in_rows : (s : State) (t : ℕ) (th : ThreadState) → IsWellKept c s → IsThread s t th → t < length s.store.made
  in_rows s t th k at =
      let lt = slice_get_within s.threads t th at in
      let as_many = k.as_many in
      let rows = k.store.rows in
      omega (arith, lt, as_many, rows)

  -- what a thread does keeps a state
  does_kept : (s after : State) (t : ℕ) (th : ThreadState) (d : Deed) → IsWellKept c s → IsThread s t th
      → MayDo c s t th d after → IsWellKept c after
  does_kept s after t th Local k at d =
      subst (IsWellKept c) (sym d.2)
      (replaced_kept c s t (with_frame (local_step (program_of c) t th.frame) th) s.store s.output k
      (grows_same t s.store) k.store
      (local_kept s.store t th (in_rows s t th k at) k.store (k.threads t th at) d.0.0)
      (held_compatible c s t th (with_frame (local_step (program_of c) t th.frame) th) k at refl))
  does_kept s after t th Enter k at d =
      let new = entering (plan_at c d.0 s.store th.frame.work.locals) th in
      subst (IsWellKept c) (sym d.5) (replaced_kept c s t new s.store s.output k (grows_same t s.store) k.store
      (enter_kept s.store t d.0 d.1 d.2 th k.store (k.threads t th at) d.3.0 d.3.1 d.4)
      (held_compatible c s t th new k at refl))
  does_kept s after t th (Take j m) k at d =
      subst (IsWellKept c) (sym d.4)
      (replaced_kept c s t (taking j m d.0 th) s.store s.output k (grows_same t s.store) k.store
      (take_kept s.store t j m d.0 th (k.threads t th at) d.1 d.2) (take_compatible s t j m d.0 th k at d.3))
  does_kept s after t th Begin k at d =
      subst (IsWellKept c) (sym d.5)
      (replaced_kept c s t (beginning d.0 d.1 d.2 th) s.store s.output k (grows_same t s.store) k.store
      (begin_kept s.store t d.0 d.1 d.2 th (k.threads t th at) d.3)
      (held_compatible c s t th (beginning d.0 d.1 d.2 th) k at refl))
  does_kept s after t th Again k at d =
      subst (IsWellKept c) (sym d.5)
      (replaced_kept c s t (giving_back th) s.store s.output k (grows_same t s.store) k.store
      (again_kept s.store t d.0 d.1 d.2 th (k.threads t th at) d.3) (nothing_compatible s t (giving_back th) refl))
  does_kept s after t th Act k at d =
      let kt = k.threads t th at in
      let n = step_in c t d.1 th.frame.work s.store in
      let text = stands_at s.store t th (Running d.0 d.1) d.2 kt.at in
      let r = act_kept s.store t d.0 d.1 th n (in_rows s t th k at) kt d.2 k.store
      (next_kept c is s.store t true d.1 th.frame.work (in_rows s t th k at) k.store kt.work text) in
      subst (IsWellKept c) (sym d.4)
      (replaced_kept c s t (acting c t d.0 n th) (changed_by t n s.store) s.output k r.2 r.1 r.0
      (act_compatible s t d.0 th n k at))
  does_kept s after t th Leave k at d =
      let new = with_frame (frame_out d.0 th.frame) (giving_back th) in
      subst (IsWellKept c) (sym d.2)
      (replaced_kept c s t new s.store (s.output ++ th.frame.work.printed) k (grows_same t s.store) k.store
      (leave_kept s.store t d.0 th (k.threads t th at) (over_wants th d.0 (k.threads t th at).asks d.1))
      (nothing_compatible s t new refl))

  start_kept : (fuel : ℕ) → IsWellKept c (start c fuel)
  start_kept fuel = record {
    as_many = length-map (first_frames fuel (program_of c).texts (program_of c).locals) outside
        ∙ first_frames-length fuel (program_of c).texts (program_of c).locals;
    store = first_store_kept c;
    threads = threads;
    compatible = compatible;
  } where
    threads : (t : ℕ) (th : ThreadState) → IsThread (start c fuel) t th
        → IsThreadKept c (first_store (program_of c)) t th
    threads t th at =
        let f = slice_get-map outside (first_frames fuel (program_of c).texts (program_of c).locals) t th at in
        let g = first_frame fuel (program_of c).texts (program_of c).locals t f.0 f.1 in
        let w = first_work fuel g.1 in
        subst (IsThreadKept c (first_store (program_of c)) t) f.2
        (subst (λ x. IsThreadKept c (first_store (program_of c)) t (outside x)) (sym g.3)
        (record {
          asks = (refl, refl);
          at = (ap (λ (z : WorkView). z.printed) (settled_work g.0 w), settled_stands g.0 w);
          work = subst (IsWorkKept c (first_store (program_of c)) t) (sym (settled_work g.0 w))
              (first_work_kept c fuel t g.1);
          text = subst (IsTextOf (program_of c) t false) (sym (settled_text g.0 w))
              (text_of (program_of c) is.typed.sound is.numbered t g.0 g.2);
          held = no_grips (first_store (program_of c));
          apart = tt;
          wanted = no_grips (first_store (program_of c));
        }))

    compatible : AreCompatible (start c fuel)
    compatible t u th other k m n apart at there hx hy =
        let f = slice_get-map outside (first_frames fuel (program_of c).texts (program_of c).locals) t th at in
        absurd (none_or_some m (subst (λ (z : ThreadState). held_mode k z.held ≡ Some m) (sym f.2) hx))

  leads_kept : (trace : List Event) (s after : State) → IsWellKept c s → RunsTo c s trace after → IsWellKept c after
  leads_kept [] s after k l = subst (IsWellKept c) l k
  leads_kept (e ∷ es) s after k l = let h = l.1 in
      leads_kept es l.0 after (does_kept s l.0 e.thread h.0 e.deed k h.1 h.2) l.2

  -- each state of a run is well kept
  pub runs_are_well_kept : (fuel : ℕ) (trace : List Event) (s : State) → IsRun c fuel trace s → IsWellKept c s
  runs_are_well_kept fuel trace s r = leads_kept trace (start c fuel) s (start_kept fuel) r

-- A step keeps references within the points-to sets, and what a path denotes lies in its set.
use Rattle.std.proofs.Common.{true≢false, ◌≡◌, ◌⊎◌, ℕ, zero, suc, ◌+◌, ◌<◌, List, [], ◌∷◌, ◌++◌, length, get_or, Option}
use Rattle.std.proofs.Common.{Some, None, Bool, true, false, refl, sym, ap, ◌∙◌, subst, inl, inr, arith, length-append}
use Rattle.std.proofs.lemmas.Option.{slice_get_within, slice_get-get_or, same_Some}
use Rattle.std.specs.Prelude.{slice_get, slice_index_or, ℤ, pos, if◌then◌else◌}
use Rattle.sect_types.specs.Programs.{ProgramView, all_made, environment_at}
use Rattle.sect_types.specs.Sound.{reference_to, type_at, HasType, IsSoundAction}
use Rattle.sect_types.specs.{declared.declarations.types.ValueType.{ValueType}, declared.expansion.action.Base.{Base}}
use Rattle.sect_types.specs.{declared.expansion.action.Value.{Value}, declared.expansion.action.Action.{Action}}
use Rattle.sect_types.specs.{declared.expansion.action.Label.{Label}, declared.meaning.store.ObjectName.{ObjectName}}
use Rattle.sect_types.specs.declared.meaning.store.Datum.{Datum}
use Rattle.sect_types.specs.declared.meaning.store.Datum.TheVariants.{Number, Null, Refers}
use Rattle.sect_types.specs.Store.{ObjectView, StoreView, object_at, row, count, with_field, write, add, same_name}
use Rattle.sect_types.specs.Meaning.{WorkView, local_datum, datum_or_null, base_datum, value_datum, integer_of}
use Rattle.sect_types.specs.Meaning.{result_of, fits, name_in, fresh, Change, Unchanged, Written, after_change, Came}
use Rattle.sect_types.specs.Meaning.{Went, Fell, assigned, loaded, stored, done, paid, looked, found_at}
use Rattle.sect_points.specs.declared.holders.Holder.TheVariants.{Local, Slot}
use Rattle.sect_points.specs.{Flow.{Family, ValueHas, BaseHas, Moved, Within}, Paths.{PathView, var, dot, PathHas}}
use Rattle.sect_points.specs.{Sets.{InSets}, Statements.{thread_action}}
use Rattle.sect_names.specs.{Schemes.{SchemeView, IsScheme}, Laws.{IsProgramStep}, Locks.{PathTo, IsOwn}}
use Rattle.sect_names.specs.Records.{IsTypedProgram}
use Rattle.sect_lemmas.specs.{Lists.{put_at}, Numbers.{same_number}}
use Rattle.sect_emit.specs.Plan.{field_datum, field_of, path_datum}
use Rattle.sect_emit.specs.Pointed.{ExistsAt, RefersTo, IsPointedStore, ArePointed, IsPointed, ObjectsStay, StepsTo}
use Rattle.sect_emit.specs.Pointed.{IsDenoted}
use Rattle.sect_names.proofs.shared.{Placing.{statement_sound}, Recording.{paths_fit}, Typing.{reference_of}}
use Rattle.sect_lemmas.proofs.Options.{mapped}
use Rattle.sect_lemmas.proofs.Replaced.{get-changed_at, same_number-true, same_number-refl, length-changed_at}
use Rattle.sect_lemmas.proofs.Elements.{is_past}
use Rattle.sect_types.proofs.shared.Stores.{object_at-write, same_name-true, same_name-eq, object_at-add, count-add_own}
use Rattle.sect_types.proofs.shared.{Stores.{count-write, rows-write}, Data.{fresh_refers, refers_injective}}
use Rattle.sect_types.specs.declared.declarations.types.ValueType.TheVariants as type
use Rattle.sect_types.specs.declared.expansion.action.Base.TheVariants as base
use Rattle.sect_types.specs.declared.expansion.action.Value.TheVariants as value
use Rattle.sect_types.specs.declared.expansion.action.Action.TheVariants as action
use Rattle.sect_types.specs.declared.expansion.action.Label.TheVariants as label
use Rattle.sect_points.specs.declared.holders.Variable.TheVariants as variable
use Rattle.sect_types.specs.declared.meaning.store.ObjectName.TheVariants as object
use Rattle.sect_types.specs.declared.meaning.store.Fault.TheVariants as fault

-- the datum is a reference
abbrev pub IsReference : Datum → Type 0
IsReference (Number n) = ⊥
IsReference Null = ⊥
IsReference (Refers o) = Unit {0}

-- a reference is one
pub is_reference : (d : Datum) (o : ObjectName) → d ≡ Refers o → IsReference d
is_reference d o e = subst IsReference (sym e) tt

-- a datum that names an object refers to it
pub name_refers : (d : Datum) (o : ObjectName) → name_in d ≡ Some o → d ≡ Refers o
name_refers (Number n) o e = absurd cc
name_refers Null o e = absurd cc
name_refers (Refers q) o e = let is : q ≡ o = cc in ap Refers is

-- what a statement that goes on has done
abbrev pub HasDone : ProgramView → ℕ → Action → StoreView → WorkView → StoreView → WorkView → Type 0
HasDone p t (action.Assign x v) store w after z =
    (after ≡ store) × (z.locals ≡ put_at x (value_datum w.locals v) w.locals) × (z.made ≡ w.made)
HasDone p t (action.Compute x v o u) store w after z =
    (after ≡ store) × ((n : ℤ) × (z.locals ≡ put_at x (Number n) w.locals)) × (z.made ≡ w.made)
HasDone p t (action.New x r i) store w after z =
    (after ≡ add store t (fresh i (slice_index_or p.records r [])))
    × (z.locals ≡ put_at x (Refers (object.Made t w.made)) w.locals) × (z.made ≡ w.made + 1)
HasDone p t (action.Load x b f) store w after z =
    (after ≡ store) × ((o : ObjectName) × (y : ObjectView) × (base_datum w.locals b ≡ Refers o)
    × (object_at store o ≡ Some y)
    × (z.locals ≡ put_at x (datum_or_null (slice_get y.fields f.number)) w.locals)) × (z.made ≡ w.made)
HasDone p t (action.Store b f v) store w after z =
    ((o : ObjectName) × (base_datum w.locals b ≡ Refers o) × (after ≡ write store o f.number (value_datum w.locals v)))
    × (z.locals ≡ w.locals) × (z.made ≡ w.made)
HasDone p t (action.Print v) store w after z = (after ≡ store) × (z.locals ≡ w.locals) × (z.made ≡ w.made)

abbrev work_in : WorkView → Came → WorkView
work_in d (Went w c) = w
work_in d (Fell why w) = d

abbrev change_in : Came → Change
change_in (Went w c) = c
change_in (Fell why w) = Unchanged

abbrev IsGone : Came → Type 0
IsGone (Went w c) = Unit {0}
IsGone (Fell why w) = ⊥

module _ (p : ProgramView) (t : ℕ) (store : StoreView) where
  -- what holds of the work and the change that it came to holds of those it went on with
  went : (P : WorkView → Change → Type 0) (v w : WorkView) (c d : Change) → Went v c ≡ Went w d → P v c → P w d
  went P v w c d e h =
      let works : v ≡ w = ap (work_in v) e in
      let changes : c ≡ d = ap change_in e in
      subst (P w) changes (subst (λ x. P x c) works h)

  abbrev After : Action → WorkView → WorkView → Change → Type 0
  After a w z c = HasDone p t a store w (after_change t store c) z

  done_has : (a : Action) (w z : WorkView) (c : Change) → done p t a (found_at store (looked a w.locals)) w ≡ Went z c
      → After a w z c
  done_has (action.Assign x v) w z c e = went (After (action.Assign x v) w) _ z Unchanged c e (refl, refl, refl)
  done_has (action.Compute x v o u) w z c e = by (fits n) refl e
    where
      n : ℤ
      n = result_of o (integer_of (value_datum w.locals v)) (integer_of (value_datum w.locals u))

      by : (b : Bool) → fits n ≡ b → (if b then Went (assigned x (Number n) w) Unchanged else Fell fault.Overflow w)
          ≡ Went z c → After (action.Compute x v o u) w z c
      by true is e = went (After (action.Compute x v o u) w) _ z Unchanged c e (refl, (n, refl), refl)
      by false is e = absurd (subst IsGone (sym e) tt)
  done_has (action.New x r i) w z c e = went (After (action.New x r i) w) _ z _ c e (refl, refl, refl)
  done_has (action.Load x b f) w z c e = by (name_in (base_datum w.locals b)) refl e
    where
      at : (o : ObjectName) → base_datum w.locals b ≡ Refers o → (y : Option ObjectView) → object_at store o ≡ y
          → loaded x f.number y w ≡ Went z c → After (action.Load x b f) w z c
      at o is None none e = absurd (subst IsGone (sym e) tt)
      at o is (Some y) there e = went (After (action.Load x b f) w) _ z Unchanged c e
          (refl, (o, y, is, there, refl), refl)

      by : (name : Option ObjectName) → name_in (base_datum w.locals b) ≡ name
          → loaded x f.number (found_at store name) w ≡ Went z c → After (action.Load x b f) w z c
      by None is e = absurd (subst IsGone (sym e) tt)
      by (Some o) is e = at o (name_refers (base_datum w.locals b) o is) (object_at store o) refl e
  done_has (action.Store b f v) w z c e = by (name_in (base_datum w.locals b)) refl e
    where
      by : (name : Option ObjectName) → name_in (base_datum w.locals b) ≡ name
          → stored f.number (value_datum w.locals v) name w ≡ Went z c → After (action.Store b f v) w z c
      by None is e = absurd (subst IsGone (sym e) tt)
      by (Some o) is e = went (After (action.Store b f v) w) w z (Written o f.number (value_datum w.locals v)) c e
          ((o, name_refers (base_datum w.locals b) o is, refl), refl, refl)
  done_has (action.Print v) w z c e = went (After (action.Print v) w) _ z Unchanged c e (refl, refl, refl)

  unfueled : (n : ℕ) (a : Action) (w z : WorkView) (c : Change) → After a (record w { fuel = n }) z c → After a w z c
  unfueled n (action.Assign x v) w z c h = h
  unfueled n (action.Compute x v o u) w z c h = h
  unfueled n (action.New x r i) w z c h = h
  unfueled n (action.Load x b f) w z c h = h
  unfueled n (action.Store b f v) w z c h = h
  unfueled n (action.Print v) w z c h = h

  -- a statement without fault does what it says
  pub action_done : (a : Action) (w : WorkView) (after : StoreView) (z : WorkView)
      → StepsTo p t (label.Act a) store w after z → HasDone p t a store w after z
  action_done a w after z (c, e, is) = subst (λ y. HasDone p t a store w y z) (sym is) (by w.fuel refl e)
    where
      by : (n : ℕ) → w.fuel ≡ n → paid n w (done p t a (found_at store (looked a w.locals))) ≡ Went z c → After a w z c
      by zero is e = absurd (subst IsGone (sym e) tt)
      by (suc n) is e = unfueled n a w z c (done_has a (record w { fuel = n }) z c e)

-- what is put into a list is there, and the rest is as it was
abbrev pub PutOrKept : ℕ → Datum → List Datum → ℕ → ObjectName → Type 0
PutOrKept x d ls y o = ((x ≡ y) × (d ≡ Refers o)) ⊎ ((x ≡ y → ⊥) × (local_datum ls y ≡ Refers o))

-- after one local is replaced each is the new one or was there
pub put_or_kept : (x : ℕ) (d : Datum) (ls : List Datum) (y : ℕ) (o : ObjectName)
    → local_datum (put_at x d ls) y ≡ Refers o → PutOrKept x d ls y o
put_or_kept x d ls y o e = by (same_number x y) refl (ap datum_or_null (sym (get-changed_at x y (λ old. d) ls)) ∙ e)
  where
    old : x ≡ y → (v : Option Datum) → datum_or_null (mapped (λ old. d) v) ≡ Refers o → PutOrKept x d ls y o
    old is None e = absurd (is_reference Null o e)
    old is (Some v) e = inl (is, e)

    by : (b : Bool) → same_number x y ≡ b
        → datum_or_null (if b then mapped (λ old. d) (slice_get ls y) else slice_get ls y) ≡ Refers o
        → PutOrKept x d ls y o
    by true is e = old (same_number-true x y is) (slice_get ls y) e
    by false is e = inr (λ s. true≢false (sym (subst (λ k. same_number x k ≡ true) s (same_number-refl x)) ∙ is), e)

-- what exists stays
pub exists_stays : (P : ℕ → Type 0) (store after : StoreView) → ObjectsStay store after → (o : ObjectName)
    → ExistsAt P store o → ExistsAt P after o
exists_stays P store after stay o (x, at, h) = let y = stay o x at in (y.0, y.1, subst P (sym y.2) h)

-- objects stay
pub write_stays : (store : StoreView) (q : ObjectName) (f : ℕ) (d : Datum) → ObjectsStay store (write store q f d)
write_stays store q f d o x at = by (same_name q o) (object_at-write store q o f d)
  where
    by : (b : Bool) → object_at (write store q f d) o ≡ if b then mapped (with_field f d) (object_at store o) else
        object_at store o → ExistsAt (λ site. site ≡ x.site) (write store q f d) o
    by true e = (with_field f d x, e ∙ ap (mapped (with_field f d)) at, refl)
    by false e = (x, e ∙ at, refl)

-- the name of the next object is that of none
pub none_made : (store : StoreView) (t : ℕ) (x : ObjectView) → object_at store (object.Made t (count store t)) ≡ Some x
    → ⊥
none_made store t x at = let none : None ≡ Some x = sym (is_past (row store t)) ∙ at in absurd cc

-- one object more keeps the objects
pub add_stays : (store : StoreView) (t : ℕ) (new : ObjectView) → t < length store.made
    → ObjectsStay store (add store t new)
add_stays store t new le o x at = by (same_name (object.Made t (count store t)) o) refl (object_at-add store t new o le)
  where
    by : (b : Bool) → same_name (object.Made t (count store t)) o ≡ b
        → object_at (add store t new) o ≡ if b then Some new else object_at store o
        → ExistsAt (λ site. site ≡ x.site) (add store t new) o
    by true is e = absurd (none_made store t x
        (ap (object_at store) (same_name-true (object.Made t (count store t)) o is) ∙ at))
    by false is e = (x, e ∙ at, refl)

-- so does no change
pub stays_itself : (store after : StoreView) → after ≡ store → ObjectsStay store after
stays_itself store after is = subst (ObjectsStay store) (sym is) (λ o x at. (x, at, refl))

-- so does each statement
pub done_stays : (p : ProgramView) (t : ℕ) (a : Action) (store : StoreView) (w : WorkView) (after : StoreView)
    (z : WorkView) → t < length store.made → HasDone p t a store w after z → ObjectsStay store after
done_stays p t (action.Assign x v) store w after z le h = stays_itself store after h.0
done_stays p t (action.Compute x v o u) store w after z le h = stays_itself store after h.0
done_stays p t (action.New x r i) store w after z le h =
    subst (ObjectsStay store) (sym h.0) (add_stays store t (fresh i (slice_index_or p.records r [])) le)
done_stays p t (action.Load x b f) store w after z le h = stays_itself store after h.0
done_stays p t (action.Store b f v) store w after z le ((o, at, is), locals, made) =
    subst (ObjectsStay store) (sym is) (write_stays store o f.number (value_datum w.locals v))
done_stays p t (action.Print v) store w after z le h = stays_itself store after h.0

-- other threads' locals stay in their sets where objects stay
pub others_pointed : (s : SchemeView) (store after : StoreView) → ObjectsStay store after
    → (u : ℕ) (locals : List Datum) → ArePointed s store u locals → ArePointed s after u locals
others_pointed s store after stay u locals are x o e =
    exists_stays (InSets s.classes.sets (Local u x)) store after stay o (are x o e)

module _ (s : SchemeView) (scheme : IsScheme s) (typed : IsTypedProgram s.program) where
  abbrev Into : Family
  Into = InSets s.classes.sets

  global_within : (g : ℕ) → g < length s.program.globals → g < s.classes.sets.sites
  global_within g there = omega (arith, there, scheme.sites, length-append s.program.globals (all_made s.program.texts))

  path_below : (q : PathView) (r site : ℕ) → PathTo s.program q r → PathHas Into q site → site < s.classes.sets.sites
  path_below (var (variable.Global g)) r site to is = let lt =
      global_within g (slice_get_within s.program.globals g r to) in omega (arith, lt, is)
  path_below (var (variable.Local u x)) r site to at = scheme.parted.below (Local u x) site at
  path_below (dot q f) r site to (o, has, at) = scheme.parted.below (Slot o f.number) site at

  module _ (t : ℕ) (store : StoreView) (w : WorkView) (pointed : IsPointed s t store w) where
    -- what a path denotes lies in its set
    pub placed_in : (q : PathView) (r : ℕ) (o : ObjectName) → PathTo s.program q r → IsOwn t q
        → path_datum store w.locals q ≡ Refers o → ExistsAt (PathHas Into q) store o
    placed_in (var (variable.Global g)) r o to own e =
        subst (ExistsAt (λ site. site ≡ g) store) (refers_injective (object.Global g) o e)
        (pointed.objects.globals g (slice_get_within s.program.globals g r to))
    placed_in (var (variable.Local u x)) r o to own e =
        subst (λ k. ExistsAt (Into (Local k x)) store o) (sym own) (pointed.locals x o e)
    placed_in (dot q f) r o to own e = by (path_datum store w.locals q) refl e (λ b k. placed_in q f.of b to.0 own k)
      where
        inside : (b : ObjectName) → ExistsAt (PathHas Into q) store b
            → field_datum (object_at store b) f.number ≡ Refers o → ExistsAt (PathHas Into (dot q f)) store o
        inside b (y, at, has) e =
            let k = pointed.objects.fields b y f.number at o (ap (λ v. field_datum v f.number) (sym at) ∙ e) in
            (k.0, k.1, (y.site, has, k.2))

        by : (d : Datum) → path_datum store w.locals q ≡ d → field_of store d f.number ≡ Refers o
            → ((b : ObjectName) → path_datum store w.locals q ≡ Refers b → ExistsAt (PathHas Into q) store b)
            → ExistsAt (PathHas Into (dot q f)) store o
        by (Number n) is e ih = absurd (is_reference Null o e)
        by Null is e ih = absurd (is_reference Null o e)
        by (Refers b) is e ih = inside b (ih b is) e

    -- what an own typed path denotes lies in its set, and is of its record and class
    pub denoted : (q : PathView) (r : ℕ) (o : ObjectName) → PathTo s.program q r → IsOwn t q
        → path_datum store w.locals q ≡ Refers o → IsDenoted s store q r o
    denoted q r o to own e =
        let k = placed_in q r o to own e in
        let below = path_below q r k.0.site to k.2 in
        let number = slice_get-get_or s.classes.numbers k.0.site 0 (omega (arith, below, scheme.parted.sites)) in (
          k.0,
          k.1,
          k.2,
          paths_fit s scheme typed q r k.0.site to k.2,
          (get_or s.classes.numbers k.0.site 0, (k.0.site, k.2, number), number),
        )

    base_in : (b : Base) (r : ℕ) (o : ObjectName) → type_at (environment_at s.program t) b ≡ Some (type.Refers r)
        → base_datum w.locals b ≡ Refers o → ExistsAt (BaseHas Into t b) store o
    base_in (base.Local x) r o ty e = pointed.locals x o e
    base_in (base.Global g) r o ty e =
        subst (ExistsAt (λ site. site ≡ g) store) (refers_injective (object.Global g) o e)
        (pointed.objects.globals g (slice_get_within s.program.globals g r
        (reference_of (slice_get s.program.globals g) r ty)))

    global_there : (g : ℕ) (ty : ValueType) → HasType (environment_at s.program t) (value.Global g) ty
        → g < length s.program.globals
    global_there g ty h = by (slice_get s.program.globals g) refl h
      where
        by : (v : Option ℕ) → slice_get s.program.globals g ≡ v → reference_to v ≡ Some ty
            → g < length s.program.globals
        by None is h = absurd cc
        by (Some r) is h = slice_get_within s.program.globals g r is

    value_in : (v : Value) (ty : ValueType) (o : ObjectName) → HasType (environment_at s.program t) v ty
        → value_datum w.locals v ≡ Refers o → ExistsAt (ValueHas Into t v) store o
    value_in (value.Number n) ty o h e = absurd (is_reference (Number (pos n)) o e)
    value_in value.Null ty o h e = absurd (is_reference Null o e)
    value_in (value.Local x) ty o h e = pointed.locals x o e
    value_in (value.Global g) ty o h e =
        subst (ExistsAt (λ site. site ≡ g) store) (refers_injective (object.Global g) o e)
        (pointed.objects.globals g (global_there g ty h))

    -- locals after an assignment
    put_pointed : (x : ℕ) (d : Datum) → RefersTo (Into (Local t x)) store d → ArePointed s store t (put_at x d w.locals)
    put_pointed x d new y o e = elim (put_or_kept x d w.locals y o e) [
      | inl (is, k) ↦ subst (λ n. ExistsAt (Into (Local t n)) store o) is (new o k)
      | inr (other, k) ↦ pointed.locals y o k
    ]

    -- fields after a write
    write_pointed : (q : ObjectName) (f : ℕ) (d : Datum)
        → ((x : ObjectView) → object_at store q ≡ Some x → RefersTo (Into (Slot x.site f)) store d)
        → IsPointedStore s (write store q f d)
    write_pointed q f d new = record {
      globals = λ g there. exists_stays (λ site. site ≡ g) store (write store q f d) stay (object.Global g)
          (pointed.objects.globals g there);
      fields = fields;
    }
      where
        stay : ObjectsStay store (write store q f d)
        stay = write_stays store q f d

        written : (o : ObjectName) (k : ℕ) (b : ObjectName) (y x : ObjectView) → q ≡ o → object_at store o ≡ Some y
            → with_field f d y ≡ x → datum_or_null (slice_get x.fields k) ≡ Refers b
            → ExistsAt (Into (Slot x.site k)) (write store q f d) b
        written o k b y x same at is e =
            subst (λ (z : ObjectView). ExistsAt (Into (Slot z.site k)) (write store q f d) b) is
            (exists_stays (Into (Slot y.site k)) store (write store q f d) stay b
            (elim (put_or_kept f d y.fields k b
            (ap (λ (z : ObjectView). datum_or_null (slice_get z.fields k)) is ∙ e)) [
              | inl (fk, dk) ↦ subst (λ n. ExistsAt (Into (Slot y.site n)) store b) fk
                  (new y (ap (object_at store) same ∙ at) b dk)
              | inr (other, kept) ↦ pointed.objects.fields o y k at b kept
            ]))

        fields : (o : ObjectName) (x : ObjectView) (k : ℕ) → object_at (write store q f d) o ≡ Some x
            → RefersTo (Into (Slot x.site k)) (write store q f d) (datum_or_null (slice_get x.fields k))
        fields o x k at b e = by (same_name q o) refl (sym (object_at-write store q o f d) ∙ at)
          where
            there : q ≡ o → (v : Option ObjectView) → object_at store o ≡ v → mapped (with_field f d) v ≡ Some x
                → ExistsAt (Into (Slot x.site k)) (write store q f d) b
            there same None is h = absurd cc
            there same (Some y) is h = written o k b y x same is (same_Some (with_field f d y) x h) e

            by : (c : Bool) → same_name q o ≡ c
                → (if c then mapped (with_field f d) (object_at store o) else object_at store o) ≡ Some x
                → ExistsAt (Into (Slot x.site k)) (write store q f d) b
            by true is h = there (same_name-true q o is) (object_at store o) refl h
            by false is h = exists_stays (Into (Slot x.site k)) store (write store q f d) stay b
                (pointed.objects.fields o x k h b e)

    module _ (i : ℕ) (types : List ValueType) where
      abbrev more : StoreView
      more = add store t (fresh i types)

      more_stays : ObjectsStay store more
      more_stays = add_stays store t (fresh i types) pointed.row

      add_fields : (o : ObjectName) (x : ObjectView) (k : ℕ) → object_at more o ≡ Some x
          → RefersTo (Into (Slot x.site k)) more (datum_or_null (slice_get x.fields k))
      add_fields o x k at b e = by (same_name (object.Made t (count store t)) o) refl
          (sym (object_at-add store t (fresh i types) o pointed.row) ∙ at)
        where
          by : (c : Bool) → same_name (object.Made t (count store t)) o ≡ c
              → (if c then Some (fresh i types) else object_at store o) ≡ Some x
              → ExistsAt (Into (Slot x.site k)) more b
          by true is h = absurd (fresh_refers types k b
              (ap (λ (z : ObjectView). datum_or_null (slice_get z.fields k)) (same_Some (fresh i types) x h) ∙ e))
          by false is h = exists_stays (Into (Slot x.site k)) store more more_stays b
              (pointed.objects.fields o x k h b e)

      add_pointed : IsPointedStore s more
      add_pointed = record {
        globals = λ g there. exists_stays (λ site. site ≡ g) store more more_stays (object.Global g)
            (pointed.objects.globals g there);
        fields = add_fields;
      }

      -- the new object itself
      made_exists : (x : ℕ) → Into (Local t x) i → RefersTo (Into (Local t x)) more (Refers (object.Made t w.made))
      made_exists x at o e = subst (ExistsAt (Into (Local t x)) more) (refers_injective (object.Made t w.made) o e)
          (subst (λ n. ExistsAt (Into (Local t x)) more (object.Made t n)) (sym pointed.made) (
            fresh i types,
            object_at-add store t (fresh i types) (object.Made t (count store t)) pointed.row
                ∙ ap (λ c. if c then Some (fresh i types) else object_at store (object.Made t (count store t)))
                (same_name-eq (object.Made t (count store t)) (object.Made t (count store t)) refl),
            at,
          ))

    same_store : (z : WorkView) → ArePointed s store t z.locals → z.made ≡ w.made → (after : StoreView) → after ≡ store
        → IsPointed s t after z
    same_store z are made after is = subst (λ y. IsPointed s t y z) (sym is) (record {
      objects = pointed.objects;
      locals = are;
      row = pointed.row;
      made = made ∙ pointed.made;
    })

    abbrev Closed : Action → Type 0
    Closed a = Within (Moved Into t a) Into

    -- a statement keeps references in their sets
    pub done_pointed : (a : Action) → IsSoundAction (environment_at s.program t) a → Closed a
        → (after : StoreView) (z : WorkView) → HasDone s.program t a store w after z → IsPointed s t after z
    done_pointed (action.Assign x v) sound closed after z (is, locals, made) =
        same_store z (subst (ArePointed s store t) (sym locals)
        (put_pointed x (value_datum w.locals v)
        (λ o e. (let k = value_in v sound.0 o sound.2 e in (k.0, k.1, closed (Local t x) k.0.site (refl, k.2))))))
        made after is
    done_pointed (action.Compute x v o u) sound closed after z (is, (n, locals), made) =
        same_store z (subst (ArePointed s store t) (sym locals)
        (put_pointed x (Number n) (λ o e. absurd (is_reference (Number n) o e)))) made after is
    done_pointed (action.New x r i) sound closed after z (is, locals, made) =
        let types = slice_index_or s.program.records r [] in
        subst (λ y. IsPointed s t y z) (sym is) (record {
          objects = add_pointed i types;
          locals = λ y o e. elim (put_or_kept x (Refers (object.Made t w.made)) w.locals y o
              (ap (λ l. local_datum l y) (sym locals) ∙ e)) [
                | inl (same, k) ↦ subst (λ n. ExistsAt (Into (Local t n)) (more i types) o) same
                    (made_exists i types x (closed (Local t x) i (refl, refl)) o k)
                | inr (other, k) ↦ exists_stays (Into (Local t y)) store (more i types) (more_stays i types) o
                    (pointed.locals y o k)
              ];
          row = subst (λ n. t < n) (sym (length-changed_at t (λ objects. objects ++ fresh i types ∷ []) store.made))
              pointed.row;
          made = made ∙ (let c = count-add_own store t (fresh i types) pointed.row in omega (arith, c, pointed.made));
        })
    done_pointed (action.Load x b f) sound closed after z (is, (o, y, at_base, at, locals), made) =
        same_store z (subst (ArePointed s store t) (sym locals)
        (put_pointed x (datum_or_null (slice_get y.fields f.number)) (λ q e.
        (let base = base_in b f.of o sound.1 at_base in
        let same : base.0 ≡ y = same_Some base.0 y (sym base.1 ∙ at) in
        let k = pointed.objects.fields o y f.number at q e in (
          k.0,
          k.1,
          closed (Local t x) k.0.site
              (refl, (y.site, subst (λ (u : ObjectView). BaseHas Into t b u.site) same base.2, k.2)),
        ))))) made after is
    done_pointed (action.Store b f v) sound closed after z ((o, at_base, is), locals, made) =
        let base = base_in b f.of o sound.1 at_base in
        let d = value_datum w.locals v in
        subst (λ y. IsPointed s t y z) (sym is) (record {
          objects = write_pointed o f.number d (λ x at q e.
              (let k = value_in v sound.0 q sound.3 e in
              let same : base.0 ≡ x = same_Some base.0 x (sym base.1 ∙ at) in (
                k.0,
                k.1,
                closed (Slot x.site f.number) k.0.site
                    (x.site, subst (λ (u : ObjectView). BaseHas Into t b u.site) same base.2, refl, k.2),
              )));
          locals = subst (ArePointed s (write store o f.number d) t) (sym locals)
              (others_pointed s store (write store o f.number d) (write_stays store o f.number d) t w.locals
              pointed.locals);
          row = subst (λ n. t < n) (sym (rows-write store o f.number d)) pointed.row;
          made = made ∙ pointed.made ∙ sym (count-write store o f.number d t);
        })
    done_pointed (action.Print v) sound closed after z (is, locals, made) =
        same_store z (subst (ArePointed s store t) (sym locals) pointed.locals) made after is

    -- so does each step
    pub step_pointed : (step : Label) → IsProgramStep s t step → (after : StoreView) (z : WorkView)
        → StepsTo s.program t step store w after z → IsPointed s t after z × ObjectsStay store after
    step_pointed (label.Act a) there after z does =
        let h = action_done s.program t store a w after z does in (
          done_pointed a (statement_sound s.program typed (thread_action t a) there)
              (scheme.flow.closed (thread_action t a) there) after z h,
          done_stays s.program t a store w after z pointed.row h,
        )
    step_pointed (label.Test c) there after z (is, locals, made) = (
      same_store z (subst (ArePointed s store t) (sym locals) pointed.locals) made after is,
      stays_itself store after is,
    )
    step_pointed (label.Section i) there after z does = absurd does

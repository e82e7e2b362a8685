-- Who refers to an object that a thread has made, before and after a step.
use Rattle.std.proofs.Common.{◌≡◌, ◌≢◌, ◌⊎◌, inl, inr, ℕ, ℤ, zero, suc, ◌<◌, List, [], length, Option, Some, None, Bool}
use Rattle.std.proofs.Common.{true, false, refl, sym, ap, ◌∙◌, subst}
use Rattle.std.specs.Prelude.{slice_get, slice_index_or, pos, if◌then◌else◌}
use Rattle.sect_types.specs.{declared.expansion.action.Action.{Action}, declared.expansion.action.Condition.{Condition}}
use Rattle.sect_types.specs.declared.expansion.action.Value.{Value}
use Rattle.sect_types.specs.{Statements.{TextView, Stop, Do, Choose, Loop, Section, joined}, Programs.{ProgramView}}
use Rattle.sect_types.specs.declared.meaning.store.ObjectName.{ObjectName}
use Rattle.sect_types.specs.declared.meaning.store.ObjectName.TheVariants.{Global, Made}
use Rattle.sect_types.specs.declared.meaning.store.Datum.{Datum}
use Rattle.sect_types.specs.declared.meaning.store.Datum.TheVariants.{Number, Refers}
use Rattle.sect_types.specs.Store.{ObjectView, StoreView, same_name, object_at, count, with_field}
use Rattle.sect_types.specs.Meaning.{WorkView, local_datum, datum_or_null, base_datum, value_datum, integer_of, fits}
use Rattle.sect_types.specs.Meaning.{name_in, Change, Unchanged, Written, Added, after_change, Came, Went, Fell}
use Rattle.sect_types.specs.Meaning.{result_of, assigned, stored, done, looked, paid, one, Next, On, Off, going, taken}
use Rattle.sect_types.specs.{Meaning.{next, looks}, Whole.{frame_after}}
use Rattle.sect_lemmas.specs.Lists.{put_at}
use Rattle.sect_world.specs.{Accesses.{change_in}, Held.{Loading, load_of, access_of, if_paid, next_access}}
use Rattle.sect_lemmas.proofs.Options.{mapped, some_injective, none_or_some}
use Rattle.sect_types.proofs.shared.Data.{refers_injective, null_refers, number_refers, fresh_refers}
use Rattle.sect_types.proofs.shared.{Stores.{object_at-write, object_at-add}, Starts.{settled_work}}
use Rattle.sect_emit.proofs.shared.Pointing.{put_or_kept}
use Rattle.sect_world.proofs.StepChanges.{touches}
use Rattle.sect_types.specs.declared.expansion.action.Action.TheVariants as action
use Rattle.sect_types.specs.declared.expansion.action.Value.TheVariants as value
use Rattle.sect_types.specs.declared.meaning.store.Fault.TheVariants as fault

-- one of the locals refers to the object
abbrev pub HasReference : List Datum → ObjectName → Type 0
HasReference locals o = (x : ℕ) × (local_datum locals x ≡ Refers o)

-- a field of the first object refers to the second
abbrev pub FieldRefers : ObjectView → ObjectName → Type 0
FieldRefers x o = (f : ℕ) × (datum_or_null (slice_get x.fields f) ≡ Refers o)

-- what the change puts into fields refers to it
abbrev pub Writes : Change → ObjectName → Type 0
Writes Unchanged o = ⊥
Writes (Written z f d) o = d ≡ Refers o
Writes (Added x) o = FieldRefers x o

-- the next step finds it in a field of the object that it loads from
abbrev pub LoadsReference : TextView → WorkView → Option ObjectView → ObjectName → Type 0
LoadsReference k w found o =
    (y : ObjectView) × (found ≡ Some y) × FieldRefers y o
    × ((z : ObjectName) → looks k w ≡ Some z → next_access k w ≡ Some (Loading z))

-- what a thread works with after a step
abbrev pub work_after : Next → WorkView
work_after (On k w ch) = w
work_after (Off why w) = w

abbrev work_come : Came → WorkView
work_come (Went w ch) = w
work_come (Fell why w) = w

abbrev change_come : Came → Change
change_come (Went w ch) = ch
change_come (Fell why w) = Unchanged

going_work : (rest : TextView) (came : Came) → work_after (going rest came) ≡ work_come came
going_work rest (Went w ch) = refl
going_work rest (Fell why w) = refl

going_change : (rest : TextView) (came : Came) → change_in (going rest came) ≡ change_come came
going_change rest (Went w ch) = refl
going_change rest (Fell why w) = refl

pub frame_work : (text : TextView) (n : Next) → (frame_after text n).work ≡ work_after n
frame_work text (On rest w ch) = settled_work rest w
frame_work text (Off why w) = refl

-- a step of thread v, and an object that another thread t has made
module _ (p : ProgramView) (v t n : ℕ) (other : v ≢ t) where
  abbrev theirs : ObjectName
  theirs = Made t n

  value_refers : (locals : List Datum) (a : Value) → value_datum locals a ≡ Refers theirs → HasReference locals theirs
  value_refers locals (value.Number m) e = absurd (number_refers (pos m) theirs e)
  value_refers locals value.Null e = absurd (null_refers theirs e)
  value_refers locals (value.Local x) e = (x, e)
  value_refers locals (value.Global g) e =
      let same : Global g ≡ Made t n = refers_injective (Global g) theirs e in absurd cc

  put_refers : (x : ℕ) (d : Datum) (locals : List Datum) → HasReference (put_at x d locals) theirs
      → (d ≡ Refers theirs) ⊎ HasReference locals theirs
  put_refers x d locals (y, e) =
      elim (put_or_kept x d locals y theirs e) [ inl (here, new) ↦ inl new | inr (apart, kept) ↦ inr (y, kept) ]

  abbrev Loaded : Action → List Datum → Option ObjectView → Type 0
  Loaded a locals found =
      (y : ObjectView) × (found ≡ Some y) × FieldRefers y theirs
      × ((z : ObjectName) → looked a locals ≡ Some z → access_of a locals ≡ Some (Loading z))

  done_refers : (a : Action) (found : Option ObjectView) (w : WorkView)
      → HasReference (work_come (done p v a found w)).locals theirs
      → HasReference w.locals theirs ⊎ Loaded a w.locals found
  done_refers (action.Assign x b) found w h = elim (put_refers x (value_datum w.locals b) w.locals h)
      [ inl e ↦ inl (value_refers w.locals b e) | inr k ↦ inl k ]
  done_refers (action.Compute x b o u) found w h = inl (by (fits result) h)
    where
      result : ℤ
      result = result_of o (integer_of (value_datum w.locals b)) (integer_of (value_datum w.locals u))

      by : (fit : Bool)
          → HasReference (work_come (if fit then Went (assigned x (Number result) w) Unchanged else Fell fault.Overflow
          w)).locals theirs
          → HasReference w.locals theirs
      by true h = elim (put_refers x (Number result) w.locals h)
          [ inl e ↦ absurd (number_refers result theirs e) | inr k ↦ k ]
      by false h = h
  done_refers (action.New x r site) found w h = elim (put_refers x (Refers (Made v w.made)) w.locals h) [
    | inl e ↦ (let same : Made v w.made ≡ Made t n = refers_injective (Made v w.made) theirs e in
        let maker : v ≡ t = cc in absurd (other maker))
    | inr k ↦ inl k
  ]
  done_refers (action.Load x b f) None w h = inl h
  done_refers (action.Load x b f) (Some y) w h =
      elim (put_refers x (datum_or_null (slice_get y.fields f.number)) w.locals h)
      [ inl e ↦ inr (y, refl, (f.number, e), λ z is. ap load_of is) | inr k ↦ inl k ]
  done_refers (action.Store b f u) found w h = inl (by (name_in (base_datum w.locals b)) h)
    where
      by : (o : Option ObjectName)
          → HasReference (work_come (stored f.number (value_datum w.locals u) o w)).locals theirs
          → HasReference w.locals theirs
      by None h = h
      by (Some o) h = h
  done_refers (action.Print b) found w h = inl h

  done_writes : (a : Action) (found : Option ObjectView) (w : WorkView)
      → Writes (change_come (done p v a found w)) theirs
      → HasReference w.locals theirs
  done_writes (action.Assign x b) found w h = absurd h
  done_writes (action.Compute x b o u) found w h = by (fits result) h
    where
      result : ℤ
      result = result_of o (integer_of (value_datum w.locals b)) (integer_of (value_datum w.locals u))

      by : (fit : Bool)
          → Writes (change_come (if fit then Went (assigned x (Number result) w) Unchanged else Fell fault.Overflow w))
          theirs
          → HasReference w.locals theirs
      by true h = absurd h
      by false h = absurd h
  done_writes (action.New x r site) found w h = absurd (fresh_refers (slice_index_or p.records r []) h.0 theirs h.1)
  done_writes (action.Load x b f) None w h = absurd h
  done_writes (action.Load x b f) (Some y) w h = absurd h
  done_writes (action.Store b f u) found w h = by (name_in (base_datum w.locals b)) h
    where
      by : (o : Option ObjectName) → Writes (change_come (stored f.number (value_datum w.locals u) o w)) theirs
          → HasReference w.locals theirs
      by None h = absurd h
      by (Some o) h = value_refers w.locals u h
  done_writes (action.Print b) found w h = absurd h

  taken_refers : (m : ℕ) (d : Condition) (a b : TextView) (w : WorkView)
      → HasReference (work_after (taken m d a b w)).locals theirs → HasReference w.locals theirs
  taken_refers zero d a b w h = h
  taken_refers (suc m) d a b w h = h

  taken_writes : (m : ℕ) (d : Condition) (a b : TextView) (w : WorkView)
      → Writes (change_in (taken m d a b w)) theirs → HasReference w.locals theirs
  taken_writes zero d a b w h = absurd h
  taken_writes (suc m) d a b w h = absurd h

  -- a local that refers to it after the step did before, or the step loads it
  pub next_refers : (k : TextView) (found : Option ObjectView) (w : WorkView)
      → HasReference (work_after (next p v k found w)).locals theirs
      → HasReference w.locals theirs ⊎ LoadsReference k w found theirs
  next_refers Stop found w h = inl h
  next_refers (Do a rest) found w h =
      by w.fuel refl
      (subst (λ (x : WorkView). HasReference x.locals theirs) (going_work rest (one p v a found w)) h)
    where
      by : (m : ℕ) → w.fuel ≡ m → HasReference (work_come (paid m w (done p v a found))).locals theirs
          → HasReference w.locals theirs ⊎ LoadsReference (Do a rest) w found theirs
      by zero is h = inl h
      by (suc m) is h = elim (done_refers a found (record w { fuel = m }) h) [
        | inl k ↦ inl k
        | inr (y, found_is, field, loads) ↦
            inr (y, found_is, field, λ z at. ap (λ l. if_paid l (access_of a w.locals)) is ∙ loads z at)
      ]
  next_refers (Choose d a b rest) found w h = inl (taken_refers w.fuel d (joined a rest) (joined b rest) w h)
  next_refers (Loop d a rest) found w h = inl (taken_refers w.fuel d (joined a (Loop d a rest)) rest w h)
  next_refers (Section i a rest) found w h = inl h

  -- and what the step writes into a field refers to it only where a local did
  pub next_writes : (k : TextView) (found : Option ObjectView) (w : WorkView)
      → Writes (change_in (next p v k found w)) theirs → HasReference w.locals theirs
  next_writes Stop found w h = absurd h
  next_writes (Do a rest) found w h =
      by w.fuel (subst (λ ch. Writes ch theirs) (going_change rest (one p v a found w)) h)
    where
      by : (m : ℕ) → Writes (change_come (paid m w (done p v a found))) theirs → HasReference w.locals theirs
      by zero h = absurd h
      by (suc m) h = done_writes a found (record w { fuel = m }) h
  next_writes (Choose d a b rest) found w h = taken_writes w.fuel d (joined a rest) (joined b rest) w h
  next_writes (Loop d a rest) found w h = taken_writes w.fuel d (joined a (Loop d a rest)) rest w h
  next_writes (Section i a rest) found w h = absurd h

-- a field that refers to an object after a change did before, or the change has written it
pub field_after : (s : StoreView) (v : ℕ) (ch : Change) → v < length s.made → (z : ObjectName) (x : ObjectView)
    (o : ObjectName) → object_at (after_change v s ch) z ≡ Some x → FieldRefers x o
    → ((y : ObjectView) × (object_at s z ≡ Some y) × FieldRefers y o)
    ⊎ ((touches v (count s v) ch z ≡ true) × Writes ch o)
field_after s v Unchanged room z x o at h = inl (x, at, h)
field_after s v (Written q g d) room z x o at h =
    by (same_name q z) refl (object_at s z) refl (sym (object_at-write s q z g d) ∙ at)
  where
    by : (b : Bool) → same_name q z ≡ b → (r : Option ObjectView) → object_at s z ≡ r
        → (if b then mapped (with_field g d) r else r) ≡ Some x
        → ((y : ObjectView) × (object_at s z ≡ Some y) × FieldRefers y o)
        ⊎ ((same_name q z ≡ true) × (d ≡ Refers o))
    by false is r there e = inl (x, there ∙ e, h)
    by true is None there e = absurd (none_or_some x e)
    by true is (Some y) there e =
        let same : with_field g d y ≡ x = some_injective (with_field g d y) x e in
        elim (put_or_kept g d y.fields h.0 o
        (ap (λ (k : ObjectView). datum_or_null (slice_get k.fields h.0)) same ∙ h.1)) [
          | inl (here, new) ↦ inr (is, new)
          | inr (apart, kept) ↦ inl (y, there, (h.0, kept))
        ]
field_after s v (Added new) room z x o at h =
    by (same_name (Made v (count s v)) z) refl (sym (object_at-add s v new z room) ∙ at)
  where
    by : (b : Bool) → same_name (Made v (count s v)) z ≡ b → (if b then Some new else object_at s z) ≡ Some x
        → ((y : ObjectView) × (object_at s z ≡ Some y) × FieldRefers y o)
        ⊎ ((same_name (Made v (count s v)) z ≡ true) × FieldRefers new o)
    by true is e =
        inr (is, (h.0, ap (λ (k : ObjectView). datum_or_null (slice_get k.fields h.0)) (some_injective new x e) ∙ h.1))
    by false is e = inl (x, e, h)

-- What a step does to a store, object by object.
use Rattle.std.proofs.Common.{true≢false, ◌≡◌, ◌≢◌, ℕ, ℤ, zero, suc, ◌<◌, length, Option, Some, None, Bool, true, false}
use Rattle.std.proofs.Common.{refl, sym, ap, ◌∙◌, if◌then◌else◌}
use Rattle.sect_types.specs.declared.expansion.action.Action.{Action}
use Rattle.sect_types.specs.{Statements.{TextView, Stop, Do, Choose, Loop, Section, joined}, Programs.{ProgramView}}
use Rattle.sect_types.specs.declared.meaning.store.ObjectName.{ObjectName}
use Rattle.sect_types.specs.declared.meaning.store.ObjectName.TheVariants.{Global, Made}
use Rattle.sect_types.specs.declared.meaning.store.Datum.TheVariants.{Number}
use Rattle.sect_types.specs.Store.{ObjectView, StoreView, same_name, count, object_at, with_field}
use Rattle.sect_types.specs.Meaning.{WorkView, Went, Fell, assigned, loaded, Change, Unchanged, Written, Added}
use Rattle.sect_types.specs.Meaning.{after_change, name_in, base_datum, value_datum, integer_of, result_of, fits}
use Rattle.sect_types.specs.Meaning.{computed, stored, done, paid, looks, found_at, going, taken, next}
use Rattle.sect_world.specs.Accesses.{change_in, Asks}
use Rattle.sect_world.specs.Held.{Loading, next_access, if_paid, access_of, load_of, store_of}
use Rattle.sect_lemmas.proofs.Options.{mapped}
use Rattle.sect_types.proofs.shared.Stores.{object_at-write, object_at-add, count-write, count-add_own, count-add_other}
use Rattle.sect_types.proofs.shared.Stores.{rows-write, rows-add}
use Rattle.sect_types.specs.declared.expansion.action.Action.TheVariants as action
use Rattle.sect_types.specs.declared.meaning.store.Fault.TheVariants as fault

-- the change by thread t, which has made n objects so far, makes this object
abbrev pub is_new : ℕ → ℕ → Change → ObjectName → Bool
is_new t n Unchanged o = false
is_new t n (Written z f d) o = false
is_new t n (Added x) o = same_name (Made t n) o

-- it writes it or makes it
abbrev pub touches : ℕ → ℕ → Change → ObjectName → Bool
touches t n Unchanged o = false
touches t n (Written z f d) o = same_name z o
touches t n (Added x) o = same_name (Made t n) o

-- what is there afterwards, if that was there before
abbrev pub object_after : ℕ → ℕ → Change → ObjectName → Option ObjectView → Option ObjectView
object_after t n Unchanged o old = old
object_after t n (Written z f d) o old = if same_name z o then mapped (with_field f d) old else old
object_after t n (Added x) o old = if same_name (Made t n) o then Some x else old

-- how many objects the thread has made afterwards
abbrev pub count_after : Change → ℕ → ℕ
count_after Unchanged n = n
count_after (Written z f d) n = n
count_after (Added x) n = suc n

-- a store after a change, object by object
pub object_at-after : (s : StoreView) (t : ℕ) (ch : Change) (o : ObjectName) → t < length s.made
    → object_at (after_change t s ch) o ≡ object_after t (count s t) ch o (object_at s o)
object_at-after s t Unchanged o le = refl
object_at-after s t (Written z f d) o le = object_at-write s z o f d
object_at-after s t (Added x) o le = object_at-add s t x o le

-- and its count of the thread that makes the change
pub count-after_own : (s : StoreView) (t : ℕ) (ch : Change) → t < length s.made
    → count (after_change t s ch) t ≡ count_after ch (count s t)
count-after_own s t Unchanged le = refl
count-after_own s t (Written z f d) le = count-write s z f d t
count-after_own s t (Added x) le = count-add_own s t x le

-- and of each other thread
pub count-after_other : (s : StoreView) (t u : ℕ) (ch : Change) → t ≢ u → count (after_change t s ch) u ≡ count s u
count-after_other s t u Unchanged other = refl
count-after_other s t u (Written z f d) other = count-write s z f d u
count-after_other s t u (Added x) other = count-add_other s t u x other

-- and its rows
pub rows-after : (s : StoreView) (t : ℕ) (ch : Change) → length (after_change t s ch).made ≡ length s.made
rows-after s t Unchanged = refl
rows-after s t (Written z f d) = rows-write s z f d
rows-after s t (Added x) = rows-add s t x

-- what is neither written nor made is as it was
pub untouched : (t n : ℕ) (ch : Change) (o : ObjectName) (old : Option ObjectView) → touches t n ch o ≡ false
    → object_after t n ch o old ≡ old
untouched t n Unchanged o old e = refl
untouched t n (Written z f d) o old e = ap (λ b. if b then mapped (with_field f d) old else old) e
untouched t n (Added x) o old e = ap (λ b. if b then Some x else old) e

-- what is made doesn't depend on what was there
pub new_whatever : (t n : ℕ) (ch : Change) (o : ObjectName) (old older : Option ObjectView) → is_new t n ch o ≡ true
    → object_after t n ch o old ≡ object_after t n ch o older
new_whatever t n Unchanged o old older e = absurd (true≢false (sym e))
new_whatever t n (Written z f d) o old older e = absurd (true≢false (sym e))
new_whatever t n (Added x) o old older e = ap (λ b. if b then Some x else old) e
    ∙ sym (ap (λ b. if b then Some x else older) e)

-- what is made is touched, so what isn't touched isn't new
pub untouched_is_old : (t n : ℕ) (ch : Change) (o : ObjectName) → touches t n ch o ≡ false → is_new t n ch o ≡ false
untouched_is_old t n Unchanged o e = refl
untouched_is_old t n (Written z f d) o e = refl
untouched_is_old t n (Added x) o e = e

-- the object of a global is not made by a change
pub global_is_old : (t n : ℕ) (ch : Change) (g : ℕ) → is_new t n ch (Global g) ≡ false
global_is_old t n Unchanged g = refl
global_is_old t n (Written z f d) g = refl
global_is_old t n (Added x) g = refl

-- the site of an object that was there stays
pub site_stays : (t n : ℕ) (ch : Change) (o : ObjectName) (old : Option ObjectView) → is_new t n ch o ≡ false
    → mapped (λ (x : ObjectView). x.site) (object_after t n ch o old) ≡ mapped (λ (x : ObjectView). x.site) old
site_stays t n Unchanged o old e = refl
site_stays t n (Written z f d) o old e = by (same_name z o) old where
  by : (b : Bool) (old : Option ObjectView)
      → mapped (λ (x : ObjectView). x.site) (if b then mapped (with_field f d) old else old) ≡ mapped
      (λ (x : ObjectView). x.site) old
  by true None = refl
  by true (Some x) = refl
  by false old = refl
site_stays t n (Added x) o old e = ap (λ b. mapped (λ (x : ObjectView). x.site) (if b then Some x else old)) e

-- a change to the store is the access that the step asks for
pub change_is_asked : (p : ProgramView) (t : ℕ) (k : TextView) (found : Option ObjectView) (w : WorkView)
    → Asks (change_in (next p t k found w)) (next_access k w)
change_is_asked p t Stop found w = tt
change_is_asked p t (Do a r) found w = pay w.fuel where
  did : (a : Action) (w : WorkView) → Asks (change_in (going r (done p t a found w))) (access_of a w.locals)
  did (action.Assign x v) w = tt
  did (action.Compute x v o u) w =
      by (result_of o (integer_of (value_datum w.locals v)) (integer_of (value_datum w.locals u))) where
        by : (z : ℤ) → Asks (change_in (going r (computed x z w))) None
        by z = fit (fits z) where
          fit : (b : Bool)
              → Asks
              (change_in (going r (if b then Went (assigned x (Number z) w) Unchanged else Fell fault.Overflow w)))
              None
          fit true = tt
          fit false = tt
  did (action.New x q site) w = refl
  did (action.Load x b f) w = by found where
    by : (found : Option ObjectView)
        → Asks (change_in (going r (loaded x f.number found w))) (load_of (name_in (base_datum w.locals b)))
    by None = tt
    by (Some o) = tt
  did (action.Store b f v) w = by (name_in (base_datum w.locals b)) where
    by : (o : Option ObjectName) → Asks (change_in (going r (stored f.number (value_datum w.locals v) o w)))
        (store_of o)
    by None = tt
    by (Some o) = refl
  did (action.Print v) w = tt

  pay : (n : ℕ) → Asks (change_in (going r (paid n w (done p t a found)))) (if_paid n (access_of a w.locals))
  pay zero = tt
  pay (suc n) = did a (record w { fuel = n })
change_is_asked p t (Choose c y z r) found w = by w.fuel where
  by : (n : ℕ) → Asks (change_in (taken n c (joined y r) (joined z r) w)) (if_paid w.fuel None)
  by zero = tt
  by (suc n) = tt
change_is_asked p t (Loop c l r) found w = by w.fuel where
  by : (n : ℕ) → Asks (change_in (taken n c (joined l (Loop c l r)) r w)) (if_paid w.fuel None)
  by zero = tt
  by (suc n) = tt
change_is_asked p t (Section i l r) found w = tt

-- where two stores have the same object for a load, the step is the same
pub same_step : (p : ProgramView) (t : ℕ) (k : TextView) (w : WorkView) (here store : StoreView)
    → ((o : ObjectName) → next_access k w ≡ Some (Loading o) → object_at here o ≡ object_at store o)
    → next p t k (found_at here (looks k w)) w ≡ next p t k (found_at store (looks k w)) w
same_step p t Stop w here store h = refl
same_step p t (Do (action.Assign x v) r) w here store h = refl
same_step p t (Do (action.Compute x v o u) r) w here store h = refl
same_step p t (Do (action.New x q site) r) w here store h = refl
same_step p t (Do (action.Load x b f) r) w here store h = pay w.fuel (name_in (base_datum w.locals b)) h where
  pay : (n : ℕ) (o : Option ObjectName)
      → ((q : ObjectName) → if_paid n (load_of o) ≡ Some (Loading q) → object_at here q ≡ object_at store q)
      → going r (paid n w (done p t (action.Load x b f) (found_at here o))) ≡ going r
      (paid n w (done p t (action.Load x b f) (found_at store o)))
  pay zero o h = refl
  pay (suc n) None h = refl
  pay (suc n) (Some q) h = ap (λ found. going r (done p t (action.Load x b f) found (record w { fuel = n }))) (h q refl)
same_step p t (Do (action.Store b f v) r) w here store h = refl
same_step p t (Do (action.Print v) r) w here store h = refl
same_step p t (Choose c y z r) w here store h = refl
same_step p t (Loop c l r) w here store h = refl
same_step p t (Section i l r) w here store h = refl

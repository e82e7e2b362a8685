-- What a store shows after writes.
use Rattle.std.proofs.Common.{◌≡◌, ℕ, zero, suc, ◌++◌, List, [], ◌∷◌, Some, Bool, true, false, map, refl, sym}
use Rattle.std.proofs.Common.{ap, ◌∙◌, subst, slice_get, if◌then◌else◌, ◌&&◌, ◌<◌, ◌+◌, length, get_or, take, arith, nat_eq}
use Rattle.std.proofs.lemmas.Bool.{and_parts}
use Rattle.std.proofs.lemmas.Bool.Decides.{same_from_decides}
use Rattle.std.specs.Cmp.{unsigned_Decides}
use Rattle.sect_types.specs.contracts.meaning.store.ObjectNamePartialEq.TheImpl.{ghosts as the_name_eq}
use Rattle.sect_types.proofs.shared.{SameData.{name_tells}}
use Rattle.std.specs.Prelude.{pos}
use Rattle.sect_types.specs.declared.meaning.store.ObjectName.{ObjectName}
use Rattle.sect_types.specs.declared.meaning.store.ObjectName.TheVariants.{Global}
use Rattle.sect_types.specs.declared.meaning.store.Datum.TheVariants.{Number, Refers}
use Rattle.sect_types.specs.declared.expansion.action.Action.{Action}
use Rattle.sect_types.specs.{declared.expansion.action.Base.{Base}, declared.expansion.action.Field.{Field}}
use Rattle.sect_types.specs.{Programs.{ProgramView}, Whole.{Through, left_by}}
use Rattle.sect_types.specs.Meaning.{WorkView, assigned, loaded, found_at, looked, paid, done, name_in, base_datum}
use Rattle.sect_types.specs.Meaning.{datum_or_null}
use Rattle.sect_types.specs.declared.expansion.action.Action.TheVariants as action
use Rattle.sect_types.specs.declared.meaning.store.Datum.{Datum}
use Rattle.sect_types.specs.Store.{StoreView, same_name, object_at, with_field, write}
use Rattle.sect_types.proofs.shared.Stores.{object_at-write, same_name-true, same_name-eq}
use Rattle.sect_lemmas.specs.{Lists.{put_at}, Numbers.{same_number}}
use Rattle.sect_lemmas.proofs.Options.{mapped, some_injective, none_or_some}
use Rattle.sect_lemmas.proofs.Replaced.{get-changed_at, same_number-true, same_number-eq}
use Rattle.sect_store.specs.{declared.part.Cell.{Cell}, Parts.{Shows, ShowsAll, written, is_cell_of, updated}}
use Rattle.sect_store.specs.Parts.{left_in, left_paid}

-- each of them is shown
pub shown_at : (s : StoreView) (xs : List Cell) (n : ℕ) (x : Cell) → slice_get xs n ≡ Some x → ShowsAll s xs → Shows s x
shown_at s [] n x at all = absurd (none_or_some x at)
shown_at s (y ∷ xs) zero x at all = subst (Shows s) (some_injective y x at) all.0
shown_at s (y ∷ xs) (suc n) x at all = shown_at s xs n x at all.1

-- one write more
pub written-more : (s : StoreView) (xs : List Cell) (x : Cell)
    → written s (xs ++ x ∷ []) ≡ write (written s xs) x.name x.field x.datum
written-more s [] x = refl
written-more s (y ∷ xs) x = written-more (write s y.name y.field y.datum) xs x

-- a write shows in the cell of its field, and leaves the others
pub shown_written : (s : StoreView) (o : ObjectName) (f : ℕ) (d : Datum) (x : Cell) → Shows s x
    → Shows (write s o f d) (updated o f d x)
shown_written s o f d x h = by (same_name o x.name) (same_number f x.field) refl refl where
  there : (b : Bool) → same_name o x.name ≡ b
      → object_at (write s o f d) x.name ≡ (if b then mapped (with_field f d) (object_at s x.name) else object_at s x.name)
  there b e = object_at-write s o x.name f d
      ∙ ap (λ z. if z then mapped (with_field f d) (object_at s x.name) else object_at s x.name) e

  holds : (b : Bool) → same_number f x.field ≡ b
      → slice_get (put_at f d h.0.fields) x.field
      ≡ (if b then mapped (λ (old : Datum). d) (slice_get h.0.fields x.field) else slice_get h.0.fields x.field)
  holds b e = get-changed_at f x.field (λ old. d) h.0.fields
      ∙ ap (λ z. if z then mapped (λ (old : Datum). d) (slice_get h.0.fields x.field) else slice_get h.0.fields x.field) e

  is : (b c : Bool) → same_name o x.name ≡ b → same_number f x.field ≡ c
      → updated o f d x ≡ (if b && c then record { name = x.name; field = x.field; datum = d } else x)
  is b c e g =
      ap (λ z. if z && same_number f x.field then record { name = x.name; field = x.field; datum = d } else x) e
      ∙ ap (λ z. if b && z then record { name = x.name; field = x.field; datum = d } else x) g

  by : (b c : Bool) → same_name o x.name ≡ b → same_number f x.field ≡ c → Shows (write s o f d) (updated o f d x)
  by true true e g = subst (Shows (write s o f d)) (sym (is true true e g)) (
    with_field f d h.0,
    there true e ∙ ap (mapped (with_field f d)) h.1,
    holds true g ∙ ap (mapped (λ (old : Datum). d)) h.2,
  )
  by true false e g = subst (Shows (write s o f d)) (sym (is true false e g)) (
    with_field f d h.0,
    there true e ∙ ap (mapped (with_field f d)) h.1,
    holds false g ∙ h.2,
  )
  by false c e g = subst (Shows (write s o f d)) (sym (is false c e g)) (h.0, there false e ∙ h.1, h.2)

-- so for all
pub all_shown_written : (s : StoreView) (o : ObjectName) (f : ℕ) (d : Datum) (xs : List Cell) → ShowsAll s xs
    → ShowsAll (write s o f d) (map (updated o f d) xs)
all_shown_written s o f d [] all = tt
all_shown_written s o f d (x ∷ xs) all = (shown_written s o f d x all.0, all_shown_written s o f d xs all.1)

-- the derived tests are those of the definitions
names_alike : (n m : ObjectName) → the_name_eq.eq n m ≡ same_name n m
names_alike n m = same_from_decides (the_name_eq.eq n m) (same_name n m) (name_tells n m)
    (same_name-true n m, λ e. same_name-eq n m e)

numbers_alike : (n m : ℕ) → nat_eq n m ≡ same_number n m
numbers_alike n m = same_from_decides (nat_eq n m) (same_number n m) (unsigned_Decides n m)
    (same_number-true n m, λ e. same_number-eq n m e)

pub cell_then : (n m : ObjectName) (f g : ℕ) (b : Bool) → b ≡ the_name_eq.eq n m → b ≡ true
    → nat_eq f g ≡ (same_name n m && same_number f g)
cell_then n m f g b e h =
    numbers_alike f g ∙ sym (ap (λ z. z && same_number f g) (sym (names_alike n m) ∙ (sym e ∙ h)))

pub cell_else : (n m : ObjectName) (f g : ℕ) (b : Bool) → b ≡ the_name_eq.eq n m → b ≡ false
    → b ≡ (same_name n m && same_number f g)
cell_else n m f g b e h = h ∙ sym (ap (λ z. z && same_number f g) (sym (names_alike n m) ∙ (sym e ∙ h)))

-- what is read below the length is there
pub read_at : {A : Type 0} (xs : List A) (n : ℕ) (d : A) → n < length xs → slice_get xs n ≡ Some (get_or xs n d)
read_at [] n d lt = absurd (omega (arith, lt))
read_at (x ∷ xs) zero d lt = refl
read_at (x ∷ xs) (suc n) d lt = read_at xs n d (omega (arith, lt))

-- a cell of a field shows what the field holds
pub cell_shows : (xs : List Cell) (n : ℕ) (x : Cell) (o : ObjectName) (f : ℕ) → slice_get xs n ≡ Some x
    → is_cell_of o f x ≡ true
    → (s : StoreView) → ShowsAll s xs → Shows s (record { name = o; field = f; datum = x.datum })
cell_shows xs n x o f at is s all =
    let parts = and_parts (same_name o x.name) (same_number f x.field) is in
    let name : x.name ≡ o = sym (same_name-true o x.name parts.0) in
    let field : x.field ≡ f = sym (same_number-true f x.field parts.1) in
    let h = shown_at s xs n x at all in
    (h.0, ap (object_at s) (sym name) ∙ h.1, ap (slice_get h.0.fields) (sym field) ∙ h.2)

-- one more is shown
pub more_shown : (s : StoreView) (xs : List Cell) (n : ℕ) (x : Cell) → slice_get xs n ≡ Some x
    → ShowsAll s (take n xs) → Shows s x → ShowsAll s (take (n + 1) xs)
more_shown s [] n x at all one = absurd (none_or_some x at)
more_shown s (y ∷ xs) zero x at all one = (subst (Shows s) (sym (some_injective y x at)) one, tt)
more_shown s (y ∷ xs) (suc n) x at all one =
    subst (λ m. ShowsAll s (take m (y ∷ xs))) (let e : suc (n + 1) ≡ suc n + 1 = omega arith in e)
    (all.0, more_shown s xs n x at all.1 one)

-- what stands where there is no cell
abbrev pub cell_0 : Cell
cell_0 = record { name = Global 0; field = 0; datum = Number (pos 0) }

-- once its unit of fuel is paid, a statement leaves the same
pub once_paid : (a : Action) (w v : WorkView) (n : ℕ) → w.fuel ≡ suc n → v ≡ record w { fuel = n }
    → (p : ProgramView) (t : ℕ) (s : StoreView) → left_paid a v p t s ≡ left_in a w p t s
once_paid a w v n fuel v_is p t s =
    ap (λ z. left_paid a z p t s) v_is
    ∙ sym (ap (λ m. left_by t s (paid m w (done p t a (found_at s (looked a w.locals))))) fuel)

-- a load of what is known
pub load_leaves : (p : ProgramView) (t : ℕ) (a : Action) (x : ℕ) (b : Base) (f : Field) (w v : WorkView) (s : StoreView)
    (o : ObjectName) (d : Datum) → a ≡ action.Load x b f → base_datum w.locals b ≡ Refers o
    → Shows s (record { name = o; field = f.number; datum = d }) → v ≡ assigned x d w
    → Through v s ≡ left_paid a w p t s
load_leaves p t a x b f w v s o d is based h v_is =
    sym (ap (λ z. left_paid z w p t s) is
    ∙ ap (λ z. left_by t s (loaded x f.number (found_at s (name_in z)) w)) based
    ∙ ap (λ z. left_by t s (loaded x f.number z w)) h.1
    ∙ ap (λ z. Through (assigned x (datum_or_null z) w) s) h.2
    ∙ ap (λ z. Through z s) (sym v_is))

-- a write more, which the cells of its field know
pub part_written : (s : StoreView) (cells writes cells' writes' : List Cell) (o : ObjectName) (f : ℕ) (d : Datum)
    → writes' ≡ writes ++ record { name = o; field = f; datum = d } ∷ [] → cells' ≡ map (updated o f d) cells
    → ShowsAll (written s writes) cells
    → ShowsAll (written s writes') cells' × (written s writes' ≡ write (written s writes) o f d)
part_written s cells writes cells' writes' o f d more known all =
    let w : written s writes' ≡ write (written s writes) o f d =
    ap (written s) more ∙ written-more s writes (record { name = o; field = f; datum = d }) in (
      subst (λ xs. ShowsAll (written s writes') xs) (sym known)
          (subst (λ z. ShowsAll z (map (updated o f d) cells)) (sym w)
          (all_shown_written (written s writes) o f d cells all)),
      w,
    )

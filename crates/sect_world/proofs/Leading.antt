-- Events of one thread in a row by which it comes to hold no key, and which let nobody in, lead from a world to a
-- world.
use Rattle.std.proofs.Common.{◌≡◌, ℕ, zero, suc, ◌++◌, List, [], ◌∷◌, Some, refl, sym, ap, ◌∙◌, subst, append_assoc}
use Rattle.std.proofs.Common.{append-nil}
use Rattle.std.specs.Prelude.{ℤ, replicate, slice_get, slice_set}
use Rattle.sect_types.specs.Store.{StoreView}
use Rattle.sect_lemmas.specs.Lists.{put_at}
use Rattle.sect_lemmas.proofs.{Changed.{set_put}, Replaced.{put_same}, Options.{some_injective}}
use Rattle.sect_table.specs.Contents.{Contents}
use Rattle.sect_emit.specs.{Compiled.{CompiledView}, State.{State}}
use Rattle.sect_world.specs.{declared.event.Deed.{Deed}, declared.event.Event.{Event}, declared.runner.Runner.{Runner}}
use Rattle.sect_world.specs.declared.event.Deed.TheVariants.{Local, Enter, Take, Begin, Again, Act, Leave}
use Rattle.sect_world.specs.{declared.turned.EventKind.{EventKind}, declared.turned.Turned.TheVariants.{Moved}}
use Rattle.sect_world.specs.{Runs.{RunsTo}, Worlds.{Does, MayFollow, kind_of}, Viewing.{state_of, shown, IsWorld}}
use Rattle.sect_world.proofs.{shared.LongerRuns.{leads_on}, Viewing.{TurnsInto}}
use Rattle.sect_world.specs.declared.turned.EventKind.TheVariants as kind

-- one more is behind the others too
pub repeated_more : {A : Type 0} → (n : ℕ) (x : A) → replicate n x ++ x ∷ [] ≡ replicate (suc n) x
repeated_more zero x = refl
repeated_more (suc n) x = ap (λ xs. x ∷ xs) (repeated_more n x)

-- what is put back changes nothing
put_back : {A : Type 0} → (t : ℕ) (x : A) (xs : List A) → slice_get xs t ≡ Some x → put_at t x xs ≡ xs
put_back t x [] at = refl
put_back zero x (y ∷ xs) at = ap (λ z. z ∷ xs) (sym (some_injective y x at))
put_back (suc t) x (y ∷ xs) at = ap (λ zs. y ∷ zs) (put_back t x xs at)

-- of two that are put in one place the second stays
put_again : {A : Type 0} → (t : ℕ) (x y : A) (xs : List A) → put_at t y (put_at t x xs) ≡ put_at t y xs
put_again t x y [] = refl
put_again zero x y (z ∷ xs) = refl
put_again (suc t) x y (z ∷ xs) = ap (λ zs. z ∷ zs) (put_again t x y xs)

set_again : {A : Type 0} → (t : ℕ) (x y : A) (xs : List A) → slice_set (slice_set xs t x) t y ≡ slice_set xs t y
set_again t x y xs =
    set_put t y (slice_set xs t x) ∙ ap (put_at t y) (set_put t x xs) ∙ put_again t x y xs ∙ sym (set_put t y xs)

set_back : {A : Type 0} → (t : ℕ) (x : A) (xs : List A) → slice_get xs t ≡ Some x → slice_set xs t x ≡ xs
set_back t x xs at = set_put t x xs ∙ put_back t x xs at

-- it stands there then
pub set_same : {A : Type 0} → (t : ℕ) (old x : A) (xs : List A) → slice_get xs t ≡ Some old
    → slice_get (slice_set xs t x) t ≡ Some x
set_same t old x xs at = ap (λ zs. slice_get zs t) (set_put t x xs) ∙ put_same t old x xs at

-- only this is of this kind, and nothing follows it in its turn
pub record IsLone (k : EventKind) (d : Deed) : Type 0 where
  pub only : (other : Deed) → kind_of other ≡ k → other ≡ d
  pub alone : (t : ℕ) (es : List Event) → MayFollow k t es → es ≡ []

pub act_is_lone : IsLone kind.Act Act
act_is_lone = record { only = only; alone = λ t es e. e } where
  only : (d : Deed) → kind_of d ≡ kind.Act → d ≡ Act
  only Local e = absurd (let off : kind.Local ≡ kind.Act = e in cc)
  only Enter e = absurd (let off : kind.Enter ≡ kind.Act = e in cc)
  only (Take k m) e = absurd (let off : kind.Take ≡ kind.Act = e in cc)
  only Begin e = absurd (let off : kind.Begin ≡ kind.Act = e in cc)
  only Again e = absurd (let off : kind.Again ≡ kind.Act = e in cc)
  only Act e = refl
  only Leave e = absurd (let off : kind.Leave ≡ kind.Act = e in cc)

pub local_is_lone : IsLone kind.Local Local
local_is_lone = record { only = only; alone = λ t es e. e } where
  only : (d : Deed) → kind_of d ≡ kind.Local → d ≡ Local
  only Local e = refl
  only Enter e = absurd (let off : kind.Enter ≡ kind.Local = e in cc)
  only (Take k m) e = absurd (let off : kind.Take ≡ kind.Local = e in cc)
  only Begin e = absurd (let off : kind.Begin ≡ kind.Local = e in cc)
  only Again e = absurd (let off : kind.Again ≡ kind.Local = e in cc)
  only Act e = absurd (let off : kind.Act ≡ kind.Local = e in cc)
  only Leave e = absurd (let off : kind.Leave ≡ kind.Local = e in cc)

-- a turn that makes it makes nothing else
one_event : (c : CompiledView) (s : State) (t : ℕ) (k : EventKind) (d : Deed) (es : List Event) (after : State)
    → IsLone k d → Does c s t (Moved k) es after → RunsTo c s (record { thread = t; deed = d } ∷ []) after
one_event c s t k d [] after lone does = absurd does
one_event c s t k d (e ∷ es) after lone does =
    let same : e ≡ record { thread = t; deed = d } =
    λ i. record { thread = does.0 i; deed = lone.only e.deed does.1 i } in
    subst (λ z. RunsTo c s (z ∷ []) after) same
    (subst (λ zs. RunsTo c s (e ∷ zs) after) (lone.alone t es does.2) does.3)

module _ (c : CompiledView) (fuel : ℕ) (trace : List Event) (order : List ℕ) (store : StoreView) (output : List ℤ)
    (rs : List Runner) (table : Contents) (t : ℕ) where
  -- events have led to where the thread is this runner, and the store is this
  pub record Led (es : List Event) (q : Runner) (r : StoreView) : Type 0 where
    pub world : IsWorld c fuel (trace ++ es) order r output (slice_set rs t q) table
    pub leads : RunsTo c (state_of c store output rs table.held) es
        (state_of c r output (slice_set rs t q) table.held)

  -- no event leads nowhere
  pub none_led : (old q : Runner) (r : StoreView) → IsWorld c fuel trace order store output rs table
      → slice_get rs t ≡ Some old → q ≡ old → r ≡ store → Led [] q r
  none_led old q r w there same stored =
      let back : slice_set rs t q ≡ rs = ap (slice_set rs t) same ∙ set_back t old rs there in
      record {
        world = rw (back, stored, append-nil trace) w;
        leads = λ k. state_of c (sym stored k) output (sym back k) table.held;
      }

  -- a turn that makes one event more leads on
  pub one_led : (k : EventKind) (d : Deed) → IsLone k d → (es : List Event) (q new : Runner) (z r : StoreView)
      → Led es q z
      → TurnsInto (shown c fuel (trace ++ es) order z output (slice_set rs t q) table.held []) t (Moved k) c fuel
      ((trace ++ es) ++ record { thread = t; deed = d } ∷ []) order r output (slice_set (slice_set rs t q) t new)
      table []
      → Led (es ++ record { thread = t; deed = d } ∷ []) new r
  one_led k d lone es q new z r l into =
      let one : List Event = record { thread = t; deed = d } ∷ [] in
      let runners : slice_set (slice_set rs t q) t new ≡ slice_set rs t new = set_again t q new rs in
      let first : State = state_of c store output rs table.held in
      record {
        world = subst (λ fs. IsWorld c fuel fs order r output (slice_set rs t new) table) (append_assoc trace es one)
            (subst (λ zs. IsWorld c fuel ((trace ++ es) ++ one) order r output zs table) runners into.world);
        leads = subst (λ zs. RunsTo c first (es ++ one) (state_of c r output zs table.held)) runners
            (leads_on c first (state_of c z output (slice_set rs t q) table.held)
            (state_of c r output (slice_set (slice_set rs t q) t new) table.held) es one l.leads
            (one_event c (state_of c z output (slice_set rs t q) table.held) t k d into.turned.events
            (state_of c r output (slice_set (slice_set rs t q) t new) table.held) lone into.turned.does));
      }

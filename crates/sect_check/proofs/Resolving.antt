-- Names that stand for nothing.
use Rattle.std.proofs.Common.{◌≡◌, ◌↔◌, ◌≤◌, ℕ, zero, suc, ◌<◌, List, [], ◌∷◌, Option, Some, None, true, Result, Ok}
use Rattle.std.proofs.Common.{Err, IsErrAnd, length, get_or, refl, sym, ap, subst, arith, true≢false}
use Rattle.std.proofs.lemmas.Option.{slice_get_within, get_or_from_slice_get}
use Rattle.std.specs.{Prelude.{slice_get, slice_index, is_some}, Option.{option_map}, List.{AllZip}}
use Rattle.sect_lemmas.specs.Lists.{Has}
use Rattle.sect_lemmas.proofs.{Membership.{Has-slice_get}, Places.{Has-index}}
use Rattle.sect_points.specs.{Paths.{PathView}, Partitions.{HasClass}}
use Rattle.sect_names.specs.{declared.lock.Effect.{Effect}, declared.lock.Lock.{Lock}, Schemes.{SchemeView}}
use Rattle.sect_names.specs.Locks.{depth, IsClassed, IsLockOf}
use Rattle.sect_cert.specs.declared.lock.CertPath.{CertPath}
use Rattle.sect_check.specs.declared.unresolved.Unresolved.{Unresolved}
use Rattle.sect_check.specs.{declared.unresolved.Unresolved.TheVariants.{Memory, Wrong}, Names.{path_named}}
use Rattle.sect_check.specs.steps.Resolving.{Resolves, Extends}
use Rattle.sect_check.proofs.Standing.{path_stands}
use Rattle.sect_names.specs.declared.lock.Lock.TheVariants as lock

-- where one element is related to nothing, so is the list
zip_none : {A B : Type 0} (R : A → B → Type 0) (xs : List A) (i : ℕ) (x : A) → i < length xs → x ≡ get_or xs i x
    → ((y : B) → R x y → ⊥) → (ys : List B) → AllZip R xs ys → ⊥
zip_none R [] i x within is bad ys h = omega (arith, within)
zip_none R (z ∷ xs) i x within is bad [] h = h
zip_none R (z ∷ xs) zero x within is bad (y ∷ ys) h = bad y (subst (λ w. R w y) (sym is) h.0)
zip_none R (z ∷ xs) (suc i) x within is bad (y ∷ ys) h = zip_none R xs i x (omega (arith, within)) is bad ys h.1

-- a refusal is passed on: where what was sought first isn't there, nothing is
pub passes : {A B : Type 0} (r : Result A Unresolved) (e : Unresolved) (R : B → Type 0) (S : A → Type 0)
    → IsErrAnd r (λ x. x ≡ e) → Resolves {A = B} (Err e) R
    → (((y : B) → R y → ⊥) → (z : A) → S z → ⊥) → Resolves r S
passes (Ok x) e R S is given turns = absurd is
passes {A} {B} (Err x) e R S is given turns = subst (λ z. Resolves {A = A} (Err z) S) (sym is) (go e given)
  where
    go : (e : Unresolved) → Resolves {A = B} (Err e) R → Resolves {A = A} (Err e) S
    go Wrong g = turns g
    go Memory g = tt

-- so is a refusal at an element of a list
pub refuses : {X Y : Type 0} (R : X → Y → Type 0) (xs : List X) (i : ℕ) (x z : X) (r : Result (List Y) Unresolved)
    (e : Unresolved)
    → i < length xs → z ≡ get_or xs i z → x ≡ z → IsErrAnd r (λ u. u ≡ e) → Resolves {A = Y} (Err e) (R x)
    → Resolves r (AllZip R xs)
refuses {Y = Y} R xs i x z r e within at is err given = passes r e (R x) (AllZip R xs) err given
    (λ bad. zip_none R xs i z within at (subst (λ w. (y : Y) → R w y → ⊥) is bad))

-- a path has a class where one is found
pub classed : (s : SchemeView) (p : PathView) (o : Option ℕ) → ((n : ℕ) → (o ≡ Some n) ↔ HasClass s.classes p n)
    → (is_some o ≡ true) ↔ IsClassed s p
classed s p None tells = (λ t. absurd (true≢false (sym t)), λ h. (let e = (tells h.0).1 h.1 in absurd cc))
classed s p (Some n) tells = (λ t. (n, (tells n).0 refl), λ h. refl)

-- the classes are those below their count
pub class_there : (numbers : List ℕ) (count : ℕ)
    → ((class : ℕ) → class < count → (site : ℕ) × (slice_get numbers site ≡ Some class)) → (n : ℕ) → n < count
    → Has numbers n
class_there numbers count each n lt = let at = each n lt in Has-slice_get numbers at.0 n at.1

-- a class is below the count
pub class_below : (numbers : List ℕ) (count : ℕ)
    → ((site : ℕ) → site < length numbers → slice_index numbers site < count) → (n : ℕ) → Has numbers n → n < count
class_below numbers count below n h =
    let at = Has-index numbers n h in
    let lt = below at.0 (slice_get_within numbers at.0 n at.1) in
    let same : slice_index numbers at.0 ≡ n = get_or_from_slice_get numbers at.0 n 0 at.1 in
    omega (arith, lt, same)

module _ (s : SchemeView) (t : ℕ) (named : CertPath) (e : Effect) where
  -- the lock on the path that names stand for
  abbrev pub IsLockNamed : Lock → Type 0
  IsLockNamed m = (option_map (λ x. lock.Path x e) (path_named s.program t named) ≡ Some m) × IsLockOf s t m

  -- the path that the names stand for, where it is short and has a class, is locked
  pub lock_there : (p : PathView) → path_named s.program t named ≡ Some p → (depth p ≤ s.most) × IsClassed s p
      → IsLockNamed (lock.Path p e)
  lock_there p is fits =
      let own = path_stands s.program t named p is in (
        ap (option_map (λ x. lock.Path x e)) is,
        record { own = own.0; of = own.1.0; refers = own.1.1; short = fits.0; classed = fits.1 },
      )

-- a refusal at an element, where those before it have theirs
pub extends_not : {A B C : Type 0} (R : A → B → Type 0) (xs : List A) (n : ℕ) (x z : A) (ys : List B)
    (r : Result C Unresolved) (e : Unresolved) → n < length xs → slice_get xs n ≡ Some x → z ≡ x
    → IsErrAnd r (λ u. u ≡ e) → Resolves {A = B} (Err e) (R z) → Extends R xs n ys r
extends_not R xs n x z ys (Ok u) e within at same err given = absurd err
extends_not {B = B} {C = C} R xs n x z ys (Err u) e within at same err given =
    subst (λ w. Extends {C = C} R xs n ys (Err w)) (sym err) (go e given)
  where
    go : (e : Unresolved) → Resolves {A = B} (Err e) (R z) → Extends {C = C} R xs n ys (Err e)
    go Wrong g = zip_none R xs n x within (sym (get_or_from_slice_get xs n x x at))
        (subst (λ w. (y : B) → R w y → ⊥) same g)
    go Memory g = tt

-- What a test that chose says.
use Rattle.std.proofs.Common.{◌≡◌, Bool, true, false, cond, Option, Some, None, refl, subst}
use Rattle.sect_lemmas.proofs.Options.{some_injective}

-- a test that chooses Some was true
pub chosen : {A : Type 0} (b : Bool) (o : Option A) (t : A) → cond b o None ≡ Some t → (b ≡ true) × (o ≡ Some t)
chosen true o t h = (refl, h)
chosen false o t h = cc

pub refused : {A : Type 0} (b : Bool) (o : Option A) (t : A) → cond b None o ≡ Some t → (b ≡ false) × (o ≡ Some t)
refused false o t h = (refl, h)
refused true o t h = cc

-- a fact of the value of each case of a choice
pub if_some : {A : Type 0} (P : A → Type 0) (c : Bool) (x : A) (o : Option A) → P x → ((t : A) → o ≡ Some t → P t)
    → (t : A) → cond c (Some x) o ≡ Some t → P t
if_some P true x o p h t e = subst P (some_injective x t e) p
if_some P false x o p h t e = h t e

-- the same, where the fact needs that its test held
pub if_some_so : {A : Type 0} (P : A → Type 0) (c : Bool) (x : A) (o : Option A) → (c ≡ true → P x)
    → ((t : A) → o ≡ Some t → P t) → (t : A) → cond c (Some x) o ≡ Some t → P t
if_some_so P true x o p h t e = subst P (some_injective x t e) (p refl)
if_some_so P false x o p h t e = h t e

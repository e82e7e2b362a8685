-- What holds of the results of calls.
use Rattle.std.proofs.Common.{◌≡◌, Result, Ok, Err, IfErr, IsErrAnd, sym, subst}
use Rattle.std.specs.Prelude.{IfOk}

-- what holds of an error holds of the answer that gives it
pub given : {T E : Type 0} → (r : Result T E) (P : E → Type 0) (e : E) → P e → IsErrAnd r (λ x. x ≡ e) → IfErr r P
given (Ok t) P e p is = tt
given (Err x) P e p is = subst P (sym is) p

pub if_ok : {A E : Type 0} {P Q : A → Type 0} (r : Result A E) → ((x : A) → P x → Q x) → IfOk r P → IfOk r Q
if_ok (Ok x) f p = f x p
if_ok (Err e) f p = tt

-- Steps by their nodes and their locks.
use Rattle.std.proofs.Common.{◌≡◌, ◌≢◌, ℕ, zero, suc, ◌-◌, List, [], ◌∷◌, ◌++◌, Some, length, refl, sym, ◌∙◌, ap, arith}
use Rattle.std.specs.{Prelude.{slice_get}, Option.{option_map}}
use Rattle.sect_cert.specs.{declared.lock.CertLock.{CertLock}, declared.certificate.CertStep.{CertStep}}
use Rattle.sect_cert.specs.steps.{Certificates.{step_with}, Stepping.{stepped}}

pub length_stepped : (ns : List ℕ) (ls : List CertLock) → length ns ≡ length ls → length (stepped ns ls) ≡ length ns
length_stepped [] ls h = refl
length_stepped (n ∷ ns) [] h = absurd (omega (arith, h))
length_stepped (n ∷ ns) (l ∷ ls) h = omega (arith, length_stepped ns ls (omega (arith, h)))

pub node_at : (ns : List ℕ) (ls : List CertLock) (i : ℕ) → length ns ≡ length ls
    → option_map (λ (x : CertStep). x.node) (slice_get (stepped ns ls) i) ≡ slice_get ns i
node_at [] ls i h = refl
node_at (n ∷ ns) [] i h = absurd (omega (arith, h))
node_at (n ∷ ns) (l ∷ ls) zero h = refl
node_at (n ∷ ns) (l ∷ ls) (suc i) h = node_at ns ls i (omega (arith, h))

pub lock_at : (ns : List ℕ) (ls : List CertLock) (i : ℕ) → length ns ≡ length ls
    → option_map (λ (x : CertStep). x.lock) (slice_get (stepped ns ls) i) ≡ slice_get ls i
lock_at [] [] i h = refl
lock_at [] (l ∷ ls) i h = absurd (omega (arith, h))
lock_at (n ∷ ns) [] i h = absurd (omega (arith, h))
lock_at (n ∷ ns) (l ∷ ls) zero h = refl
lock_at (n ∷ ns) (l ∷ ls) (suc i) h = lock_at ns ls i (omega (arith, h))

-- one step more
pub stepped_more : (ns : List ℕ) (ls : List CertLock) (n : ℕ) (l : CertLock) → length ns ≡ length ls
    → stepped (ns ++ n ∷ []) (ls ++ l ∷ []) ≡ stepped ns ls ++ step_with n l ∷ []
stepped_more [] [] n l h = refl
stepped_more [] (k ∷ ls) n l h = absurd (omega (arith, h))
stepped_more (m ∷ ns) [] n l h = absurd (omega (arith, h))
stepped_more (m ∷ ns) (k ∷ ls) n l h = ap (λ xs. step_with m k ∷ xs) (stepped_more ns ls n l (omega (arith, h)))

pub some_locks : (ns : List ℕ) (ls : List CertLock) → length ns ≡ length ls → stepped ns ls ≢ [] → ls ≢ []
some_locks [] ls h some e = some refl
some_locks (n ∷ ns) [] h some e = absurd (omega (arith, h))
some_locks (n ∷ ns) (l ∷ ls) h some e = cc

-- the last lock is that of the last step
pub last_lock : (ns : List ℕ) (ls : List CertLock) (xs : List CertStep) (last : CertStep) → length ns ≡ length ls
    → stepped ns ls ≡ xs → slice_get xs (length xs - 1) ≡ Some last → slice_get ls (length ls - 1) ≡ Some last.lock
last_lock ns ls xs last h is at =
    let count : length ls - 1 ≡ length xs - 1 = omega (arith, h, ap length is, length_stepped ns ls h) in
    ap (slice_get ls) count ∙ sym (lock_at ns ls (length xs - 1) h)
    ∙ ap (λ ys. option_map (λ (x : CertStep). x.lock) (slice_get ys (length xs - 1))) is
    ∙ ap (option_map (λ (x : CertStep). x.lock)) at

pub last_there : {X : Type 0} (xs : List X) → xs ≢ [] → (x : X) × (slice_get xs (length xs - 1) ≡ Some x)
last_there [] some = absurd (some refl)
last_there (x ∷ []) some = (x, refl)
last_there (x ∷ y ∷ xs) some =
    let r = last_there (y ∷ xs) (λ e. cc) in
    let place : length (x ∷ y ∷ xs) - 1 ≡ suc (length (y ∷ xs) - 1) = omega arith in
    (r.0, ap (slice_get (x ∷ y ∷ xs)) place ∙ r.1)

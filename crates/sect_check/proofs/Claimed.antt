-- Links by their nodes and their locks.
use Rattle.std.proofs.Common.{◌≡◌, ◌≢◌, ℕ, zero, suc, ◌-◌, List, [], ◌∷◌, ◌++◌, Some, length, refl, sym, ◌∙◌, ap, arith}
use Rattle.std.specs.{Prelude.{slice_get}, Option.{option_map}}
use Rattle.sect_names.specs.{declared.link.Link.{Link}, declared.lock.Lock.{Lock}, Chains.{link}}
use Rattle.sect_check.specs.steps.Claimed.{linked}

pub length_linked : (ns : List ℕ) (ls : List Lock) → length ns ≡ length ls → length (linked ns ls) ≡ length ns
length_linked [] ls h = refl
length_linked (n ∷ ns) [] h = absurd (omega (arith, h))
length_linked (n ∷ ns) (l ∷ ls) h = omega (arith, length_linked ns ls (omega (arith, h)))

pub link_at : (ns : List ℕ) (ls : List Lock) (i n : ℕ) (l : Lock) → slice_get ns i ≡ Some n → slice_get ls i ≡ Some l
    → slice_get (linked ns ls) i ≡ Some (link n l)
link_at [] ls i n l a b = absurd cc
link_at (m ∷ ns) [] i n l a b = absurd cc
link_at (m ∷ ns) (k ∷ ls) zero n l a b = cc
link_at (m ∷ ns) (k ∷ ls) (suc i) n l a b = link_at ns ls i n l a b

-- the lock of a link
pub lock_at : (ns : List ℕ) (ls : List Lock) (i : ℕ) → length ns ≡ length ls
    → option_map (λ (x : Link). x.lock) (slice_get (linked ns ls) i) ≡ slice_get ls i
lock_at [] [] i h = refl
lock_at [] (l ∷ ls) i h = absurd (omega (arith, h))
lock_at (n ∷ ns) [] i h = absurd (omega (arith, h))
lock_at (n ∷ ns) (l ∷ ls) zero h = refl
lock_at (n ∷ ns) (l ∷ ls) (suc i) h = lock_at ns ls i (omega (arith, h))

-- one link more
pub linked_more : (ns : List ℕ) (ls : List Lock) (n : ℕ) (l : Lock) → length ns ≡ length ls
    → linked (ns ++ n ∷ []) (ls ++ l ∷ []) ≡ linked ns ls ++ link n l ∷ []
linked_more [] [] n l h = refl
linked_more [] (k ∷ ls) n l h = absurd (omega (arith, h))
linked_more (m ∷ ns) [] n l h = absurd (omega (arith, h))
linked_more (m ∷ ns) (k ∷ ls) n l h = ap (λ xs. link m k ∷ xs) (linked_more ns ls n l (omega (arith, h)))

pub some_locks : (ns : List ℕ) (ls : List Lock) → length ns ≡ length ls → linked ns ls ≢ [] → ls ≢ []
some_locks [] ls h some e = some refl
some_locks (n ∷ ns) [] h some e = absurd (omega (arith, h))
some_locks (n ∷ ns) (l ∷ ls) h some e = cc

-- the last lock is that of the last link
pub last_lock : (ns : List ℕ) (ls : List Lock) (xs : List Link) (last : Link) → length ns ≡ length ls
    → linked ns ls ≡ xs → slice_get xs (length xs - 1) ≡ Some last → slice_get ls (length ls - 1) ≡ Some last.lock
last_lock ns ls xs last h is at =
    let count : length ls - 1 ≡ length xs - 1 = omega (arith, h, ap length is, length_linked ns ls h) in
    ap (slice_get ls) count ∙ sym (lock_at ns ls (length xs - 1) h)
    ∙ ap (λ ys. option_map (λ (x : Link). x.lock) (slice_get ys (length xs - 1))) is
    ∙ ap (option_map (λ (x : Link). x.lock)) at

pub last_there : {X : Type 0} (xs : List X) → xs ≢ [] → (x : X) × (slice_get xs (length xs - 1) ≡ Some x)
last_there [] some = absurd (some refl)
last_there (x ∷ []) some = (x, refl)
last_there (x ∷ y ∷ xs) some =
    let r = last_there (y ∷ xs) (λ e. cc) in
    let place : length (x ∷ y ∷ xs) - 1 ≡ suc (length (y ∷ xs) - 1) = omega arith in
    (r.0, ap (slice_get (x ∷ y ∷ xs)) place ∙ r.1)

-- Locks and their texts.
use Rattle.std.proofs.Common.{◌≡◌, ◌↔◌, ◌∙◌, ℕ, List, [], ◌∷◌, ◌++◌, Some, Bool, true, false, map, ◌<◌, length, refl}
use Rattle.std.proofs.{Common.{sym, ap}, lemmas.List.{map-append}, lemmas.Option.{slice_get-map, slice_get_within}}
use Rattle.std.specs.{Prelude.{slice_get, if◌then◌else◌, option_map}, List.{list_any}}
use Rattle.serde_json.specs.Written.{compact_text}
use Rattle.sect_front.specs.TreeView.{TreeView}
use Rattle.sect_lemmas.specs.Lists.{Has}
use Rattle.sect_lemmas.proofs.Finding.{any_tells}
use Rattle.sect_names.specs.{declared.lock.Lock.{Lock}, contracts.lock.LockPartialEq.TheImpl.{ghosts as the_lock_eq}}
use Rattle.sect_names.proofs.shared.Telling.{lock_tells}
use Rattle.sect_json.specs.Locks.{lock_json}

-- a lock that isn't there comes last
pub put_last : (keys : List Lock) (l : Lock) → (Has keys l → ⊥)
    → (if list_any (the_lock_eq.eq l) keys then keys else keys ++ l ∷ []) ≡ keys ++ l ∷ []
put_last keys l absent = go (list_any (the_lock_eq.eq l) keys) (any_tells the_lock_eq.eq lock_tells keys l)
  where
    go : (b : Bool) → ((b ≡ true) ↔ Has keys l) → (if b then keys else keys ++ l ∷ []) ≡ keys ++ l ∷ []
    go true tells = absurd (absent (tells.0 refl))
    go false tells = refl

-- one lock more, with its text
pub one_more_text : (t : TreeView) (keys more_keys : List Lock) (texts more : List (List ℕ)) (l : Lock) (text : List ℕ)
    → texts ≡ map (λ k. compact_text (lock_json t k)) keys → more_keys ≡ keys ++ l ∷ [] → more ≡ texts ++ text ∷ []
    → text ≡ compact_text (lock_json t l) → more ≡ map (λ k. compact_text (lock_json t k)) more_keys
one_more_text t keys more_keys texts more l text had with_lock with_text is =
    let of = λ (k : Lock). compact_text (lock_json t k) in
    with_text ∙ (ap (λ r. r ++ text ∷ []) had ∙ (ap (λ r. map of keys ++ r ∷ []) is
    ∙ (sym (map-append of keys (l ∷ [])) ∙ ap (map of) (sym with_lock))))

-- the text of a lock by its number
pub text_told : (t : TreeView) (keys : List Lock) (texts : List (List ℕ)) (n : ℕ) (l : Lock)
    → texts ≡ map (λ k. compact_text (lock_json t k)) keys → slice_get keys n ≡ Some l
    → slice_get texts n ≡ Some (compact_text (lock_json t l))
text_told t keys texts n l told at =
    let of = λ (k : Lock). compact_text (lock_json t k) in
    ap (λ ts. slice_get ts n) told ∙ (slice_get-map of keys n ∙ ap (option_map of) at)

-- the number is one of theirs
pub text_within : (t : TreeView) (keys : List Lock) (texts : List (List ℕ)) (n : ℕ) (l : Lock)
    → texts ≡ map (λ k. compact_text (lock_json t k)) keys → slice_get keys n ≡ Some l → n < length texts
text_within t keys texts n l told at =
    slice_get_within texts n (compact_text (lock_json t l)) (text_told t keys texts n l told at)

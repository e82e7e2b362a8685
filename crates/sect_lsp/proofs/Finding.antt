-- The first place of a word.
use Rattle.std.proofs.Common.{◌≡◌, ℕ, ◌+◌, ◌<◌, List, ◌∷◌, length, drop, get_or, Option, Some, None, false, cond}
use Rattle.std.proofs.{Common.{nat_eq, refl, sym, ap, subst, ◌∙◌, add-one, arith}, Math.Seq.{drop-cons}}
use Rattle.std.specs.{Prelude.{option_map}, List.{starts_with}}
use Rattle.sect_lsp.specs.Framing.{place_of}

-- one place counted before, and one behind
one_more : (at : ℕ) (o : Option ℕ)
    → option_map (λ n. at + n) (option_map (λ n. n + 1) o) ≡ option_map (λ n. at + 1 + n) o
one_more at None = refl
one_more at (Some n) = let e : at + (n + 1) ≡ at + 1 + n = omega arith in ap Some e

-- where the word doesn't stand at the front, its first place is one behind the front
pub place_next : (word bytes : List ℕ) (at : ℕ) → at < length bytes → starts_with nat_eq (drop at bytes) word ≡ false
    → option_map (λ n. at + n) (place_of word (drop at bytes))
    ≡ option_map (λ n. at + 1 + n) (place_of word (drop (at + 1) bytes))
place_next word bytes at within not_here =
    let split : drop at bytes ≡ get_or bytes at 0 ∷ drop (at + 1) bytes = rw (add-one, drop-cons bytes at 0) refl in
    let here : starts_with nat_eq (get_or bytes at 0 ∷ drop (at + 1) bytes) word ≡ false =
    subst (λ (bs : List ℕ). starts_with nat_eq bs word ≡ false) split not_here in
    subst (λ (bs : List ℕ). option_map (λ n. at + n) (place_of word bs)
    ≡ option_map (λ n. at + 1 + n) (place_of word (drop (at + 1) bytes))) (sym split)
    (ap (λ b. option_map (λ n. at + n)
    (cond b (Some 0) (option_map (λ n. n + 1) (place_of word (drop (at + 1) bytes))))) here
    ∙ one_more at (place_of word (drop (at + 1) bytes)))

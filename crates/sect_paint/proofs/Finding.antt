-- A search for words in a line.
use Rattle.std.proofs.Common.{◌≡◌, ◌∙◌, ℕ, ◌+◌, ◌<◌, false, List, Some, length, drop, get_or, ap, sym, nat_eq}
use Rattle.std.proofs.lemmas.List.{drop_more}
use Rattle.std.specs.{Prelude.{if◌then◌else◌}, List.{starts_with}}
use Rattle.sect_paint.specs.Looks.{found}

-- where they don't stand at a place, it goes on behind that
pub found_behind : (words line : List ℕ) (n : ℕ) → n < length line → starts_with nat_eq (drop n line) words ≡ false
    → found words (n + 1) (drop (n + 1) line) ≡ found words n (drop n line)
found_behind words line n within none =
    let next = drop_more line n 0 within in
    sym (ap (found words n) next
    ∙ ap (λ b. if b then Some n else found words (n + 1) (drop (n + 1) line))
    (ap (λ l. starts_with nat_eq l words) (sym next) ∙ none))

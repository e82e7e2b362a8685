-- Words that are read one by one.
use Rattle.std.proofs.Common.{◌≡◌, ◌<◌, ℕ, List, [], ◌∷◌, ◌++◌, length, take, drop, ap, subst, ◌∙◌}
use Rattle.sect_front.specs.Gaps.{after_gap}
use Rattle.sect_editor.specs.{declared.words.Word.{Word}, Words.{word_of, word_length, Begins}}

-- one word more
pub begins_more : (bytes : List ℕ) (ws : List Word) (rest : List ℕ) (w : Word) → Begins bytes ws rest → 0 < length rest
    → w ≡ word_of (take (word_length rest) rest)
    → Begins bytes (ws ++ w ∷ []) (after_gap (drop (word_length rest) rest))
begins_more bytes [] rest w here some is = (
  subst (λ (r : List ℕ). 0 < length r) here some,
  is ∙ ap (λ (r : List ℕ). word_of (take (word_length r) r)) here,
  ap (λ (r : List ℕ). after_gap (drop (word_length r) r)) here,
)
begins_more bytes (v ∷ ws) rest w h some is =
    (h.0, h.1, begins_more (drop (word_length (after_gap bytes)) (after_gap bytes)) ws rest w h.2 some is)

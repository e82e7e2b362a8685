use Rattle.std.proofs.{Common.{◌≡◌, ◌∙◌, ℕ, Bool, true, false, not, List, refl, sym}, lemmas.Bool.{eqb-true}}
use Rattle.std.specs.Str.{bytes_eq}
use Rattle.sect_cert.proofs.{CutTexts.{same_bytes}, AgainLaws.{node_head}}
use Rattle.sect_cert.proofs.line.is_node.Goals as goal

same_word : (a b : List ℕ) → not (bytes_eq a b) ≡ false → a ≡ b
same_word a b h = go (bytes_eq a b) refl h
  where
    go : (t : Bool) → bytes_eq a b ≡ t → not t ≡ false → a ≡ b
    go true e h = same_bytes a b e
    go false e h = cc

pub returns-in-Some : goal.returns-in-Some
returns-in-Some c = λ same.
    node_head c.args.head.now c.of-words.result.0.now c.of-words.result.1 c.in-Some.found c.args.number
    c.of-words.ensures
    (same_word c.of-words.result.0.now c.as_slice.result.now (sym c.ne.ensures ∙ c.if-ne.false) ∙ c.as_slice.ensures)
    (sym c.in-Some.ensures) (eqb-true _ _ same)

use Rattle.std.proofs.Common.{◌≡◌, ◌<◌, List, ℕ, length, take, drop, sym, ap, subst, ◌∙◌, arith, length-drop}
use Rattle.sect_front.specs.Gaps.{after_gap}
use Rattle.sect_front.proofs.shared.Lexings.{gap_fits}
use Rattle.sect_editor.specs.{declared.words.Word.{Word}, Words.{word_of, word_length, Begins}}
use Rattle.sect_editor.proofs.Wording.{begins_more}
use Rattle.sect_editor.proofs.words.words_of.Goals as goal

pub loop-rest-smaller : goal.loop-rest-smaller
loop-rest-smaller c =
    let rest = c.loop-rest.rest.now in
    let n = c.word_length.result in
    let next : c.after_gap-rest-in-loop-rest.result.now ≡ after_gap (drop n rest) =
    c.after_gap-rest-in-loop-rest.ensures ∙ ap after_gap c.split_at.ensures.back in
    omega (
      arith,
      ap length next,
      gap_fits (drop n rest),
      length-drop n rest,
      c.word_length.ensures.some,
      c.word_length.ensures.within,
    )

pub loop-rest-preserved : goal.loop-rest-preserved
loop-rest-preserved c =
    let bytes = c.args.bytes.now in
    let rest = c.loop-rest.rest.now in
    let words = c.loop-rest.words.items in
    let w = c.word_of.result in
    let n : c.word_length.result ≡ word_length rest = c.word_length.ensures.length in
    let some : 0 < length rest = omega (arith, c.word_length.ensures.some, c.word_length.ensures.within) in
    let is : w ≡ word_of (take (word_length rest) rest) =
    c.word_of.ensures ∙ ap word_of c.split_at.ensures.front ∙ ap (λ k. word_of (take k rest)) n in
    let next : c.after_gap-rest-in-loop-rest.result.now ≡ after_gap (drop (word_length rest) rest) =
    c.after_gap-rest-in-loop-rest.ensures ∙ ap after_gap c.split_at.ensures.back
    ∙ ap (λ k. after_gap (drop k rest)) n in
    subst (λ (r : List ℕ). Begins bytes c.push.new.self.items r) (sym next)
    (subst (λ (ws : List Word). Begins bytes ws (after_gap (drop (word_length rest) rest)))
    (sym c.in_ok-push.ensures.items) (begins_more bytes words rest w c.loop-rest.invariant some is))

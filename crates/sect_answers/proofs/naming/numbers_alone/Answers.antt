use Rattle.std.proofs.Common.{◌≡◌, ◌∙◌, arith, sym}
use Rattle.sect_answers.proofs.Wording.{zipped_more}
use Rattle.sect_answers.specs.declared.naming.ThreadWord.TheVariants as word
use Rattle.sect_answers.proofs.naming.numbers_alone.Goals as goal

pub loop-word-preserved : goal.loop-word-preserved
loop-word-preserved c =
    rw c.in_ok-push-in-Number.ensures.items (zipped_more (λ w n. w ≡ word.Number n) c.args.words.now
    c.loop-word.word-index c.word-item.result c.loop-word.numbers.items _ (omega arith) c.loop-word.invariant
    (sym c.word-item.is ∙ c.in-Number.is))

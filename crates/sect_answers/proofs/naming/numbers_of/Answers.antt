use Rattle.std.proofs.Common.{◌≡◌, Some, arith, subst}
use Rattle.sect_lemmas.proofs.Results.{given}
use Rattle.sect_answers.specs.Naming.{IsUnknown, IsUnknownOf, thread_of}
use Rattle.sect_answers.proofs.Wording.{unknown_among, zipped_more}
use Rattle.sect_answers.proofs.naming.numbers_of.Goals as goal

pub loop-word-preserved : goal.loop-word-preserved
loop-word-preserved c =
    let threads = c.args.threads.now in
    rw c.in_ok-push.ensures.items (zipped_more (λ w n. thread_of threads w ≡ Some n) c.args.words.now
    c.loop-word.word-index c.word-item.result c.loop-word.numbers.items _ (omega arith) c.loop-word.invariant
    (subst (λ w. thread_of threads w ≡ Some c.in_ok-number_of.field-0) c.word-item.is
    c.in_ok-number_of.ensures.answers))

pub returns-in_err-number_of-clause-refuses : goal.returns-in_err-number_of-clause-refuses
returns-in_err-number_of-clause-refuses c =
    let threads = c.args.threads.now in
    let words = c.args.words.now in
    let why = c.in_err-number_of.field-0.0 in
    given c.from_residual-in_err-number_of.result (IsUnknown threads words) why
    (unknown_among threads words c.loop-word.word-index c.word-item.result why (omega arith)
    (subst (λ w. IsUnknownOf threads w why) c.word-item.is c.in_err-number_of.ensures.refuses))
    c.from_residual-in_err-number_of.ensures.1

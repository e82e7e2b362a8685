use Rattle.std.proofs.Common.{◌≡◌, Ok, ap, sym, ◌∙◌, subst}
use Rattle.std.specs.Prelude.{MatchResult, position}
use Rattle.sect_front.specs.declared.tree.Thread.{Thread}
use Rattle.sect_types.specs.Sight.{same_name}
use Rattle.sect_asking.specs.Meaning.{named, thread_meant, IsAnswer}
use Rattle.sect_asking.proofs.resolving.thread_number.Goals as goal

pub returns-in-Named : goal.returns-in-Named
returns-in-Named c =
    let word = c.in-Named.word in
    subst (λ t. MatchResult c.number_at.result (λ n. thread_meant c.args.program.now t ≡ Ok n)
    (IsAnswer (thread_meant c.args.program.now t))) (sym c.in-Named.is)
    (subst (λ o. MatchResult c.number_at.result (λ n. named word o ≡ Ok n) (IsAnswer (named word o)))
    (c.place_of_thread-place.ensures.place
    ∙ ap (position (λ (t : Thread). same_name word.name t.name))
    (c.threads.ensures ∙ ap (λ t. t.threads) c.tree.ensures.tree)) c.number_at.ensures)

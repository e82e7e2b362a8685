use Rattle.std.proofs.Common.{◌<◌, ◌-◌, ◌∙◌, ◌++◌, ◌∷◌, [], get_or, length, ap, subst, sym, arith}
use Rattle.std.proofs.lemmas.{List.{length-map}, Option.{slice_get-get_or}, Result.{on_ok_weaker}}
use Rattle.std.specs.List.{AllByRecursion}
use Rattle.sect_infer.specs.Numberings.{lock_at}
use Rattle.sect_cert.specs.{declared.certificate.CertStep.{CertStep}, Texts.{IsStep}}
use Rattle.sect_chains.specs.{declared.numbered.NumberedStep.{NumberedStep}, Numbered.{step_link, links_by}}
use Rattle.sect_emit.proofs.{Spelling.{next_step, step_again, all_more}, Stepping.{linked_at}}
use Rattle.sect_emit.proofs.words.next_step.Goals as goal

pub returns-then-chain-index-clause-words : goal.returns-then-chain-index-clause-words
returns-then-chain-index-clause-words c =
    let steps = c.args.chain.steps.now in
    let keys = c.args.chain.chains.now.keys in
    let links = links_by keys steps in
    let i = c.args.index in
    let none : NumberedStep = record { node = 0; number = 0 } in
    let was = get_or steps (i - 1) none in
    let x = get_or steps i none in
    let old = c.args.steps.now in
    let there : i < length links = omega (arith, c.requires.there, length-map steps (step_link keys)) in
    let before : i - 1 < length steps = omega (arith, c.requires.there) in
    on_ok_weaker c.step_again.result (λ again. step_again c.args.program.now.source links i (step_link keys was)
    (step_link keys x) old c.step_again.new.steps c.if-index-gt0.true there
    (linked_at keys steps (i - 1) was (slice_get-get_or steps (i - 1) none before))
    (linked_at keys steps i x (slice_get-get_or steps i none c.requires.there))
    (ap (lock_at keys) c.if-chain-index.true) c.requires.words
    (λ y at. again y at ∙ ap (λ n. old ++ record { node = n; lock = y.lock } ∷ []) c.from.ensures))
    c.step_again.ensures.words

pub returns : goal.returns
returns c =
    let steps = c.args.chain.steps.now in
    let keys = c.args.chain.chains.now.keys in
    let links = links_by keys steps in
    let i = c.args.index in
    let none : NumberedStep = record { node = 0; number = 0 } in
    let x = get_or steps i none in
    let old = c.args.steps.now in
    let there : i < length links = omega (arith, c.requires.there, length-map steps (step_link keys)) in
    let at = linked_at keys steps i x (slice_get-get_or steps i none c.requires.there) in record {
      known = on_ok_weaker c.push.result (λ is. c.in_ok-step.ensures.known) c.push.ensures;
      words = on_ok_weaker c.push.result (λ is. next_step c.args.program.now.source links i (step_link keys x) old
          c.push.new.self there at c.requires.words
          (is ∙ ap (λ (y : CertStep). old ++ y ∷ []) (c.in_ok-step.ensures.words (step_link keys x) at)))
          c.push.ensures;
      good = on_ok_weaker c.push.result (λ is. subst (AllByRecursion IsStep) (sym is)
          (all_more IsStep old c.in_ok-step.step c.requires.good c.in_ok-step.ensures.good)) c.push.ensures;
    }

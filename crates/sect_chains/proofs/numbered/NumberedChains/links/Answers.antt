use Rattle.std.proofs.Common.{◌≡◌, ◌<◌, length, get_or, sym, ap, ◌∙◌, arith}
use Rattle.std.proofs.lemmas.{List.{get_or_default}, Option.{get_or_from_slice_get}}
use Rattle.sect_lemmas.proofs.Membership.{Has-get_or}
use Rattle.sect_names.specs.Chains.{link}
use Rattle.sect_chains.specs.{declared.numbered.NumberedStep.{NumberedStep}, Numbered.{step_link}}
use Rattle.sect_chains.proofs.Linking.{made_more}
use Rattle.sect_names.specs.declared.lock.Lock.TheVariants as lock
use Rattle.sect_chains.proofs.numbered.NumberedChains.links.Goals as goal

pub lock-requires : goal.lock-requires
lock-requires c =
    let steps = c.args.steps.now in
    let i = c.loop-step.step-index in
    let none : NumberedStep = record { node = 0; number = 0 } in
    c.requires (get_or steps i none) (Has-get_or steps i none (omega (arith, c.loop-step-test.true)))

pub loop-step-preserved : goal.loop-step-preserved
loop-step-preserved c =
    let keys = c.args.self.now.keys in
    let steps = c.args.steps.now in
    let i = c.loop-step.step-index in
    let none : NumberedStep = record { node = 0; number = 0 } in
    let x = get_or steps i none in
    let within : i < length steps = omega (arith, c.loop-step-test.true) in
    let made = link c.from.result c.in_ok-try_clone.field-0 in
    let here : made ≡ step_link keys x = rw (c.in_ok-try_clone.ensures, c.from.ensures) (ap (link x.node)
    (sym (get_or_from_slice_get keys x.number c.lock.result.now lock.All c.lock.ensures))) in
    c.in_ok-push.ensures.items ∙ made_more (step_link keys) steps i x c.loop-step.links.items made within
    (get_or_default steps i none x within) c.loop-step.invariant here

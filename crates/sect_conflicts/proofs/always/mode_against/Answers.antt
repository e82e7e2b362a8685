use Rattle.std.proofs.Common.{◌≡◌, ◌<◌, ◌∙◌, length, get_or, false, arith, sym, subst, true≢false}
use Rattle.sect_lemmas.specs.Lists.{Has}
use Rattle.sect_lemmas.proofs.Membership.{Has-get_or}
use Rattle.sect_modes.specs.{declared.mode.Mode.TheVariants.{IntentionShared}, Mode.{are_compatible}}
use Rattle.sect_emit.specs.{declared.plan.Grip.{Grip}, Plan.{grip}}
use Rattle.sect_conflicts.proofs.Firsts.{clash_tells, tells_clash}
use Rattle.sect_conflicts.proofs.shared.Selecting.{more_at}
use Rattle.sect_modes.specs.declared.key.Key.TheVariants as key
use Rattle.sect_conflicts.proofs.always.mode_against.Goals as goal

pub returns-then-clashes-clause-some : goal.returns-then-clashes-clause-some
returns-then-clashes-clause-some c =
    let others = c.args.others.now in
    let i = c.loop-other.other-index in
    let within : i < length others = omega arith in
    let g = get_or others i (grip key.All IntentionShared) in
    let t = clash_tells c.args.wish g (sym c.clashes.ensures ∙ c.if-clashes.true) in
    (subst (λ k. Has others (grip k g.mode)) (sym t.0) (Has-get_or others i (grip key.All IntentionShared) within), t.1)

pub loop-other-preserved : goal.loop-other-preserved
loop-other-preserved c =
    let others = c.args.others.now in
    let i = c.loop-other.other-index in
    let within : i < length others = omega arith in
    let g = get_or others i (grip key.All IntentionShared) in
    more_at (λ (y : Grip). c.args.wish.key ≡ y.key → are_compatible c.args.wish.mode y.mode ≡ false → ⊥) others i
    (grip key.All IntentionShared) within c.loop-other.invariant
    (λ same apart. true≢false (sym (tells_clash c.args.wish g same apart) ∙ sym c.clashes.ensures ∙ c.if-clashes.false))

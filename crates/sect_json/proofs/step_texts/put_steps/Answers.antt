use Rattle.std.proofs.Common.{sym, subst, arith}
use Rattle.sect_lemmas.specs.Lists.{Has}
use Rattle.sect_lemmas.proofs.Membership.{Has-get_or}
use Rattle.sect_json.specs.Explaining.{step_json}
use Rattle.sect_json.proofs.Texts.{list_closed}
use Rattle.sect_json.proofs.step_texts.put_steps.Goals as goal

pub put_step-requires-clause-named : goal.put_step-requires-clause-named
put_step-requires-clause-named c =
    let x = c.index-links-index.result in
    c.requires.named.1 x (subst (Has c.args.links.now) (sym c.index-links-index.is)
    (Has-get_or c.args.links.now c.loop-index.index x (omega (arith, c.loop-index-test.true))))

pub put_step-requires-clause-there : goal.put_step-requires-clause-there
put_step-requires-clause-there c =
    let x = c.index-links-index.result in
    c.requires.there x (subst (Has c.args.links.now) (sym c.index-links-index.is)
    (Has-get_or c.args.links.now c.loop-index.index x (omega (arith, c.loop-index-test.true))))

pub returns-clause-text : goal.returns-clause-text
returns-clause-text c =
    list_closed (step_json c.args.of.compiled.now c.args.of.section) c.args.links.now c.loop-index.index _ _ _ _
    (omega arith) c.in_ok-push.ensures.items c.loop-index.invariant.added c.in_ok-push-2.ensures.items

use Rattle.std.proofs.Common.{sym, subst, arith}
use Rattle.sect_lemmas.specs.Lists.{Has}
use Rattle.sect_lemmas.proofs.Membership.{Has-get_or}
use Rattle.sect_json.specs.Explaining.{step_json}
use Rattle.sect_json.proofs.Rows.{map_all}
use Rattle.sect_json.proofs.explaining.steps_value.Goals as goal

pub step_value-requires-clause-named : goal.step_value-requires-clause-named
step_value-requires-clause-named c =
    let links = c.args.links.now in
    let x = c.link-item.result in
    c.requires.named x
    (subst (Has links) (sym c.link-item.is) (Has-get_or links c.loop-link.link-index x c.loop-link-test.true))

pub returns : goal.returns
returns c =
    map_all (step_json c.args.compiled.now c.args.section) c.args.links.now c.loop-link.link-index c.loop-link.values
    (omega arith) c.loop-link.invariant

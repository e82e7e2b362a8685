use Rattle.sect_types.proofs.Fronts.{variable_more, variables_all}
use Rattle.sect_types.proofs.expansion.expand.put_variables.Goals as goal

pub loop-declared-preserved : goal.loop-declared-preserved
loop-declared-preserved c =
    variable_more c.args.call c.args.variables.now c.loop-declared.declared-index c.declared-item.result
    c.args.out.now.items c.loop-declared.out.items c.push.new.self.items c.loop-declared-test.true c.declared-item.is
    c.loop-declared.invariant c.in_ok-push.ensures.items

pub returns : goal.returns
returns c =
    variables_all c.args.call c.args.variables.now c.loop-declared.declared-index c.args.out.now.items
    c.loop-declared.out.items c.loop-declared-test.false c.loop-declared.invariant

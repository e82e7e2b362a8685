use Rattle.std.proofs.Common.{sym, ◌∙◌}
use Rattle.sect_types.specs.Items.{TestHead, AStatement}
use Rattle.sect_types.specs.steps.Standing.{declared_by}
use Rattle.sect_types.proofs.Heads.{test_rule, faulty}
use Rattle.sect_types.proofs.rules.walk.pass_test.Goals as goal

pub returns-in-Err : goal.returns-in-Err
returns-in-Err c =
    faulty (declared_by c.args.scope.now c.args.standing.now.procedures) c.args.spot.now
    (AStatement (TestHead c.args.test.now) c.args.scope.now.locals c.args.standing.now.at)
    _ _ (test_rule c.args.scope.now c.args.standing.now.procedures c.args.spot.now c.args.standing.now.at
    c.args.test.now ∙ sym c.in-Err.ensures.rule) c.item.ensures

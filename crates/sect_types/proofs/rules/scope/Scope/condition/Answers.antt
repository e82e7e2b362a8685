use Rattle.std.proofs.Common.{arith, sym, ◌∙◌}
use Rattle.std.specs.Prelude.{◌-◌}
use Rattle.sect_types.proofs.Below.{condition_below}
use Rattle.sect_types.proofs.rules.scope.Scope.condition.Goals as goal

pub moved_condition-requires : goal.moved_condition-requires
moved_condition-requires c =
    condition_below c.args.self.now c.args.test.now c.in-Some.condition (65536 - c.args.first)
    (sym c.numbered_test.ensures ∙ c.in-Some.is) (omega (arith, c.requires.few))

use Rattle.std.proofs.Common.{arith, sym, ◌∙◌}
use Rattle.std.specs.Prelude.{◌-◌}
use Rattle.sect_types.proofs.Below.{action_below}
use Rattle.sect_types.proofs.rules.scope.Scope.action.Goals as goal

pub moved_action-requires : goal.moved_action-requires
moved_action-requires c =
    action_below c.args.self.now c.args.site c.args.primitive.now c.in-Some.action (65536 - c.args.first)
    (sym c.numbered.ensures ∙ c.in-Some.is) (omega (arith, c.requires.few))

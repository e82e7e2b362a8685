use Rattle.std.proofs.Common.{arith, sym, ap, subst, ◌∙◌}
use Rattle.std.specs.Prelude.{◌-◌, option_map}
use Rattle.sect_types.specs.Numbered.{value_by}
use Rattle.sect_types.specs.steps.Below.{IsValueBelow}
use Rattle.sect_types.proofs.Below.{value_below}
use Rattle.sect_types.proofs.rules.scope.Scope.argument.Goals as goal

pub moved_value-requires : goal.moved_value-requires
moved_value-requires c =
    subst (IsValueBelow (65536 - c.args.first)) (sym c.value.ensures)
    (value_below c.args.self.now (65536 - c.args.first) c.args.operand.now (value_by c.in-Some.given)
    (omega (arith, c.requires.few)) (ap (option_map value_by) (sym c.operand.ensures ∙ c.in-Some.is)))

use Rattle.std.proofs.Common.{◌≡◌, List, drop}
use Rattle.sect_places.specs.{declared.name_use.NameUse.{NameUse}, NameUses.{argument_uses}}
use Rattle.sect_places.specs.steps.Wanting.{behind}
use Rattle.sect_places.proofs.uses.put_arguments.Given as goal

abbrev pub invariant-loop-number : goal.invariant-loop-number
invariant-loop-number l = (w : List NameUse)
    → behind l.out (argument_uses l.scope l.item l.number (drop l.number l.arguments) w)
    ≡ behind l.fn.out (argument_uses l.scope l.item 0 l.arguments w)

use Rattle.std.proofs.Common.{◌≡◌, List, drop}
use Rattle.sect_places.specs.{declared.name_use.NameUse.{NameUse}, NameUses.{hints_uses}}
use Rattle.sect_places.specs.steps.Wanting.{behind}
use Rattle.sect_places.proofs.uses.put_hints.Given as goal

abbrev pub invariant-loop-name : goal.invariant-loop-name
invariant-loop-name l = (w : List NameUse)
    → behind l.out (hints_uses l.item (drop l.name-index l.hints) w) ≡ behind l.fn.out (hints_uses l.item l.hints w)

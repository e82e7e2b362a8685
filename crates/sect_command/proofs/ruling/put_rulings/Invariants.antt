use Rattle.std.proofs.Common.{◌≡◌, ◌++◌}
use Rattle.sect_command.specs.Ruling.{rulings_to}
use Rattle.sect_command.proofs.ruling.put_rulings.Given as goal

abbrev pub invariant-loop-number : goal.invariant-loop-number
invariant-loop-number l =
    l.rulings.items ≡ l.fn.rulings.items ++ rulings_to l.level l.places l.named l.number

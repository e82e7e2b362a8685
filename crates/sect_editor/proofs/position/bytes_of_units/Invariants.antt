use Rattle.std.proofs.Common.{◌≡◌, ◌+◌, drop}
use Rattle.sect_editor.specs.Positions.{bytes_of_units}
use Rattle.sect_editor.proofs.position.bytes_of_units.Given as goal

-- the bytes so far have the units that are spent
abbrev pub invariant-loop-at : goal.invariant-loop-at
invariant-loop-at l =
    bytes_of_units l.encoding l.column l.line ≡ bytes_of_units l.encoding l.left (drop l.at l.line) + l.at

use Rattle.std.proofs.Common.{◌≡◌, ◌≤◌, ◌*◌, take, fold}
use Rattle.sect_editor.specs.Positions.{next_units}
use Rattle.sect_editor.proofs.position.units_before.Given as goal

abbrev pub invariant-loop-byte : goal.invariant-loop-byte
invariant-loop-byte l =
    (l.column ≡ fold (next_units l.encoding) 0 (take l.byte-index l.byte-items)) × (l.column ≤ 2 * l.byte-index)

use Rattle.std.proofs.Common.{◌≡◌, ◌≤◌, ◌+◌, take, fold}
use Rattle.sect_characters.specs.Characters.{next_column}
use Rattle.sect_characters.proofs.characters.character_column.Given as goal

abbrev pub invariant-loop-byte : goal.invariant-loop-byte
invariant-loop-byte l =
    (l.column ≡ fold next_column 1 (take l.byte-index l.byte-items)) × (l.column ≤ l.byte-index + 1)

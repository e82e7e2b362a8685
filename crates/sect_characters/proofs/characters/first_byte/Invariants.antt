use Rattle.std.proofs.Common.{◌≡◌, ◌≤◌}
use Rattle.sect_characters.specs.Characters.{first_byte as first_byte_by}
use Rattle.sect_characters.proofs.characters.first_byte.Given as goal

abbrev pub invariant-loop-first : goal.invariant-loop-first
invariant-loop-first l =
    (first_byte_by l.source l.first ≡ first_byte_by l.source l.at) × (l.first ≤ l.at)

abbrev pub decreases-loop-first : goal.decreases-loop-first
decreases-loop-first l = l.first

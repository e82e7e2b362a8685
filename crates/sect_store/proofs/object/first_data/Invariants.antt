-- What the loop keeps.
use Rattle.std.proofs.Common.{◌≡◌, ◌+◌, ◌-◌, ◌≤◌, ◌++◌, drop, map, length, vec_len, vec_capacity}
use Rattle.sect_types.specs.Meaning.{first_datum}
use Rattle.sect_store.proofs.object.first_data.Given as goal

abbrev pub invariant-loop-of : goal.invariant-loop-of
invariant-loop-of l =
    (l.all.items ++ map first_datum (drop l.of-index l.types) ≡ map first_datum l.types)
    × (vec_len l.all + (length l.types - l.of-index) ≤ vec_capacity l.all)

use Rattle.std.proofs.Common.{◌≡◌, map, take}
use Rattle.serde_json.specs.View.{view}
use Rattle.sect_json.specs.Conflicts.{path_pair_json}
use Rattle.sect_json.proofs.conflicts.path_pairs_value.Given as goal

abbrev pub invariant-loop-pair : goal.invariant-loop-pair
invariant-loop-pair l = map view l.values.items ≡ map (path_pair_json l.program.source) (take l.pair-index l.pairs)

use Rattle.std.proofs.Common.{◌≡◌, ◌++◌, map, take}
use Rattle.std.specs.List.{flat_map}
use Rattle.serde_json.specs.View.{view}
use Rattle.sect_json.specs.Compiling.{path_grips_json}
use Rattle.sect_json.proofs.compiling.put_path_grips.Given as goal

abbrev pub invariant-loop-lock : goal.invariant-loop-lock
invariant-loop-lock l =
    map view l.values.items
    ≡ map view l.fn.values.items ++ flat_map (path_grips_json l.program) (take l.lock-index l.locks)

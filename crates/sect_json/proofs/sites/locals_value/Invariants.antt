use Rattle.std.proofs.Common.{◌≡◌, map}
use Rattle.std.specs.List.{range_with_len}
use Rattle.serde_json.specs.View.{view}
use Rattle.sect_json.specs.Sites.{local_json}
use Rattle.sect_json.proofs.sites.locals_value.Given as goal

abbrev pub invariant-loop-local : goal.invariant-loop-local
invariant-loop-local l =
    map view l.values.items ≡ map (local_json l.of.compiled.now l.thread) (range_with_len 0 l.local)

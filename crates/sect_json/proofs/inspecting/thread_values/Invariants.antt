use Rattle.std.proofs.Common.{◌≡◌, map}
use Rattle.std.specs.List.{range_with_len}
use Rattle.serde_json.specs.View.{view}
use Rattle.sect_json.specs.Inspecting.{thread_json}
use Rattle.sect_json.proofs.inspecting.thread_values.Given as goal

abbrev pub invariant-loop-thread : goal.invariant-loop-thread
invariant-loop-thread l = map view l.values.items
    ≡ map (thread_json l.of.compiled.now l.of.source.now l.of.spans.now l.of.names.now) (range_with_len 0 l.thread)

use Rattle.std.proofs.Common.{◌≡◌, ◌++◌, map}
use Rattle.std.specs.List.{flat_map, range_with_len}
use Rattle.serde_json.specs.View.{view}
use Rattle.sect_json.specs.Sites.{sites_at}
use Rattle.sect_json.proofs.sites.put_section.Given as goal

abbrev pub invariant-loop-node : goal.invariant-loop-node
invariant-loop-node l =
    map view l.values.items ≡ map view l.fn.values.items
    ++ flat_map (sites_at l.of.compiled.now l.of.source.now l.of.spans.now.sections l.section) (range_with_len 0 l.node)

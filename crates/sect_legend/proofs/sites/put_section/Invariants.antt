use Rattle.std.proofs.Common.{◌≡◌, ◌++◌, map}
use Rattle.std.specs.{List.{flat_map, range_with_len}, String.{string_bytes}}
use Rattle.sect_legend.specs.Legend.{mark_of, sites_at}
use Rattle.sect_legend.proofs.sites.put_section.Given as goal

abbrev pub invariant-loop-node : goal.invariant-loop-node
invariant-loop-node l =
    map string_bytes l.names.items ≡ map string_bytes l.fn.names.items
    ++ flat_map (sites_at l.places.compiled.now (mark_of l.places) l.places.source.now l.places.spans.now.sections
    l.section) (range_with_len 0 l.node)

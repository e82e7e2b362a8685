use Rattle.std.proofs.Common.{◌≡◌, ◌++◌, map}
use Rattle.std.specs.List.{flat_map, range_with_len}
use Rattle.serde_json.specs.View.{view}
use Rattle.sect_emit.specs.Compiled.{program_of}
use Rattle.sect_json.specs.{Values.{by_place}, Sites.{global_json, section_sites}}
use Rattle.sect_json.proofs.sites.site_values.Given as goal

abbrev pub invariant-loop-section : goal.invariant-loop-section
invariant-loop-section l =
    map view l.values.items
    ≡ by_place (global_json l.of.compiled.now l.of.source.now l.of.names.now) 0
    (program_of l.of.compiled.now).source.globals
    ++ flat_map (section_sites l.of.compiled.now l.of.source.now l.of.spans.now.sections) (range_with_len 0 l.section)

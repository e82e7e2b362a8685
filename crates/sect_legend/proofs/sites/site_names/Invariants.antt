use Rattle.std.proofs.Common.{◌≡◌, ◌++◌, map}
use Rattle.std.specs.{List.{flat_map, range_with_len}, String.{string_bytes}}
use Rattle.sect_front.specs.declared.tree.GlobalObject.{GlobalObject}
use Rattle.sect_emit.specs.Compiled.{program_of}
use Rattle.sect_legend.specs.Legend.{mark_of, section_sites}
use Rattle.sect_legend.proofs.sites.site_names.Given as goal

abbrev pub invariant-loop-section : goal.invariant-loop-section
invariant-loop-section l =
    map string_bytes l.names.items
    ≡ map (λ (g : GlobalObject). g.name) (program_of l.places.compiled.now).source.globals
    ++ flat_map (section_sites l.places.compiled.now (mark_of l.places) l.places.source.now
    l.places.spans.now.sections) (range_with_len 0 l.section)

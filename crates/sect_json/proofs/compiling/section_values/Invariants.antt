use Rattle.std.proofs.Common.{◌≡◌, map}
use Rattle.std.specs.List.{range_with_len}
use Rattle.serde_json.specs.View.{view}
use Rattle.sect_json.specs.Compiling.{section_json}
use Rattle.sect_json.proofs.compiling.section_values.Given as goal

abbrev pub invariant-loop-section : goal.invariant-loop-section
invariant-loop-section l = map view l.values.items ≡ map (section_json l.compiled) (range_with_len 0 l.section)

use Rattle.std.proofs.Common.{◌≡◌, ◌++◌, map, drop}
use Rattle.serde_json.specs.View.{view}
use Rattle.sect_json.specs.{Values.{by_place}, Locks.{section_json}}
use Rattle.sect_json.proofs.locks.section_values.Given as goal

abbrev pub invariant-loop-section : goal.invariant-loop-section
invariant-loop-section l = record {
  added : map view l.values.items
      ++ by_place (section_json l.compiled.scheme.program.source) l.section (drop l.section l.compiled.sets)
      ≡ by_place (section_json l.compiled.scheme.program.source) 0 l.compiled.sets;
}

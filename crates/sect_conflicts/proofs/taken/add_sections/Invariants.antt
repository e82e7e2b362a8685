use Rattle.std.proofs.Common.{◌≡◌, ◌++◌, drop}
use Rattle.std.specs.List.{flat_map}
use Rattle.sect_conflicts.specs.steps.Taking.{section_fields}
use Rattle.sect_conflicts.proofs.taken.add_sections.Given as goal

abbrev pub invariant-loop-keys : goal.invariant-loop-keys
invariant-loop-keys l = record {
  added : l.fields.items ++ flat_map section_fields (drop l.keys-index l.sections) ≡ l.fn.fields.items
      ++ flat_map section_fields l.sections;
}

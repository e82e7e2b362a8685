use Rattle.std.proofs.Common.{◌≡◌, ◌++◌, drop}
use Rattle.std.specs.{String.{string_bytes}, List.{flat_map}}
use Rattle.sect_c.specs.Sections.{look_c}
use Rattle.sect_c.proofs.sections.put_looks.Given as goal

abbrev pub invariant-loop-lock : goal.invariant-loop-lock
invariant-loop-lock l = record {
  added : string_bytes l.text ++ flat_map (look_c l.program) (drop l.lock-index l.paths) ≡ string_bytes l.fn.text
      ++ flat_map (look_c l.program) l.paths;
}

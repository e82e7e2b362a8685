use Rattle.std.proofs.Common.{◌≡◌, ◌++◌, drop}
use Rattle.std.specs.{String.{string_bytes}, List.{flat_map}}
use Rattle.sect_c.specs.Declarations.{grip_c}
use Rattle.sect_c.proofs.declarations.put_grips.Given as goal

abbrev pub invariant-loop-grip : goal.invariant-loop-grip
invariant-loop-grip l = record {
  added : string_bytes l.text ++ flat_map (grip_c) (drop l.grip-index l.part) ≡ string_bytes l.fn.text
      ++ flat_map (grip_c) l.part;
}

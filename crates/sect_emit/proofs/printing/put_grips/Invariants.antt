use Rattle.std.proofs.Common.{◌≡◌, ◌++◌, drop}
use Rattle.std.specs.{String.{string_bytes}, List.{flat_map}}
use Rattle.sect_emit.specs.Listing.{grip_line}
use Rattle.sect_emit.proofs.printing.put_grips.Given as goal

abbrev pub invariant-loop-grip : goal.invariant-loop-grip
invariant-loop-grip l = record {
  added : string_bytes l.text ++ flat_map grip_line (drop l.grip-index l.grips) ≡ string_bytes l.fn.text
      ++ flat_map grip_line l.grips;
}

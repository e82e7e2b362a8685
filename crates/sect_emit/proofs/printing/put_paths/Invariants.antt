use Rattle.std.proofs.Common.{◌≡◌, ◌++◌, drop}
use Rattle.std.specs.{String.{string_bytes}, List.{flat_map}}
use Rattle.sect_emit.specs.Listing.{path_line}
use Rattle.sect_emit.proofs.printing.put_paths.Given as goal

abbrev pub invariant-loop-lock : goal.invariant-loop-lock
invariant-loop-lock l = record {
  added : string_bytes l.text ++ flat_map (path_line l.program.source) (drop l.lock-index l.locks) ≡ string_bytes
      l.fn.text ++ flat_map (path_line l.program.source) l.locks;
}

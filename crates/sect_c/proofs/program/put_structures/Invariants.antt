use Rattle.std.proofs.Common.{◌≡◌, ◌++◌, drop}
use Rattle.std.specs.String.{string_bytes}
use Rattle.sect_emit.specs.Listing.{by_number}
use Rattle.sect_c.specs.Declarations.{structure_c}
use Rattle.sect_c.proofs.program.put_structures.Given as goal

abbrev pub invariant-loop-of : goal.invariant-loop-of
invariant-loop-of l = (let line = structure_c l.context.program.now l.context.looked.now in string_bytes l.text
    ++ by_number line l.of (drop l.of l.context.program.now.records) ≡ string_bytes l.fn.text ++ by_number line 0 l.context.program.now.records)

use Rattle.std.proofs.Common.{◌≡◌, ◌++◌, drop}
use Rattle.std.specs.String.{string_bytes}
use Rattle.sect_emit.specs.Listing.{by_number}
use Rattle.sect_c.specs.Declarations.{case_c}
use Rattle.sect_c.proofs.program.put_cases.Given as goal

abbrev pub invariant-loop-of : goal.invariant-loop-of
invariant-loop-of l = (let line = case_c l.context.program.now l.context.looked.now in string_bytes l.text
    ++ by_number line l.of (drop l.of l.context.program.now.records) ≡ string_bytes l.fn.text ++ by_number line 0 l.context.program.now.records)

use Rattle.std.proofs.Common.{◌≡◌, ◌++◌, drop}
use Rattle.std.specs.String.{string_bytes}
use Rattle.sect_emit.specs.Listing.{by_number}
use Rattle.sect_c.specs.Declarations.{plan_c}
use Rattle.sect_c.proofs.program.put_plans.Given as goal

abbrev pub invariant-loop-section : goal.invariant-loop-section
invariant-loop-section l = (let line = plan_c in string_bytes l.text
    ++ by_number line l.section (drop l.section l.emitted.taken.now.parts) ≡ string_bytes l.fn.text ++ by_number line 0 l.emitted.taken.now.parts)

use Rattle.std.proofs.Common.{◌≡◌, ◌++◌, drop}
use Rattle.sect_types.specs.Expanded.{of_call}
use Rattle.sect_types.proofs.expansion.expand.put_variables.Given as goal

abbrev pub invariant-loop-declared : goal.invariant-loop-declared
invariant-loop-declared l = l.out.items ++ of_call l.call (drop l.declared-index l.variables) ≡ l.fn.out.items
    ++ of_call l.call l.variables

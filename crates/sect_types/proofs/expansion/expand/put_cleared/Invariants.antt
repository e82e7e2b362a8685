use Rattle.std.proofs.Common.{◌≡◌, ◌+◌, drop}
use Rattle.sect_types.specs.Statements.{TextView, joined}
use Rattle.sect_types.specs.steps.Written.{write_locals}
use Rattle.sect_types.proofs.expansion.expand.put_cleared.Given as goal

abbrev pub invariant-loop-place : goal.invariant-loop-place
invariant-loop-place l = (k : TextView)
    → joined l.out (write_locals (l.fresh + l.place) (drop l.place l.list) k) ≡ joined l.fn.out
    (write_locals l.fresh l.list k)

use Rattle.std.proofs.Common.{◌≡◌, ◌+◌, drop}
use Rattle.sect_types.specs.Statements.{TextView, joined}
use Rattle.sect_types.specs.steps.{Written.{write_parameters}, Inside.{scene_in}}
use Rattle.sect_types.proofs.expansion.expand.put_parameters.Given as goal

abbrev pub invariant-loop-place : goal.invariant-loop-place
invariant-loop-place l = (k : TextView)
    → joined l.out (write_parameters (scene_in l.inside) (l.fresh + l.place) (drop l.place l.parameters)
    (drop l.place l.operands) k)
    ≡ joined l.fn.out (write_parameters (scene_in l.inside) l.fresh l.parameters l.operands k)

-- Two locals at points are one exactly if they are equal.
use Rattle.std.proofs.Common.{◌≡◌, rules}
use Rattle.std.specs.Bool.{Decides}
use Rattle.sect_flows.specs.declared.point.LocalAt.{LocalAt}
use Rattle.sect_flows.specs.contracts.point.LocalAtPartialEq.TheImpl.{ghosts as the_local_eq}

pub local_tells : (h k : LocalAt) → Decides (the_local_eq.eq h k) (h ≡ k)
local_tells h k = search rules

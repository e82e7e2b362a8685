use Rattle.std.proofs.Common.{length, ap, arith}
use Rattle.sect_check.proofs.Claimed.{length_linked}
use Rattle.sect_check.proofs.claimed_links.ClaimedLinks.len.Goals as goal

pub returns : goal.returns
returns c = omega (
  arith,
  c.len.ensures,
  c.self.inside.nodes.ok.0,
  ap length c.self.view_is,
  length_linked c.self.inside.nodes.items c.self.inside.locks c.self.invariant,
)

use Rattle.std.proofs.Common.{length, ap, arith}
use Rattle.sect_cert.proofs.SteppingLemmas.{length_stepped}
use Rattle.sect_cert.proofs.chain_steps.ChainSteps.len.Goals as goal

pub returns : goal.returns
returns c = omega (
  arith,
  c.len.ensures,
  c.self.inside.nodes.ok.0,
  ap length c.self.view_is,
  length_stepped c.self.inside.nodes.items c.self.inside.locks c.self.invariant,
)

use Rattle.std.proofs.Common.{length, ap, arith}
use Rattle.sect_cert.proofs.RunsLemmas.{length_numbered}
use Rattle.sect_cert.proofs.runs.Runs.len.Goals as goal

pub returns : goal.returns
returns g c = let h = c.len.ensures in omega (
  arith,
  c.self.inside.numbers.ok.0,
  ap length c.self.view_is,
  length_numbered c.self.inside.kept.items c.self.inside.numbers.items c.self.invariant,
)

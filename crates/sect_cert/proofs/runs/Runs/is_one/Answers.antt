use Rattle.std.proofs.Common.{length, ap, arith}
use Rattle.sect_cert.proofs.RunsLemmas.{length_numbered, one_run}
use Rattle.sect_cert.proofs.runs.Runs.is_one.Goals as goal

pub index-requires : goal.index-requires
index-requires g c = omega (
  arith,
  c.self.inside.numbers.ok.0,
  ap length c.self.view_is,
  length_numbered c.self.inside.kept.items c.self.inside.numbers.items c.self.invariant,
)

pub index-requires-2 : goal.index-requires-2
index-requires-2 g c = omega (
  arith,
  c.self.inside.numbers.ok.0,
  ap length c.self.view_is,
  length_numbered c.self.inside.kept.items c.self.inside.numbers.items c.self.invariant,
)

pub returns : goal.returns
returns g c = one_run c.self.inside.kept.items c.args.self.now c.self.inside.numbers.items c.args.index c.args.other
    c.index.result.now c.index-2.result.now c.self.view_is c.self.invariant c.requires.index c.requires.other
    c.index.ensures c.index-2.ensures

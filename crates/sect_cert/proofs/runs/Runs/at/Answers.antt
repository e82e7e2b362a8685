use Rattle.std.proofs.Common.{length, ap, arith}
use Rattle.sect_cert.proofs.RunsLemmas.{length_numbered, run_within, run_at}
use Rattle.sect_cert.proofs.runs.Runs.at.Goals as goal

pub index-number-requires : goal.index-number-requires
index-number-requires g c = omega (
  arith,
  c.self.inside.numbers.ok.0,
  ap length c.self.view_is,
  length_numbered c.self.inside.kept.items c.self.inside.numbers.items c.self.invariant,
)

pub index-requires : goal.index-requires
index-requires g c = omega (
  arith,
  c.self.inside.kept.ok.0,
  run_within c.self.inside.kept.items c.args.self.now c.self.inside.numbers.items c.args.index
      c.index-number.result.now c.self.view_is c.self.invariant c.requires c.index-number.ensures,
)

pub returns : goal.returns
returns g c = run_at c.self.inside.kept.items c.args.self.now c.self.inside.numbers.items c.args.index
    c.index-number.result.now c.index.result.now c.self.view_is c.self.invariant c.requires c.index-number.ensures
    c.index.ensures

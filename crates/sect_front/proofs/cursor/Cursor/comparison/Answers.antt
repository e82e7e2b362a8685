use Rattle.std.proofs.Common.{refl}
use Rattle.sect_front.proofs.Stopping.{refused_bare}
use Rattle.sect_front.specs.declared.expected.Expected.TheVariants as expected
use Rattle.sect_front.proofs.Chains.{passed}
use Rattle.sect_front.proofs.cursor.Cursor.comparison.Goals as goal

pub returns-in_default-clause-err : goal.returns-in_default-clause-err
returns-in_default-clause-err c = (
  refl,
  refl,
  refused_bare expected.Comparison c.args.self.now (rw c.in_default.is at c.token.ensures.none),
)

pub returns-clause-ok : goal.returns-clause-ok
returns-clause-ok c = passed c.args.self.now c.in-Some.ensures.some c.in-Comparison.is (λ k. refl) c.pass.ensures

use Rattle.std.proofs.Common.{refl}
use Rattle.sect_front.proofs.Stopping.{refused_bare}
use Rattle.sect_front.specs.declared.expected.Expected.TheVariants as expected
use Rattle.sect_front.proofs.Chains.{passed}
use Rattle.sect_front.proofs.cursor.Cursor.takes_name.Goals as goal

pub returns-in_default-clause-none : goal.returns-in_default-clause-none
returns-in_default-clause-none c =
    refused_bare expected.Name c.args.self.now (rw c.in_default.is at c.token.ensures.none)

pub returns-clause-some : goal.returns-clause-some
returns-clause-some c =
    passed c.args.self.now c.in-Some.ensures.some c.in-Name.is (λ k. refl) c.pass.ensures

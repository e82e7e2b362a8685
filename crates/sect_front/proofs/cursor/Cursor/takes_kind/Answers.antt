use Rattle.sect_front.proofs.Stopping.{refused_bare, refused_by}
use Rattle.sect_front.specs.declared.expected.Expected.TheVariants as expected
use Rattle.sect_front.proofs.Stopping.{calm_kind}
use Rattle.sect_front.proofs.Stopping.{calm_kind}
use Rattle.sect_front.proofs.Stopping.{calm_kind}
use Rattle.sect_front.proofs.Chains.{passed}
use Rattle.sect_front.proofs.Stopping.{calm_kind}
use Rattle.sect_front.proofs.cursor.Cursor.takes_kind.Goals as goal

pub returns-in_default-clause-none : goal.returns-in_default-clause-none
returns-in_default-clause-none c =
    refused_bare expected.Kind c.args.self.now (rw c.in_default.is at c.token.ensures.none)

pub returns-in_default-kind-clause-none : goal.returns-in_default-kind-clause-none
returns-in_default-kind-clause-none c =
    refused_by expected.Kind c.args.self.now _ c.token.new.token c.in-Some.ensures.some.stands
    (rw c.in_default-kind.is at c.kind.ensures.none)

pub returns-clause-some : goal.returns-clause-some
returns-clause-some c =
    passed c.args.self.now c.in-Some.ensures.some c.in-Some-kind.ensures.some
    (calm_kind c.in-Some-kind.kind) c.pass.ensures

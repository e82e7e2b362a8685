use Rattle.sect_front.proofs.Stopping.{refused_bare, refused_by}
use Rattle.sect_front.specs.declared.expected.Expected.TheVariants as expected
use Rattle.sect_front.proofs.Stopping.{calm_operand}
use Rattle.sect_front.proofs.Stopping.{calm_operand}
use Rattle.sect_front.proofs.Stopping.{calm_operand}
use Rattle.sect_front.proofs.Chains.{passed}
use Rattle.sect_front.proofs.Stopping.{calm_operand}
use Rattle.sect_front.proofs.cursor.Cursor.takes_operand.Goals as goal

pub returns-in_default-clause-none : goal.returns-in_default-clause-none
returns-in_default-clause-none c =
    refused_bare expected.Operand c.args.self.now (rw c.in_default.is at c.token.ensures.none)

pub returns-in_default-operand-clause-none : goal.returns-in_default-operand-clause-none
returns-in_default-operand-clause-none c =
    refused_by expected.Operand c.args.self.now _ c.token.new.token c.in-Some.ensures.some.stands
    (rw c.in_default-operand.is at c.operand.ensures.none)

pub returns-clause-some : goal.returns-clause-some
returns-clause-some c =
    passed c.args.self.now c.in-Some.ensures.some c.in-Some-operand.ensures.some
    (calm_operand c.in-Some-operand.value) c.pass.ensures

use Rattle.std.proofs.Common.{◌≢◌}
use Rattle.std.proofs.lemmas.Result.{IfOk-weaker}
use Rattle.sect_front.specs.steps.Passing.{IsAlike}
use Rattle.sect_front.specs.steps.Spanning.{HasBegunItems}
use Rattle.sect_front.proofs.Spans.{begun_statement}
use Rattle.sect_front.specs.declared.expected.Expected.TheVariants as expected
use Rattle.sect_front.proofs.cursor.Cursor.next.Goals as goal

pub first-requires : goal.first-requires
first-requires c = record { empty = c.requires.empty c.in-StartOrLocal.is; brace = c.requires.brace }

pub returns-in-StartOrLocal-clause-ok : goal.returns-in-StartOrLocal-clause-ok
returns-in-StartOrLocal-clause-ok c = rw c.in-StartOrLocal.is c.first.ensures.ok

pub returns-in-StartOrLocal-clause-alike : goal.returns-in-StartOrLocal-clause-alike
returns-in-StartOrLocal-clause-alike c = c.first.ensures.alike

pub returns-in-StartOrLocal-clause-err : goal.returns-in-StartOrLocal-clause-err
returns-in-StartOrLocal-clause-err c = rw c.in-StartOrLocal.is c.first.ensures.err

pub statement-requires : goal.statement-requires
statement-requires c =
    record { alike = c.requires.alike c.in_default.not-StartOrLocal; brace = c.requires.brace }

pub returns-in_default-clause-ok : goal.returns-in_default-clause-ok
returns-in_default-clause-ok c =
    IfOk-weaker c.statement.result _
    (λ e. HasBegunItems c.args.expected e c.args.self.now c.statement.new.self c.args.locals.now
    c.args.locals.now c.args.block.now c.statement.new.block c.args.spans.now c.statement.new.spans)
    (λ e h. begun_statement c.args.expected e c.args.self.now c.statement.new.self c.args.locals.now
    c.args.block.now c.statement.new.block (c.requires.alike c.in_default.not-StartOrLocal) h) c.statement.ensures.ok

pub returns-in_default-clause-alike : goal.returns-in_default-clause-alike
returns-in_default-clause-alike c =
    IfOk-weaker c.statement.result (λ e. IsAlike e expected.Start c.statement.new.self)
    (λ e. e ≢ expected.StartOrLocal → IsAlike e expected.Start c.statement.new.self) (λ e h ne. h)
    c.statement.ensures.alike

pub returns-in_default-clause-err : goal.returns-in_default-clause-err
returns-in_default-clause-err c = c.statement.ensures.err

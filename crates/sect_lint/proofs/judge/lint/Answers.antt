use Rattle.std.proofs.Common.{inr}
use Rattle.sect_names.specs.declared.refusal.SourceRefusal.TheVariants as refusal
use Rattle.sect_lint.proofs.judge.lint.Goals as goal

pub returns-in_ok-diagnostic-in-Err-Front-clause-judged : goal.returns-in_ok-diagnostic-in-Err-Front-clause-judged
returns-in_ok-diagnostic-in-Err-Front-clause-judged c =
    let known = rw c.in-Err-Front.field-0-is at c.in-Err-Front.ensures.known in (
      refusal.Front c.in-Err-Front.placed.fault,
      (known.0, (c.in_ok-diagnostic-in-Err-Front.ensures.known, known.1.fault)),
      rw c.new-text.ensures.bytes at c.in_ok-diagnostic-in-Err-Front.ensures.told,
    )

pub returns-in_ok-diagnostic-in-Err-Types-clause-judged : goal.returns-in_ok-diagnostic-in-Err-Types-clause-judged
returns-in_ok-diagnostic-in-Err-Types-clause-judged c =
    let m = c.in-Err-Types.mistyped in
    let known = rw c.in-Err-Types.field-0-is at c.in-Err-Types.ensures.known in (
      refusal.Types m.fault,
      (known.0, (c.in_ok-diagnostic-in-Err-Types.ensures.known, (m.tree, known.1, known.2))),
      rw c.new-text.ensures.bytes at c.in_ok-diagnostic-in-Err-Types.ensures.told,
    )

pub returns-in_ok-diagnostic-in-Err-Hints-clause-judged : goal.returns-in_ok-diagnostic-in-Err-Hints-clause-judged
returns-in_ok-diagnostic-in-Err-Hints-clause-judged c =
    let u = c.in-Err-Hints.unguarded in
    let known = rw c.in-Err-Hints.field-0-is at c.in-Err-Hints.ensures.known in (
      refusal.Scheme u.fault,
      (c.in_ok-diagnostic-in-Err-Hints.ensures.known, inr (u.program, known.1, known.2)),
      rw c.new-text.ensures.bytes at c.in_ok-diagnostic-in-Err-Hints.ensures.told,
    )

use Rattle.std.proofs.Common.{sym, ap, ◌∙◌, subst}
use Rattle.sect_types.specs.First.{IsTyped}
use Rattle.sect_names.specs.Sources.{of_front, of_types}
use Rattle.sect_names.proofs.Refusing.{gives_memory, spelled_gives}
use Rattle.sect_names.proofs.shared.Refusing.{one_program}
use Rattle.sect_names.proofs.source.program_of.Goals as goal

pub returns-in_err-tree-clause-only : goal.returns-in_err-tree-clause-only
returns-in_err-tree-clause-only c = λ p text.
    let fault = c.in_err-tree.field-0.0 in
    gives_memory p c.from_residual.result (of_front fault)
    (spelled_gives p.source fault (c.in_err-tree.ensures.only p.source text.spelled)) c.from_residual.ensures.1

pub returns-in_err-program-clause-only : goal.returns-in_err-program-clause-only
returns-in_err-program-clause-only c = λ p text.
    let typed = subst IsTyped (sym (c.in_ok-tree.ensures.only p.source text.spelled)) text.typed in
    gives_memory p c.from_residual-in_err-program.result (of_types c.in_err-program.field-0.0)
    (ap of_types (c.in_err-program.ensures.only typed)) c.from_residual-in_err-program.ensures.1

pub returns-clause-only : goal.returns-clause-only
returns-clause-only c = λ p text.
    one_program p c.in_ok-program.program text.numbers c.tree-facts.ensures.numbers
    (c.in_ok-program.ensures.same ∙ c.in_ok-tree.ensures.only p.source text.spelled)

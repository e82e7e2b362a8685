use Rattle.std.proofs.Common.{◌≡◌, ◌≤◌, Ok, Err, sym, ap, subst, arith}
use Rattle.sect_lemmas.proofs.Results.{given}
use Rattle.sect_front.specs.Front.{IsSpelled}
use Rattle.sect_front.proofs.shared.Only.{only}
use Rattle.sect_types.specs.First.{IsTyped}
use Rattle.sect_hints.specs.Hints.{ObeysHints}
use Rattle.sect_names.specs.{Refusals.{reason_of, IsKnown}, Sources.{IsTypedText, of_types, of_scheme}}
use Rattle.sect_names.proofs.{Refusing.{spelled_gives}, shared.Refusing.{one_text}}
use Rattle.sect_names.specs.declared.refusal.SourceRefusal.TheVariants as refusal
use Rattle.sect_names.specs.declared.source.Refused.TheVariants as refused
use Rattle.sect_names.proofs.source.judge.Goals as goal

pub returns-in_err-tree-clause-only : goal.returns-in_err-tree-clause-only
returns-in_err-tree-clause-only c = λ s is.
    let placed = c.in_err-tree.field-0.0 in
    given c.from_residual.result (λ r. reason_of r ≡ refusal.Memory) (refused.Front placed)
    (spelled_gives s.program.source placed.fault (only c.args.source.now s.program.source is.text.spelled
    (Err placed.fault) c.in_err-tree.ensures.fault)) c.from_residual.ensures.1

pub returns-in_err-tree-clause-known : goal.returns-in_err-tree-clause-known
returns-in_err-tree-clause-known c =
    given c.from_residual.result (IsKnown c.args.source.now c.args.k) (refused.Front c.in_err-tree.field-0.0) (
      grind arith,
      record {
        fault = c.in_err-tree.ensures.fault;
        span = c.in_err-tree.ensures.span;
        within = c.in_err-tree.ensures.within;
        expected = c.in_err-tree.ensures.expected;
      },
    ) c.from_residual.ensures.1

pub returns-in_err-program-clause-only : goal.returns-in_err-program-clause-only
returns-in_err-program-clause-only c = λ s is.
    let same = only c.args.source.now s.program.source is.text.spelled (Ok c.in_ok-tree.tree) c.in_ok-tree.ensures.tree
    in
    let mistyped = c.in_err-program.field-0.0 in
    given c.from_residual-in_err-program.result (λ r. reason_of r ≡ refusal.Memory) (refused.Types mistyped)
    (ap of_types (c.in_err-program.ensures.only (subst IsTyped (sym same) is.text.typed)))
    c.from_residual-in_err-program.ensures.1

pub returns-in_err-scheme-clause-only : goal.returns-in_err-scheme-clause-only
returns-in_err-scheme-clause-only c = λ s is.
    let few : c.args.k ≤ 3 = grind arith in
    let unguarded = c.in_err-scheme.field-0.0 in
    let program = c.in_ok-program.program in
    let back = sym c.in_ok-program.ensures.same in
    let text : IsTypedText c.args.source.now program = record {
      spelled = subst (IsSpelled c.args.source.now) back c.in_ok-tree.ensures.tree;
      typed = subst IsTyped back c.in_ok-program.ensures.typed;
      numbers = c.tree-facts.ensures.numbers;
    } in
    let same = one_text c.args.source.now s.program program is.text text in
    given c.from_residual-in_err-scheme.result (λ r. reason_of r ≡ refusal.Memory) (refused.Hints unguarded)
    (ap of_scheme (c.in_err-scheme.ensures.only few (subst ObeysHints (sym same) is.hints)))
    c.from_residual-in_err-scheme.ensures.1

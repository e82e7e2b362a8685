-- The outcomes are those of the program that the compiled one is of.
use Rattle.std.proofs.Common.{◌≡◌, ◌∙◌, refl, sym, ap, subst}
use Rattle.sect_lemmas.proofs.Results.{given}
use Rattle.sect_types.specs.Programs.{ProgramView}
use Rattle.sect_names.specs.Schemes.{SchemeView}
use Rattle.sect_serial.specs.Exploring.{Explores, HasStates, IsUnlisted}
use Rattle.sect_answers.specs.{Answers.{of_source}, Outcomes.{of_outcomes}, Placed.{IsPlacedOutcomesDue}}
use Rattle.sect_answers.proofs.{Outcoming.{ends_of_runs, listed_gives}}
use Rattle.sect_answers.proofs.Refusing.{placed_outcomes_due, placed_states_due}
use Rattle.sect_answers.specs.declared.refusal.Refusal.TheVariants as refusal
use Rattle.sect_answers.proofs.placed_list.placed_outcomes.Goals as goal

pub returns-in_err-compiled-clause-refuses : goal.returns-in_err-compiled-clause-refuses
returns-in_err-compiled-clause-refuses c =
    let why = c.in_err-compiled.field-0.0 in
    let source = c.args.text.source.now in
    given c.from_residual.result (IsPlacedOutcomesDue source c.args.k c.args.fuel c.args.most) (of_source why)
    (placed_outcomes_due source c.args.k c.args.fuel c.args.most why c.in_err-compiled.ensures.refuses)
    c.from_residual.ensures.1

pub returns-in_err-compiled-clause-only : goal.returns-in_err-compiled-clause-only
returns-in_err-compiled-clause-only c = λ s states accepted all few.
    let why = c.in_err-compiled.field-0.0 in
    given c.from_residual.result (λ r. r ≡ refusal.Memory) (of_source why)
    (ap of_source (c.in_err-compiled.ensures.only s accepted)) c.from_residual.ensures.1

pub returns-in_err-all-clause-refuses : goal.returns-in_err-all-clause-refuses
returns-in_err-all-clause-refuses c =
    let why = c.in_err-all.field-0.0 in
    let source = c.args.text.source.now in
    let p = c.in_ok-compiled.compiled.scheme.program in
    let program = c.program.ensures ∙ ap (λ (s : SchemeView). s.program) c.scheme.ensures in
    given c.from_residual-in_err-all.result (IsPlacedOutcomesDue source c.args.k c.args.fuel c.args.most)
    (of_outcomes why)
    (placed_states_due source c.args.k c.args.fuel c.args.most p why c.in_ok-compiled.ensures.compiled.accepted.text
    (subst (λ (q : ProgramView). IsUnlisted q c.args.fuel c.args.most why) program c.in_err-all.ensures))
    c.from_residual-in_err-all.ensures.1

pub returns-in_err-all-clause-only : goal.returns-in_err-all-clause-only
returns-in_err-all-clause-only c = λ s states accepted all few.
    let why = c.in_err-all.field-0.0 in
    let own = c.in_ok-compiled.compiled.scheme in
    let same : s.program ≡ own.program = c.texts_have_one_program.ensures c.args.text.source.now own.program s.program
    c.in_ok-compiled.ensures.compiled.accepted.text accepted.text in
    let program = c.program.ensures ∙ ap (λ (s : SchemeView). s.program) c.scheme.ensures in
    given c.from_residual-in_err-all.result (λ r. r ≡ refusal.Memory) (of_outcomes why)
    (listed_gives c.program.result.now c.args.fuel states c.args.most why
    (subst (λ (q : ProgramView). HasStates q c.args.fuel states) (same ∙ sym program) all) few c.in_err-all.ensures)
    c.from_residual-in_err-all.ensures.1

pub returns-clause-answers : goal.returns-clause-answers
returns-clause-answers c =
    let v = c.in_ok-compiled.compiled in
    let from = c.in_ok-compiled.ensures.compiled in
    let program = c.program.ensures ∙ ap (λ (s : SchemeView). s.program) c.scheme.ensures in
    record {
      compiled = v;
      from = from;
      outcomes = c.in_ok-all.all;
      explores = subst (λ (q : ProgramView). Explores q c.args.fuel c.args.most c.in_ok-all.all) program
          c.in_ok-all.ensures;
      runs = ends_of_runs v c.program.result.now c.args.fuel c.in_ok-all.all.found
          (c.every_run_is_serial.ensures v from.compiled) (c.every_order_is_run.ensures v from.compiled) program
          c.in_ok-all.ensures.outcomes;
      listed = c.in_ok-list_printed.ensures;
    }

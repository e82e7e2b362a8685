-- The program that the compiled one is of runs in this order.
use Rattle.std.proofs.Common.{◌≡◌, ◌∙◌, List, ℕ, refl, sym, ap, subst}
use Rattle.std.specs.{Prelude.{option_map}, String.{string_bytes}}
use Rattle.sect_lemmas.proofs.Results.{given}
use Rattle.sect_types.specs.{Programs.{ProgramView}, Whole.{RunsWhole}}
use Rattle.sect_names.specs.Schemes.{SchemeView}
use Rattle.sect_store.specs.Outcomes.{OutcomeView}
use Rattle.sect_answers.specs.{Answers.{of_source}, Serial.{of_serial}}
use Rattle.sect_answers.specs.Placed.{IsOutcomePlaced, IsPlacedSerialDue}
use Rattle.sect_serial.specs.Judging as serial
use Rattle.std.specs.Prelude.{Err}
use Rattle.sect_answers.proofs.Refusing.{ended_gives, placed_order_due, placed_serial_due}
use Rattle.sect_answers.specs.declared.refusal.Refusal.TheVariants as refusal
use Rattle.sect_answers.proofs.placed_runs.placed_serial.Goals as goal

pub returns-in_err-compiled-clause-refuses : goal.returns-in_err-compiled-clause-refuses
returns-in_err-compiled-clause-refuses c =
    let why = c.in_err-compiled.field-0.0 in
    let source = c.args.text.source.now in
    given c.from_residual.result (IsPlacedSerialDue source c.args.k c.args.fuel c.args.order.items) (of_source why)
    (placed_serial_due source c.args.k c.args.fuel c.args.order.items why c.in_err-compiled.ensures.refuses)
    c.from_residual.ensures.1

pub returns-in_err-compiled-clause-only : goal.returns-in_err-compiled-clause-only
returns-in_err-compiled-clause-only c = λ s e accepted runs.
    let why = c.in_err-compiled.field-0.0 in
    given c.from_residual.result (λ r. r ≡ refusal.Memory) (of_source why)
    (ap of_source (c.in_err-compiled.ensures.only s accepted)) c.from_residual.ensures.1

pub returns-in_err-end-clause-refuses : goal.returns-in_err-end-clause-refuses
returns-in_err-end-clause-refuses c =
    let why = c.in_err-end.field-0.0 in
    let source = c.args.text.source.now in
    let p = c.in_ok-compiled.compiled.scheme.program in
    let order = c.args.order.items in
    let program = c.program.ensures ∙ ap (λ (s : SchemeView). s.program) c.scheme.ensures in
    let judges = subst (λ (ts : List ℕ). serial.Judges p c.args.fuel ts (Err why)) c.as_slice.ensures.value
    (subst (λ (q : ProgramView). serial.Judges q c.args.fuel c.as_slice.result.now (Err why)) program
    c.in_err-end.ensures.judges) in
    given c.from_residual-in_err-end.result (IsPlacedSerialDue source c.args.k c.args.fuel order) (of_serial why)
    (placed_order_due source c.args.k c.args.fuel order p why c.in_ok-compiled.ensures.compiled.accepted.text judges)
    c.from_residual-in_err-end.ensures.1

pub returns-in_err-end-clause-only : goal.returns-in_err-end-clause-only
returns-in_err-end-clause-only c = λ s e accepted runs.
    let why = c.in_err-end.field-0.0 in
    let own = c.in_ok-compiled.compiled.scheme in
    let same : s.program ≡ own.program = c.texts_have_one_program.ensures c.args.text.source.now own.program s.program
    c.in_ok-compiled.ensures.compiled.accepted.text accepted.text in
    let program = c.program.ensures ∙ ap (λ (s : SchemeView). s.program) c.scheme.ensures in
    let ran = subst (λ (q : ProgramView). RunsWhole q c.args.fuel c.args.order.items e) (same ∙ sym program) runs in
    let slice = subst (λ (ts : List ℕ). RunsWhole c.program.result.now c.args.fuel ts e)
    (sym c.as_slice.ensures.value) ran in
    given c.from_residual-in_err-end.result (λ r. r ≡ refusal.Memory) (of_serial why)
    (ended_gives e why (c.in_err-end.ensures.only e slice)) c.from_residual-in_err-end.ensures.1

pub returns-clause-answers : goal.returns-clause-answers
returns-clause-answers c =
    let v = c.in_ok-compiled.compiled in
    let order = c.args.order.items in
    let end = c.in_ok-end.end in
    let file = option_map (λ name. name.now) c.args.text.file in
    let program = c.program.ensures ∙ ap (λ (s : SchemeView). s.program) c.scheme.ensures in
    record {
      compiled = v;
      from = c.in_ok-compiled.ensures.compiled;
      end = end;
      runs = subst (λ (q : ProgramView). RunsWhole q c.args.fuel order end) program
          (subst (λ (ts : List ℕ). RunsWhole c.program.result.now c.args.fuel ts end) c.as_slice.ensures.value
          c.in_ok-end.ensures.judges);
      printed = subst (λ (o : OutcomeView). IsOutcomePlaced file c.args.text.source.now v c.args.fuel o
          (string_bytes c.in_ok-outcome_placed.field-0)) c.in_ok-outcome.ensures c.in_ok-outcome_placed.ensures;
    }

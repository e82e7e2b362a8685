use Rattle.std.specs.String.{string_bytes}
use Rattle.std.proofs.Common.{ap, ◌∙◌}
use Rattle.sect_names.specs.Schemes.{SchemeView}
use Rattle.sect_answers.proofs.Scheduled.{made_are_enough, lines_printed}
use Rattle.sect_answers.proofs.schedule.turn_lines.Goals as goal

pub progress_text-requires : goal.progress_text-requires
progress_text-requires c =
    made_are_enough c.args.compiled.now c.args.fuel c.args.schedule.now c.in_ok-progress.progress
    c.in_ok-progress.ensures.ok

pub returns-clause-answers : goal.returns-clause-answers
returns-clause-answers c =
    lines_printed c.args.compiled.now c.args.fuel c.args.schedule.now c.in_ok-progress.progress
    c.in_ok-progress.ensures.ok c.program.result.now (string_bytes c.in_ok-progress_text.field-0)
    (c.program.ensures ∙ ap (λ (s : SchemeView). s.program) c.scheme.ensures) c.in_ok-progress_text.ensures

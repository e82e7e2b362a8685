use Rattle.std.proofs.Common.{ap, ◌∙◌}
use Rattle.sect_types.specs.Programs.{ProgramView}
use Rattle.sect_names.specs.Schemes.{SchemeView}
use Rattle.sect_answers.specs.Formats.{outcome_in}
use Rattle.sect_answers.proofs.run.timed_of.Goals as goal

pub returns : goal.returns
returns g c =
    let run = c.in_ok-run.run' in
    let program = c.program-program.ensures ∙ ap (λ (s : SchemeView). s.program) c.scheme.ensures in (
      run,
      c.in_ok-run.ensures,
      c.in_ok-outcome.ensures ∙ ap (λ (p : ProgramView). outcome_in c.args.format p run.outcome) program,
    )

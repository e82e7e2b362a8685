use Rattle.sect_answers.proofs.Running.{runs_so}
use Rattle.sect_answers.proofs.placed_runs.ran_printed.Goals as goal

pub outcome_placed-requires : goal.outcome_placed-requires
outcome_placed-requires g c =
    record { spelled = c.requires; runs = runs_so _ _ _ c.in_ok-run.ensures }

pub returns : goal.returns
returns g c = (c.in_ok-run.run', c.in_ok-run.ensures, c.in_ok-outcome_placed.ensures)

use Rattle.sect_endings.proofs.Rounding.{round_runs, fair_runs}
use Rattle.sect_endings.proofs.laws.rounds_are_runs.Goals as goal

pub returns-clause-endless : goal.returns-clause-endless
returns-clause-endless c = round_runs

pub returns-clause-fair : goal.returns-clause-fair
returns-clause-fair c = fair_runs

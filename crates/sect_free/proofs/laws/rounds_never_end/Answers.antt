use Rattle.sect_free.proofs.Rounds.{rounds_never_end, rounds_lead_on}
use Rattle.sect_free.proofs.laws.rounds_never_end.Goals as goal

pub returns-clause-again : goal.returns-clause-again
returns-clause-again c = rounds_never_end

pub returns-clause-longer : goal.returns-clause-longer
returns-clause-longer c = rounds_lead_on

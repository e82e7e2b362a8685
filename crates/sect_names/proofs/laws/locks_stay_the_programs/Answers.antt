use Rattle.sect_names.proofs.Sounding.{generated_lock, carried_lock}
use Rattle.sect_names.proofs.laws.locks_stay_the_programs.Goals as goal

pub returns-clause-generated : goal.returns-clause-generated
returns-clause-generated c = generated_lock

pub returns-clause-carried : goal.returns-clause-carried
returns-clause-carried c = carried_lock

use Rattle.sect_free.proofs.Freely.{found_are_free, free_are_found}
use Rattle.sect_free.proofs.laws.free_ends_are_outcomes.Goals as goal

pub returns-clause-found : goal.returns-clause-found
returns-clause-found c = found_are_free

pub returns-clause-free : goal.returns-clause-free
returns-clause-free c = free_are_found

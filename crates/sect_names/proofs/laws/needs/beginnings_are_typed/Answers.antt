use Rattle.sect_names.proofs.shared.Beginning.{begins_to, begins_own}
use Rattle.sect_names.proofs.laws.needs.beginnings_are_typed.Goals as goal

pub returns : goal.returns
returns c s t p q f r to own goes = (begins_to s p q f r to goes, begins_own t p q f own goes)

use Rattle.sect_names.proofs.shared.Finiteness.{all_locks, finite_locks}
use Rattle.sect_names.proofs.laws.locks_are_finitely_many.Goals as goal

pub returns : goal.returns
returns c s t = (all_locks s, finite_locks s t)

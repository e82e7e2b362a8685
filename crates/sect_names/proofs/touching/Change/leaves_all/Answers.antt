use Rattle.std.proofs.Common.{subst}
use Rattle.sect_names.specs.Touching.{LeavesOthers}
use Rattle.sect_names.proofs.Untouched.{untouched_any}
use Rattle.sect_names.proofs.touching.Change.leaves_all.Goals as goal

pub returns-in-Nothing : goal.returns-in-Nothing
returns-in-Nothing c = λ on s t step others.
    untouched_any s t step (subst (LeavesOthers t step) c.in-Nothing.is others)

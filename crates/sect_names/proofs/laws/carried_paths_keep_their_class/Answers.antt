use Rattle.sect_names.proofs.Keeping.{keeps_its_class}
use Rattle.sect_names.proofs.laws.carried_paths_keep_their_class.Goals as goal

pub returns : goal.returns
returns c = keeps_its_class

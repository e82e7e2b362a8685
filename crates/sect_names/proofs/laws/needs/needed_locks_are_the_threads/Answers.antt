use Rattle.sect_names.proofs.shared.Needing.{needed_needable}
use Rattle.sect_names.proofs.laws.needs.needed_locks_are_the_threads.Goals as goal

pub returns : goal.returns
returns c s scheme typed t last ends text stands l needed =
    needed_needable s t scheme typed last ends text stands l needed

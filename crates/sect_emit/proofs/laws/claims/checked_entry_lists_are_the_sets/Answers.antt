use Rattle.sect_emit.proofs.Checked.{has_sets}
use Rattle.sect_emit.proofs.laws.claims.checked_entry_lists_are_the_sets.Goals as goal

pub returns : goal.returns
returns c = λ source k bytes compiled from read.
    has_sets c.least_sets_are_one.ensures source k bytes compiled
    (c.valid_entry_lists_are_least.ensures compiled.scheme from.accepted.scheme) from read

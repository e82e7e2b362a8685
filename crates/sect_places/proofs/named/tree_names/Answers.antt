use Rattle.sect_places.proofs.WantedNames.{all_names}
use Rattle.sect_places.proofs.named.tree_names.Goals as goal

pub returns : goal.returns
returns c =
    all_names c.args.source.now c.args.tree.now c.in_ok-names.names.items
    (rw c.new.ensures.bytes at c.in_ok-names.ensures.wanted)

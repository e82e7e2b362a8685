use Rattle.sect_places.proofs.Tabled.{tabled}
use Rattle.sect_places.proofs.items.item_spans.Goals as goal

pub returns-in-Ok : goal.returns-in-Ok
returns-in-Ok c =
    let read = c.in-Ok.ensures in (_, tabled c.args.source.now _ read.tree c.in-Ok.spans.items read.spans)

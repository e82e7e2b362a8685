use Rattle.std.proofs.Common.{Ok, subst}
use Rattle.sect_front.proofs.shared.Only.{only}
use Rattle.sect_places.specs.Items.{AreItemSpans}
use Rattle.sect_places.proofs.Tabled.{tabled}
use Rattle.sect_places.proofs.items.tree_spans.Goals as goal

pub returns-in-Ok : goal.returns-in-Ok
returns-in-Ok c =
    let source = c.args.source.now in
    let read = c.in-Ok.ensures in
    subst (λ t. AreItemSpans source t c.in-Ok.spans.items) (only source c.args.tree.now c.requires (Ok _) read.tree)
    (tabled source _ read.tree c.in-Ok.spans.items read.spans)

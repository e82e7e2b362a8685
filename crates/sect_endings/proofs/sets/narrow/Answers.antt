use Rattle.sect_endings.proofs.Marked.{narrow_kept}
use Rattle.sect_endings.proofs.sets.narrow.Goals as goal

pub returns : goal.returns
returns c = narrow_kept c.args.graph.now c.args.goals.now c.args.marks.now c.keep_ranked.new.marks
    c.in_ok-ranks.ranks.items c.in_ok-ranks.ensures.ranks.0 c.keep_ranked.result c.requires
    c.in_ok-ranks.ensures.ranks.1 c.in_ok-ranks.ensures.all
    (rw c.deref.ensures.value at c.keep_ranked.ensures)

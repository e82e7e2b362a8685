use Rattle.std.proofs.Common.{◌∙◌}
use Rattle.sect_places.proofs.Blocks.{within}
use Rattle.sect_places.proofs.line_index.LineIndex.new.Goals as goal

pub positions_of-requires : goal.positions_of-requires
positions_of-requires c = within c.args.text.now c.as_slice.result.now
    (c.as_slice.ensures.value ∙ c.in_ok-places.ensures)

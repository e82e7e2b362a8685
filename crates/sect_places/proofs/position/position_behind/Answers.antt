use Rattle.std.proofs.Common.{◌+◌, ap}
use Rattle.sect_places.proofs.Passing.{position_behind}
use Rattle.sect_places.proofs.position.position_behind.Goals as goal

pub returns : goal.returns
returns c = position_behind c.args.from c.args.bytes.now _ _ (ap (λ n. c.args.from.line + n) c.feeds_of.ensures)
    c.column_behind.ensures

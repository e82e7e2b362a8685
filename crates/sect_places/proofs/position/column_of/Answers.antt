use Rattle.std.proofs.Common.{arith}
use Rattle.sect_places.proofs.shared.Bounds.{column_least, column_most}
use Rattle.sect_places.proofs.position.column_of.Goals as goal

pub returns-clause-least : goal.returns-clause-least
returns-clause-least c =
    let is = c.column_behind.ensures in
    omega (arith, is, column_least c.args.source.now c.args.at)

pub returns-clause-most : goal.returns-clause-most
returns-clause-most c =
    let is = c.column_behind.ensures in
    omega (arith, is, column_most c.args.source.now c.args.at c.requires)

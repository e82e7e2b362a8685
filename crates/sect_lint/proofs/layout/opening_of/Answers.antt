use Rattle.std.proofs.Common.{arith}
use Rattle.sect_places.proofs.shared.Fitting.{tokens_fit}
use Rattle.sect_lint.proofs.layout.opening_of.Goals as goal

pub item_range-range-requires-clause-fits : goal.item_range-range-requires-clause-fits
item_range-range-requires-clause-fits c =
    omega (arith, tokens_fit c.args.text.bytes.now c.args.tree.now c.requires.spelled)

use Rattle.std.proofs.Common.{arith}
use Rattle.sect_places.proofs.shared.Fitting.{tokens_fit}
use Rattle.sect_lint.proofs.Worded.{own_words}
use Rattle.sect_lint.proofs.layout.told_by.Goals as goal

pub item_range-range-requires-clause-fits : goal.item_range-range-requires-clause-fits
item_range-range-requires-clause-fits c =
    omega (arith, tokens_fit c.args.text.bytes.now c.args.tree.now c.requires.spelled)

pub returns-clause-words : goal.returns-clause-words
returns-clause-words c =
    own_words c.args.text.bytes.now c.args.tree.now c.args.item c.item_range-range.result _ c.requires.spelled
    c.item_range-range.ensures.is c.item_range-range.ensures.some c.item_range-range.ensures.within
    c.in_ok-read.ensures.tokens c.in_ok-read.ensures.spans c.in_ok-read.ensures.order

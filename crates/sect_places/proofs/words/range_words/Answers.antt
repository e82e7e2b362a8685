use Rattle.sect_places.proofs.Standing.{sought_none}
use Rattle.sect_places.proofs.words.range_words.Goals as goal

pub sought_words-requires-clause-sought : goal.sought_words-requires-clause-sought
sought_words-requires-clause-sought c =
    rw (c.new-sought.ensures.here, c.new-sought.ensures.left)
    (sought_none c.args.text.bytes.now c.args.tree.now c.args.range.first c.requires.spelled)

use Rattle.std.proofs.Common.{arith}
use Rattle.sect_lint.proofs.Referring.{next_mentions}
use Rattle.sect_lint.proofs.unused.all_mentions.Goals as goal

pub loop-named-preserved : goal.loop-named-preserved
loop-named-preserved c =
    next_mentions c.args.names.now c.loop-named.named-index c.named-item.result c.loop-named.referents.keys
    c.add_mentions.new.referents.keys (omega arith) c.named-item.is c.loop-named.invariant c.in_ok-add_mentions.ensures

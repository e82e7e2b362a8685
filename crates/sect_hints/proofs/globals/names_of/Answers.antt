use Rattle.std.proofs.Common.{arith}
use Rattle.sect_hints.proofs.GlobalLaws.{one_more}
use Rattle.sect_hints.proofs.globals.names_of.Goals as goal

pub loop-global-preserved : goal.loop-global-preserved
loop-global-preserved c =
    one_more c.args.globals.now c.loop-global.global-index c.global-item.result c.loop-global.names.keys
    c.insert.new.self.keys c.requires (omega arith) c.global-item.is c.loop-global.invariant
    c.in_ok-insert.ensures.keys

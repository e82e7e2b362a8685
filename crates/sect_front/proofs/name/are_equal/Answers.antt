use Rattle.std.proofs.Common.{arith}
use Rattle.sect_front.proofs.NamesLemmas.{apart_more, none_apart}
use Rattle.sect_front.proofs.name.are_equal.Goals as goal

pub loop-i-preserved : goal.loop-i-preserved
loop-i-preserved c =
    let l = c.loop-i in
    apart_more l.i l.apart c.args.one.now c.args.other.now (omega arith) (omega arith) l.invariant

pub returns : goal.returns
returns c =
    let l = c.loop-i in
    none_apart l.i l.apart c.args.one.now c.args.other.now (omega arith) (omega arith) l.invariant

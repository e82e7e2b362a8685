use Rattle.std.proofs.Common.{refl}
use Rattle.sect_types.proofs.Summing.{one_call}
use Rattle.sect_types.proofs.counting.sums.Summary.add_call.Goals as goal

pub returns : goal.returns
returns c =
    one_call c.args.self.now _ (record { callee = c.args.callee; depth = c.args.depth }) c.requires refl
    c.in_ok-push.ensures.items

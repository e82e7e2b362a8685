use Rattle.std.proofs.Common.{arith}
use Rattle.sect_table.proofs.Shown.{seen, chain-seen}
use Rattle.sect_table.proofs.arena.Arena.held_mode.Goals as goal

pub mode_along-requires-clause-list : goal.mode_along-requires-clause-list
mode_along-requires-clause-list c =
    let s = seen _ _ _ _ _ _ c.self.invariant c.self.view_is in
    let lt = c.requires in
    let n = s.chains in
    omega arith

pub returns : goal.returns
returns c = rw (
  chain-seen _ _ _ _ _ _ c.args.thread c.self.invariant c.self.view_is c.requires,
  ← c.deref.ensures.value,
) c.mode_along.ensures

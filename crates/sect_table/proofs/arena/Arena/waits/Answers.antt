use Rattle.std.proofs.Common.{arith, ◌∙◌, ap}
use Rattle.std.specs.Prelude.{is_some}
use Rattle.sect_table.proofs.{Shown.{seen}, Roles.{waiting-seen}}
use Rattle.sect_table.proofs.arena.Arena.waits.Goals as goal

pub first-requires : goal.first-requires
first-requires c =
    let s = seen _ _ _ _ _ _ c.self.invariant c.self.view_is in
    let lt = c.requires in
    let n = s.chains in
    omega arith

pub returns : goal.returns
returns c = c.is_some.ensures ∙ (ap is_some c.first.ensures.first
    ∙ waiting-seen _ _ _ _ _ _ c.args.thread c.self.invariant c.self.view_is c.requires)

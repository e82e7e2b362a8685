use Rattle.std.proofs.Common.{arith, ◌∙◌}
use Rattle.sect_table.proofs.Shown.{seen}
use Rattle.sect_table.proofs.arena.Arena.number_of.Goals as goal

pub returns-clause-number : goal.returns-clause-number
returns-clause-number c = c.number_of.ensures.place
    ∙ (seen _ _ _ _ _ _ c.self.invariant c.self.view_is).numbers c.args.key

pub returns-clause-within : goal.returns-clause-within
returns-clause-within c =
    let n = (seen _ _ _ _ _ _ c.self.invariant c.self.view_is).keys_are in
    let le = c.number_of.ensures.within in
    omega arith

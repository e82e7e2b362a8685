use Rattle.std.proofs.{Common.{arith, ◌∙◌, sym}, lemmas.List.{length-map}}
use Rattle.sect_table.proofs.Shown.{seen, chain-seen}
use Rattle.sect_table.proofs.arena.Arena.held_count.Goals as goal

pub len-requires : goal.len-requires
len-requires c =
    let s = seen _ _ _ _ _ _ c.self.invariant c.self.view_is in
    let lt = c.requires in
    let n = s.chains in
    omega arith

pub returns : goal.returns
returns c = rw (chain-seen _ _ _ _ _ _ c.args.thread c.self.invariant c.self.view_is c.requires)
    (c.len.ensures ∙ sym (length-map _ _))

use Rattle.std.proofs.Common.{◌∙◌, sym}
use Rattle.sect_table.specs.Contents.{entry_of, claim_of}
use Rattle.sect_table.proofs.Claiming.{first_decides}
use Rattle.sect_table.proofs.arena.Arena.admits.Goals as goal

pub returns-then-at_least : goal.returns-then-at_least
returns-then-at_least c =
    let first = c.in-Some.first in
    c.lets.ensures
    ∙ first_decides (entry_of c.args.key c.args.self.now.entries).holders (claim_of first.thread first.mode)
    c.args.thread c.args.mode c.requires.together c.in-Some.ensures (sym c.at_least.ensures ∙ c.if-at_least.true)

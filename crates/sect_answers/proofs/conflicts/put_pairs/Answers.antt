use Rattle.std.proofs.Common.{sym, subst}
use Rattle.sect_lemmas.specs.Lists.{Has}
use Rattle.sect_lemmas.proofs.Membership.{Has-get_or}
use Rattle.sect_answers.proofs.conflicts.put_pairs.Goals as goal

pub put_conflict-requires : goal.put_conflict-requires
put_conflict-requires c =
    let pairs = c.args.pairs.now in
    let x = c.pair-item.result in
    c.requires x (subst (Has pairs) (sym c.pair-item.is)
    (Has-get_or pairs c.loop-pair.pair-index x c.loop-pair-test.true))

use Rattle.std.proofs.Common.{sym, subst, arith}
use Rattle.sect_lemmas.specs.Lists.{Has}
use Rattle.sect_lemmas.proofs.Membership.{Has-get_or}
use Rattle.sect_json.specs.Locks.{lock_json}
use Rattle.sect_json.proofs.Texts.{list_closed}
use Rattle.sect_json.proofs.lock_texts.LockTexts.put_all.Goals as goal

pub put-requires-clause-named : goal.put-requires-clause-named
put-requires-clause-named c =
    let locks = c.args.locks.now in
    let x = c.index-locks-index.result in
    c.requires.named x (subst (Has locks) (sym c.index-locks-index.is)
    (Has-get_or locks c.loop-index.index x (omega (arith, c.loop-index-test.true))))

pub returns-clause-text : goal.returns-clause-text
returns-clause-text c =
    list_closed (lock_json c.args.program.now.source) c.args.locks.now c.loop-index.index _ _ _ _ (omega arith)
    c.in_ok-push.ensures.items c.loop-index.invariant.added c.in_ok-push-2.ensures.items

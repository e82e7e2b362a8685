use Rattle.std.proofs.Common.{◌∙◌, arith, sym, subst}
use Rattle.sect_lemmas.specs.Lists.{Has}
use Rattle.sect_lemmas.proofs.Membership.{Has-get_or}
use Rattle.sect_answers.proofs.naming.near_name.Goals as goal

pub returns-then-is_near : goal.returns-then-is_near
returns-then-is_near c =
    let threads = c.args.threads.now in
    let thread = c.thread-item.result in
    let there : Has threads thread =
    subst (Has threads) (sym c.thread-item.is) (Has-get_or threads c.loop-thread.thread-index thread (omega arith)) in
    (thread, there, sym (c.in_ok-from_str.ensures.ok ∙ c.as_str.ensures))

use Rattle.std.proofs.Common.{◌∙◌, arith, subst, sym, ap, length, [], drop, ◌+◌, ◌++◌, ◌∷◌}
use Rattle.sect_types.specs.steps.Expanding.{SettingView, AreWritten}
use Rattle.sect_types.proofs.WrittenThreads.{starts, thread_few, thread_fits, thread_known, one_thread, all_written}
use Rattle.sect_types.proofs.expansion.expand.expand.Goals as goal

pub expand_thread-requires-clause-few : goal.expand_thread-requires-clause-few
expand_thread-requires-clause-few c =
    thread_few c.args.setting.now c.args.threads.now c.loop-number.number c.index-threads-number.result
    c.loop-number.sites
    c.loop-number.sections c.loop-number.texts.items c.loop-number.fresh.items c.loop-number-test.true
    c.index-threads-number.is c.loop-number.invariant

pub expand_thread-requires-clause-fits : goal.expand_thread-requires-clause-fits
expand_thread-requires-clause-fits c =
    thread_fits c.args.setting.now c.args.threads.now c.loop-number.number c.index-threads-number.result
    c.loop-number.sites
    c.loop-number.sections c.loop-number.texts.items c.loop-number.fresh.items c.loop-number-test.true
    c.index-threads-number.is c.loop-number.invariant

pub loop-number-init : goal.loop-number-init
loop-number-init c =
    subst
    (λ l. AreWritten c.args.setting.now c.args.threads.now c.args.threads.now
    (length c.globals.result.now) 0
    l c.new-fresh.result.items)
    (sym c.new-texts.ensures.items)
    (subst
    (AreWritten c.args.setting.now c.args.threads.now c.args.threads.now (length c.globals.result.now) 0 [])
    (sym c.new-fresh.ensures.items)
    (starts c.args.setting.now c.args.threads.now (length c.globals.result.now)
    (ap length c.globals.ensures ∙ ap (λ (w : SettingView). length w.globals) c.setting.view_is) c.requires.fits
    c.requires.known))

pub loop-number-preserved : goal.loop-number-preserved
loop-number-preserved c =
    let rest = drop (c.loop-number.number + 1) c.args.threads.now in
    subst (λ l. AreWritten c.args.setting.now c.args.threads.now rest c.expand_thread.new.sites
    c.expand_thread.new.sections l c.push-in-loop-number.new.self.items)
    (sym c.in_ok-push.ensures.items)
    (subst (AreWritten c.args.setting.now c.args.threads.now rest c.expand_thread.new.sites c.expand_thread.new.sections
    (c.loop-number.texts.items ++ c.in_ok-text.text ∷ []))
    (sym c.in_ok-push-2.ensures.items)
    (one_thread c.args.setting.now c.args.threads.now c.loop-number.number c.index-threads-number.result
    c.loop-number.sites
    c.loop-number.sections c.expand_thread.new.sites c.expand_thread.new.sections c.loop-number.texts.items
    c.loop-number.fresh.items c.in_ok-text.text c.in_ok-text.locals c.loop-number-test.true c.index-threads-number.is
    c.loop-number.invariant c.in_ok-text.ensures.text c.in_ok-text.ensures.fresh c.in_ok-text.ensures.sites
    c.in_ok-text.ensures.sections))

pub returns-clause-texts : goal.returns-clause-texts
returns-clause-texts c =
    all_written c.args.setting.now c.args.threads.now c.loop-number.number c.loop-number.sites c.loop-number.sections
    c.loop-number.texts.items c.loop-number.fresh.items (omega (arith, c.loop-number-test.false))
    c.loop-number.invariant c.requires.known

pub expand_thread-requires-clause-known : goal.expand_thread-requires-clause-known
expand_thread-requires-clause-known c =
    thread_known c.args.setting.now c.args.threads.now c.loop-number.number c.index-threads-number.result
    c.loop-number.sites
    c.loop-number.sections c.loop-number.texts.items c.loop-number.fresh.items c.loop-number-test.true
    c.index-threads-number.is c.loop-number.invariant

use Rattle.std.proofs.Common.{[], ◌∷◌, ◌++◌, ◌+◌, drop, arith, false, ap, sym, ◌∙◌, append-nil}
use Rattle.sect_front.specs.{declared.tree.Thread.{Thread}, Depth.{block_depth, threads_depth}}
use Rattle.sect_types.specs.{Rules.{declared_in}, declared.rules.place.Place.TheVariants.{InThread}}
use Rattle.sect_types.specs.Items.{AThread, local_items, block_items, thread_items}
use Rattle.sect_types.proofs.Records.{fault_after}
use Rattle.sect_types.proofs.ThreadLemmas.{handed_on, thread_more, thread_fails, thread_depth, threads_done}
use Rattle.sect_types.proofs.program.threads.Goals as goal

pub pass_thread-requires-clause-shallow : goal.pass_thread-requires-clause-shallow
pass_thread-requires-clause-shallow c =
    omega (
      arith,
      thread_depth c.threads-thread-items.result.now c.loop-thread.thread-index c.thread-item.result (omega arith),
      ap (λ (t : Thread). block_depth t.body) c.thread-item.is,
      ap threads_depth c.threads-thread-items.ensures,
      c.requires.shallow,
    )

pub returns-in_err-own-clause-walks : goal.returns-in_err-own-clause-walks
returns-in_err-own-clause-walks c =
    let d = declared_in c.args.context.now.tree.now in
    let t = c.thread-item.result in
    let names = c.loop-thread.names in
    let e = c.in_err-own.field-0.0 in
    handed_on d (thread_items [] c.args.context.now.tree.now.threads) c.args.spot.now c.pass_thread.new.spot e
    c.from_residual.result c.from_residual.ensures.1
    (fault_after d (thread_items [] c.args.context.now.tree.now.threads)
    (λ w. AThread t.name names ∷ local_items [] t.locals (block_items t.locals (InThread false 1) t.body w))
    (thread_items (names ++ t.name ∷ []) (drop (c.loop-thread.thread-index + 1) c.threads-thread-items.result.now))
    c.args.spot.now c.loop-thread.spot c.pass_thread.new.spot e
    (thread_fails d c.args.context.now.tree.now.threads c.threads-thread-items.result.now
    c.loop-thread.thread-index t names c.loop-thread.all.items c.args.spot.now c.loop-thread.spot (omega arith)
    c.thread-item.is c.loop-thread.invariant)
    c.in_err-own.ensures.walks)

pub loop-thread-preserved : goal.loop-thread-preserved
loop-thread-preserved c =
    let after = c.in_ok-own.ensures in
    thread_more (declared_in c.args.context.now.tree.now) c.args.context.now.tree.now.threads
    c.threads-thread-items.result.now
    c.loop-thread.thread-index c.thread-item.result c.loop-thread.names c.pass_thread.new.names c.loop-thread.all.items
    c.push.new.self.items c.args.spot.now c.loop-thread.spot c.pass_thread.new.spot
    (omega arith) c.thread-item.is c.loop-thread.invariant after.walks after.names
    (c.in_ok-push.ensures.items ∙ ap (λ v. c.loop-thread.all.items ++ v ∷ []) after.locals) after.few
    after.few_locals after.known_locals

pub returns-clause-walks : goal.returns-clause-walks
returns-clause-walks c =
    (threads_done (declared_in c.args.context.now.tree.now) c.args.context.now.tree.now.threads
    c.threads-thread-items.result.now
    c.loop-thread.thread-index c.loop-thread.names c.loop-thread.all.items c.args.spot.now c.loop-thread.spot
    c.loop-thread-test.false c.loop-thread.invariant).walks

pub returns-clause-locals : goal.returns-clause-locals
returns-clause-locals c =
    sym (append-nil c.loop-thread.all.items)
    ∙ (threads_done (declared_in c.args.context.now.tree.now) c.args.context.now.tree.now.threads
    c.threads-thread-items.result.now
    c.loop-thread.thread-index c.loop-thread.names c.loop-thread.all.items c.args.spot.now c.loop-thread.spot
    c.loop-thread-test.false c.loop-thread.invariant).named

pub returns-clause-fine : goal.returns-clause-fine
returns-clause-fine c =
    (threads_done (declared_in c.args.context.now.tree.now) c.args.context.now.tree.now.threads
    c.threads-thread-items.result.now
    c.loop-thread.thread-index c.loop-thread.names c.loop-thread.all.items c.args.spot.now c.loop-thread.spot
    c.loop-thread-test.false c.loop-thread.invariant).fine

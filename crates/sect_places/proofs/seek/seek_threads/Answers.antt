use Rattle.std.proofs.Common.{refl, arith}
use Rattle.sect_lemmas.proofs.Results.{given}
use Rattle.sect_places.specs.Ranges.{threads_ranges}
use Rattle.sect_places.specs.steps.Seeking.{IsFound}
use Rattle.sect_places.proofs.{Lists.{threads}, Seeking.{sought_room, sought_here, sought_more, sought_behind}}
use Rattle.sect_places.proofs.seek.seek_threads.Goals as goal

pub loop-thread-init : goal.loop-thread-init
loop-thread-init c = record { counted = refl; behind = λ w. refl }

pub seek_thread-requires : goal.seek_thread-requires
seek_thread-requires c =
    sought_room _ _ _ _ threads c.args.threads.now c.loop-thread.thread-index c.args.ahead.at c.loop-thread.here.at
    c.args.ahead.items c.loop-thread.here.items c.loop-thread.invariant c.thread-item.result _ c.loop-thread-test.true
    c.thread-item.is c.requires

pub returns-in_err-here-clause-found : goal.returns-in_err-here-clause-found
returns-in_err-here-clause-found c =
    given c.from_residual.result (IsFound c.args.ahead.items (threads_ranges c.args.ahead.at c.args.threads.now))
    c.in_err-here.field-0.0
    (sought_here _ _ _ _ threads c.args.threads.now c.loop-thread.thread-index c.args.ahead.at c.loop-thread.here.at
    c.args.ahead.items c.loop-thread.here.items c.loop-thread.invariant c.thread-item.result _ c.loop-thread-test.true
    c.thread-item.is c.in_err-here.ensures.found) c.from_residual.ensures.1

pub loop-thread-preserved : goal.loop-thread-preserved
loop-thread-preserved c =
    sought_more _ _ _ _ threads c.args.threads.now c.loop-thread.thread-index c.args.ahead.at c.loop-thread.here.at
    c.args.ahead.items c.loop-thread.here.items c.loop-thread.invariant c.thread-item.result _ _ c.loop-thread-test.true
    c.thread-item.is c.in_ok-here.ensures.next c.in_ok-here.ensures.behind

pub returns-clause-behind : goal.returns-clause-behind
returns-clause-behind c =
    sought_behind _ _ _ _ threads c.args.threads.now c.loop-thread.thread-index c.args.ahead.at c.loop-thread.here.at
    c.args.ahead.items c.loop-thread.here.items c.loop-thread.invariant (omega (arith, c.loop-thread-test.false))

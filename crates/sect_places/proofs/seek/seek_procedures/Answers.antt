use Rattle.std.proofs.Common.{refl, arith}
use Rattle.sect_lemmas.proofs.Results.{given}
use Rattle.sect_places.specs.Ranges.{procedures_ranges}
use Rattle.sect_places.specs.steps.Seeking.{IsFound}
use Rattle.sect_places.proofs.Lists.{procedures}
use Rattle.sect_places.proofs.Seeking.{sought_room, sought_here, sought_more, sought_count, sought_behind}
use Rattle.sect_places.proofs.seek.seek_procedures.Goals as goal

pub loop-procedure-init : goal.loop-procedure-init
loop-procedure-init c = record { counted = refl; behind = λ w. refl }

pub seek_procedure-requires : goal.seek_procedure-requires
seek_procedure-requires c =
    sought_room _ _ _ _ procedures c.args.procedures.now c.loop-procedure.procedure-index c.args.ahead.at
    c.loop-procedure.here.at
    c.args.ahead.items c.loop-procedure.here.items c.loop-procedure.invariant c.procedure-item.result _
    c.loop-procedure-test.true
    c.procedure-item.is c.requires

pub returns-in_err-here-clause-found : goal.returns-in_err-here-clause-found
returns-in_err-here-clause-found c =
    given c.from_residual.result (IsFound c.args.ahead.items (procedures_ranges c.args.ahead.at c.args.procedures.now))
    c.in_err-here.field-0.0
    (sought_here _ _ _ _ procedures c.args.procedures.now c.loop-procedure.procedure-index c.args.ahead.at
    c.loop-procedure.here.at
    c.args.ahead.items c.loop-procedure.here.items c.loop-procedure.invariant c.procedure-item.result _
    c.loop-procedure-test.true
    c.procedure-item.is c.in_err-here.ensures.found) c.from_residual.ensures.1

pub loop-procedure-preserved : goal.loop-procedure-preserved
loop-procedure-preserved c =
    sought_more _ _ _ _ procedures c.args.procedures.now c.loop-procedure.procedure-index c.args.ahead.at
    c.loop-procedure.here.at
    c.args.ahead.items c.loop-procedure.here.items c.loop-procedure.invariant c.procedure-item.result _ _
    c.loop-procedure-test.true
    c.procedure-item.is c.in_ok-here.ensures.next c.in_ok-here.ensures.behind

pub returns-clause-behind : goal.returns-clause-behind
returns-clause-behind c =
    sought_behind _ _ _ _ procedures c.args.procedures.now c.loop-procedure.procedure-index c.args.ahead.at
    c.loop-procedure.here.at
    c.args.ahead.items c.loop-procedure.here.items c.loop-procedure.invariant
    (omega (arith, c.loop-procedure-test.false))

pub returns-clause-next : goal.returns-clause-next
returns-clause-next c =
    sought_count _ _ _ _ procedures c.args.procedures.now c.loop-procedure.procedure-index c.args.ahead.at
    c.loop-procedure.here.at
    c.args.ahead.items c.loop-procedure.here.items c.loop-procedure.invariant
    (omega (arith, c.loop-procedure-test.false))

use Rattle.std.proofs.Common.{refl, arith}
use Rattle.sect_lemmas.proofs.Results.{given}
use Rattle.sect_places.specs.Ranges.{records_ranges}
use Rattle.sect_places.specs.steps.Seeking.{IsFound}
use Rattle.sect_places.proofs.Lists.{records}
use Rattle.sect_places.proofs.Seeking.{sought_room, sought_here, sought_more, sought_count, sought_behind}
use Rattle.sect_places.proofs.seek.seek_records.Goals as goal

pub loop-declared-init : goal.loop-declared-init
loop-declared-init c = record { counted = refl; behind = λ w. refl }

pub seek_record-requires : goal.seek_record-requires
seek_record-requires c =
    sought_room _ _ _ _ records c.args.records.now c.loop-declared.declared-index c.args.ahead.at
    c.loop-declared.here.at
    c.args.ahead.items c.loop-declared.here.items c.loop-declared.invariant c.declared-item.result _
    c.loop-declared-test.true
    c.declared-item.is c.requires

pub returns-in_err-here-clause-found : goal.returns-in_err-here-clause-found
returns-in_err-here-clause-found c =
    given c.from_residual.result (IsFound c.args.ahead.items (records_ranges c.args.ahead.at c.args.records.now))
    c.in_err-here.field-0.0
    (sought_here _ _ _ _ records c.args.records.now c.loop-declared.declared-index c.args.ahead.at
    c.loop-declared.here.at
    c.args.ahead.items c.loop-declared.here.items c.loop-declared.invariant c.declared-item.result _
    c.loop-declared-test.true
    c.declared-item.is c.in_err-here.ensures.found) c.from_residual.ensures.1

pub loop-declared-preserved : goal.loop-declared-preserved
loop-declared-preserved c =
    sought_more _ _ _ _ records c.args.records.now c.loop-declared.declared-index c.args.ahead.at
    c.loop-declared.here.at
    c.args.ahead.items c.loop-declared.here.items c.loop-declared.invariant c.declared-item.result _ _
    c.loop-declared-test.true
    c.declared-item.is c.in_ok-here.ensures.next c.in_ok-here.ensures.behind

pub returns-clause-behind : goal.returns-clause-behind
returns-clause-behind c =
    sought_behind _ _ _ _ records c.args.records.now c.loop-declared.declared-index c.args.ahead.at
    c.loop-declared.here.at
    c.args.ahead.items c.loop-declared.here.items c.loop-declared.invariant (omega (arith, c.loop-declared-test.false))

pub returns-clause-next : goal.returns-clause-next
returns-clause-next c =
    sought_count _ _ _ _ records c.args.records.now c.loop-declared.declared-index c.args.ahead.at
    c.loop-declared.here.at
    c.args.ahead.items c.loop-declared.here.items c.loop-declared.invariant (omega (arith, c.loop-declared-test.false))

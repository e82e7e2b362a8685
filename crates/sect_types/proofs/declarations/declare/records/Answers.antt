use Rattle.std.proofs.Common.{[], ◌∷◌, ◌++◌, ◌+◌, drop, arith, ap, sym, ◌∙◌, append-nil}
use Rattle.sect_types.specs.{Rules.{declared_in}, Items.{ARecord, field_items, record_items}}
use Rattle.sect_types.proofs.Records.{go_on, fault_after, fault_next, records_done}
use Rattle.sect_types.proofs.declarations.declare.records.Goals as goal

pub returns-in-Err-clause-walks : goal.returns-in-Err-clause-walks
returns-in-Err-clause-walks c =
    fault_after (declared_in c.args.tree.now) (record_items [] c.args.tree.now.records)
    (λ w. ARecord c.of-item.result.name c.loop-of.names ∷ field_items [] c.of-item.result.fields w)
    (record_items (c.loop-of.names ++ c.of-item.result.name ∷ [])
    (drop (c.loop-of.of-index + 1) c.records-of-items.result.now))
    c.args.spot.now c.loop-of.spot c.whole_record.new.spot c.in-Err.fault
    (fault_next (declared_in c.args.tree.now) c.args.tree.now.records c.records-of-items.result.now c.loop-of.of-index
    c.of-item.result c.loop-of.names c.loop-of.field_names.items c.args.spot.now c.loop-of.spot (omega arith)
    c.of-item.is c.loop-of.invariant)
    c.in-Err.ensures.walks

pub loop-of-preserved : goal.loop-of-preserved
loop-of-preserved c =
    go_on (declared_in c.args.tree.now) c.args.tree.now.records c.records-of-items.result.now c.loop-of.of-index
    c.of-item.result c.loop-of.names c.whole_record.new.names c.loop-of.field_names.items c.push.new.self.items
    c.args.spot.now c.loop-of.spot c.whole_record.new.spot
    (omega arith) c.of-item.is c.loop-of.invariant c.in-Ok.ensures.walks c.in-Ok.ensures.names
    (c.in_ok-push-in-Ok.ensures.items ∙ ap (λ n. c.loop-of.field_names.items ++ n ∷ []) c.in-Ok.ensures.fields)
    c.in-Ok.ensures.sites c.in-Ok.ensures.few c.in-Ok.ensures.few_fields c.in-Ok.ensures.known_fields

pub returns-clause-walks : goal.returns-clause-walks
returns-clause-walks c =
    (records_done (declared_in c.args.tree.now) c.args.tree.now.records c.records-of-items.result.now
    c.loop-of.of-index c.loop-of.names c.loop-of.field_names.items c.args.spot.now c.loop-of.spot c.loop-of-test.false
    c.loop-of.invariant).walks

pub returns-clause-names : goal.returns-clause-names
returns-clause-names c =
    sym (append-nil c.loop-of.names)
    ∙ (records_done (declared_in c.args.tree.now) c.args.tree.now.records c.records-of-items.result.now
    c.loop-of.of-index c.loop-of.names c.loop-of.field_names.items c.args.spot.now c.loop-of.spot c.loop-of-test.false
    c.loop-of.invariant).named

pub returns-clause-fields : goal.returns-clause-fields
returns-clause-fields c =
    sym (append-nil c.loop-of.field_names.items)
    ∙ (records_done (declared_in c.args.tree.now) c.args.tree.now.records c.records-of-items.result.now
    c.loop-of.of-index c.loop-of.names c.loop-of.field_names.items c.args.spot.now c.loop-of.spot c.loop-of-test.false
    c.loop-of.invariant).with_fields

pub returns-clause-fine : goal.returns-clause-fine
returns-clause-fine c =
    (records_done (declared_in c.args.tree.now) c.args.tree.now.records c.records-of-items.result.now
    c.loop-of.of-index c.loop-of.names c.loop-of.field_names.items c.args.spot.now c.loop-of.spot c.loop-of-test.false
    c.loop-of.invariant).fine

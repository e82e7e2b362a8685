use Rattle.std.proofs.Common.{List, []}
use Rattle.sect_types.specs.Items.{Item, record_items, global_items, procedure_items, thread_items}
use Rattle.sect_types.specs.Rules.{declared_in}
use Rattle.sect_types.proofs.ThreadLemmas.{handed_on, for_memory, second_fails}
use Rattle.sect_types.proofs.program.judge_tree.Goals as goal

pub returns-in_err-variables-clause-walks : goal.returns-in_err-variables-clause-walks
returns-in_err-variables-clause-walks c =
    let t = c.args.tree.now in
    let one : List Item → List Item = λ w. record_items [] t.records (global_items [] t.globals w) in
    let two : List Item → List Item = λ w. procedure_items 0 [] t.procedures (thread_items [] t.threads w) in
    let e = c.in_err-variables.field-0.0 in
    handed_on (declared_in t) (λ w. one (two w)) c.args.spot.now c.bodies.new.spot e
    c.from_residual-in_err-variables.result c.from_residual-in_err-variables.ensures.1
    (second_fails (declared_in t) one two c.args.spot.now c.declarations.new.spot c.bodies.new.spot e
    c.in_ok-shown.ensures.walks c.in_err-variables.ensures.walks)

pub returns-in_err-parts-clause-walks : goal.returns-in_err-parts-clause-walks
returns-in_err-parts-clause-walks c =
    let t = c.args.tree.now in
    for_memory (declared_in t)
    (λ w. record_items [] t.records (global_items [] t.globals
    (procedure_items 0 [] t.procedures (thread_items [] t.threads w)))) c.args.spot.now c.bodies.new.spot
    c.from_residual-in_err-parts.result c.from_residual-in_err-parts.ensures.1

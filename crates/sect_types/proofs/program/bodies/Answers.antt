use Rattle.std.proofs.Common.{◌∙◌, [], subst, sym}
use Rattle.sect_types.specs.{Sight.{names_of_records}, Items.{procedure_items, thread_items}, Rules.{declared_in}}
use Rattle.sect_types.specs.steps.Capped.{HaveFewVariables}
use Rattle.sect_types.proofs.ThreadLemmas.{first_fails, second_fails, handed_on, for_memory, few_variables}
use Rattle.sect_types.proofs.program.bodies.Goals as goal

pub table-requires : goal.table-requires
table-requires c =
    subst HaveFewVariables (sym c.requires.context.procedures)
    (few_variables (names_of_records c.args.context.now.tree.now.records) c.args.context.now.tree.now.procedures
    c.in_ok-variables.ensures.fine)

pub returns-in_err-variables-clause-walks : goal.returns-in_err-variables-clause-walks
returns-in_err-variables-clause-walks c =
    let t = c.args.context.now.tree.now in
    let d = declared_in t in
    let one = procedure_items 0 [] t.procedures in
    let two = thread_items [] t.threads in
    handed_on d (λ w. one (two w)) c.args.spot.now c.procedures.new.spot c.in_err-variables.field-0.0
    c.from_residual.result c.from_residual.ensures.1
    (first_fails d one two c.args.spot.now c.procedures.new.spot c.in_err-variables.field-0.0
    c.in_err-variables.ensures.walks)

pub returns-in_err-table-clause-walks : goal.returns-in_err-table-clause-walks
returns-in_err-table-clause-walks c =
    let t = c.args.context.now.tree.now in
    for_memory (declared_in t) (λ w. procedure_items 0 [] t.procedures (thread_items [] t.threads w)) c.args.spot.now
    c.procedures.new.spot c.from_residual-in_err-table.result c.from_residual-in_err-table.ensures.1

pub returns-in_err-local_names-clause-walks : goal.returns-in_err-local_names-clause-walks
returns-in_err-local_names-clause-walks c =
    let t = c.args.context.now.tree.now in
    let d = declared_in t in
    let one = procedure_items 0 [] t.procedures in
    let two = thread_items [] t.threads in
    handed_on d (λ w. one (two w)) c.args.spot.now c.threads.new.spot c.in_err-local_names.field-0.0
    c.from_residual-in_err-local_names.result c.from_residual-in_err-local_names.ensures.1
    (second_fails d one two c.args.spot.now c.procedures.new.spot c.threads.new.spot c.in_err-local_names.field-0.0
    c.in_ok-variables.ensures.walks c.in_err-local_names.ensures.walks)

pub returns-clause-walks : goal.returns-clause-walks
returns-clause-walks c =
    let t = c.args.context.now.tree.now in
    λ w. c.in_ok-variables.ensures.walks (thread_items [] t.threads w) ∙ c.in_ok-local_names.ensures.walks w

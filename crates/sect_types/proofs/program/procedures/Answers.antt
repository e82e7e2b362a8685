use Rattle.std.proofs.Common.{◌∙◌, [], ◌∷◌, ◌++◌, ◌+◌, drop, arith, ap, length}
use Rattle.sect_front.specs.{declared.tree.Procedure.{Procedure}, Depth.{block_depth, procedures_depth}}
use Rattle.sect_types.specs.{Rules.{declared_in}, declared.rules.place.Place.TheVariants.{InProcedure}}
use Rattle.sect_types.specs.Items.{AProcedure, variables, local_items, block_items, procedure_items}
use Rattle.sect_types.proofs.Records.{fault_after}
use Rattle.sect_types.proofs.ThreadLemmas.{handed_on, procedure_more, procedure_fails, procedure_depth}
use Rattle.sect_types.proofs.program.procedures.Goals as goal

pub pass_procedure-requires-clause-shallow : goal.pass_procedure-requires-clause-shallow
pass_procedure-requires-clause-shallow c =
    omega (
      arith,
      procedure_depth c.procedures-procedure-items.result.now c.loop-procedure.procedure-index c.procedure-item.result
          (omega arith),
      ap (λ (p : Procedure). block_depth p.body) c.procedure-item.is,
      ap procedures_depth c.procedures-procedure-items.ensures,
      c.requires.shallow,
    )

pub returns-in_err-variables-clause-walks : goal.returns-in_err-variables-clause-walks
returns-in_err-variables-clause-walks c =
    let d = declared_in c.args.context.now.tree.now in
    let p = c.procedure-item.result in
    let names = c.loop-procedure.names in
    let e = c.in_err-variables.field-0.0 in
    handed_on d (procedure_items 0 [] c.args.context.now.tree.now.procedures) c.args.spot.now
    c.pass_procedure.new.spot e
    c.from_residual.result c.from_residual.ensures.1
    (fault_after d (procedure_items 0 [] c.args.context.now.tree.now.procedures)
    (λ w. AProcedure p.name names ∷ local_items [] (variables p)
    (block_items (variables p) (InProcedure (length names)) p.body w))
    (procedure_items (length names + 1) (names ++ p.name ∷ [])
    (drop (c.loop-procedure.procedure-index + 1) c.procedures-procedure-items.result.now))
    c.args.spot.now c.loop-procedure.spot c.pass_procedure.new.spot e
    (procedure_fails d c.args.context.now.tree.now.procedures c.procedures-procedure-items.result.now
    c.loop-procedure.procedure-index p names c.loop-procedure.all.items c.args.spot.now c.loop-procedure.spot
    (omega arith) c.procedure-item.is c.loop-procedure.invariant)
    c.in_err-variables.ensures.walks)

pub loop-procedure-preserved : goal.loop-procedure-preserved
loop-procedure-preserved c =
    let after = c.in_ok-variables.ensures in
    procedure_more (declared_in c.args.context.now.tree.now) c.args.context.now.tree.now.procedures
    c.procedures-procedure-items.result.now
    c.loop-procedure.procedure-index c.procedure-item.result c.loop-procedure.names c.pass_procedure.new.names
    c.loop-procedure.all.items c.push.new.self.items c.args.spot.now c.loop-procedure.spot c.pass_procedure.new.spot
    (omega arith) c.procedure-item.is c.loop-procedure.invariant after.walks after.names
    (c.in_ok-push.ensures.items ∙ ap (λ v. c.loop-procedure.all.items ++ v ∷ []) after.shown) after.few
    after.few_variables after.known_variables

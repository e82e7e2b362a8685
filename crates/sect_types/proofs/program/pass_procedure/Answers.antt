use Rattle.std.proofs.Common.{ap, Ok, Err, [], ◌∷◌, ℕ, length, refl}
use Rattle.sect_types.specs.{Rules.{declared_in}, Items.{AProcedure, variables, local_items, block_items}}
use Rattle.sect_types.specs.declared.rules.place.Place.TheVariants.{InProcedure}
use Rattle.sect_types.proofs.ThreadLemmas.{walks_body, walks_at, handed_on}
use Rattle.sect_types.proofs.program.pass_procedure.Goals as goal

pub returns-in_err-walk_procedure-clause-walks : goal.returns-in_err-walk_procedure-clause-walks
returns-in_err-walk_procedure-clause-walks c =
    let d = declared_in c.args.context.now.tree.now in
    let p = c.args.procedure.now in
    let at = InProcedure (length c.args.names.now) in
    let e = c.in_err-walk_procedure.field-0.0 in
    handed_on d (λ w. AProcedure p.name c.args.names.now ∷ local_items [] (variables p)
    (block_items (variables p) at p.body w)) c.args.spot.now c.walk_procedure.new.spot e
    c.from_residual-in_err-walk_procedure.result c.from_residual-in_err-walk_procedure.ensures.1
    (walks_body {A = ℕ} d (AProcedure p.name c.args.names.now) (variables p) at p.body c.args.spot.now
    c.pass.new.spot c.pass_variables.new.spot c.walk_procedure.new.spot (Err e)
    c.in_ok-pass.ensures.walks c.in_ok-variables.ensures.walks
    (walks_at {A = ℕ} d (variables p) (variables p) at (InProcedure c.len-number.result) p.body
    c.pass_variables.new.spot c.walk_procedure.new.spot (Err e) refl (ap InProcedure c.len-number.ensures)
    c.in_err-walk_procedure.ensures))

pub returns-clause-walks : goal.returns-clause-walks
returns-clause-walks c =
    let d = declared_in c.args.context.now.tree.now in
    let p = c.args.procedure.now in
    let at = InProcedure (length c.args.names.now) in
    walks_body {A = ℕ} d (AProcedure p.name c.args.names.now) (variables p) at p.body c.args.spot.now
    c.pass.new.spot c.pass_variables.new.spot c.walk_procedure.new.spot (Ok 0)
    c.in_ok-pass.ensures.walks c.in_ok-variables.ensures.walks
    (walks_at {A = ℕ} d (variables p) (variables p) at (InProcedure c.len-number.result) p.body
    c.pass_variables.new.spot c.walk_procedure.new.spot (Ok 0) refl (ap InProcedure c.len-number.ensures)
    c.in_ok-walk_procedure.ensures)

use Rattle.std.proofs.Common.{sym, ◌∙◌}
use Rattle.sect_types.specs.Items.{PrimitiveHead, AStatement}
use Rattle.sect_types.specs.steps.Standing.{declared_by}
use Rattle.sect_types.proofs.Heads.{primitive_rule, after_here as after_primitive_here, after_elsewhere, passed, faulty}
use Rattle.sect_types.proofs.rules.walk.pass_primitive.Goals as goal

pub returns-in-Err : goal.returns-in-Err
returns-in-Err c =
    faulty (declared_by c.args.scope.now c.args.standing.now.procedures) c.args.spot.now
    (AStatement (PrimitiveHead c.args.primitive.now) c.args.scope.now.locals c.args.standing.now.at)
    _ _ (primitive_rule c.args.scope.now c.args.standing.now.procedures c.args.spot.now c.args.standing.now.at
    c.args.primitive.now ∙ sym c.in-Err.ensures.rule) c.item.ensures

pub returns-in_ok-pass_primitive : goal.returns-in_ok-pass_primitive
returns-in_ok-pass_primitive c =
    passed (declared_by c.args.scope.now c.args.standing.now.procedures) c.args.spot.now _
    (AStatement (PrimitiveHead c.args.primitive.now) c.args.scope.now.locals c.args.standing.now.at)
    (primitive_rule c.args.scope.now c.args.standing.now.procedures c.args.spot.now c.args.standing.now.at
    c.args.primitive.now ∙ sym c.in_default.ensures.rule)
    (c.in_ok-pass_primitive.ensures.counted ∙ sym (after_primitive_here c.args.scope.now c.args.standing.now.procedures
    c.args.spot.now c.args.standing.now.at c.args.primitive.now (sym c.is_in_thread.ensures ∙ c.if-is_in_thread.true)))

pub returns-in_ok-pass_item : goal.returns-in_ok-pass_item
returns-in_ok-pass_item c =
    passed (declared_by c.args.scope.now c.args.standing.now.procedures) c.args.spot.now _
    (AStatement (PrimitiveHead c.args.primitive.now) c.args.scope.now.locals c.args.standing.now.at)
    (primitive_rule c.args.scope.now c.args.standing.now.procedures c.args.spot.now c.args.standing.now.at
    c.args.primitive.now ∙ sym c.in_default.ensures.rule)
    (c.in_ok-pass_item.ensures.counted ∙ sym (after_elsewhere c.args.scope.now c.args.standing.now.procedures
    c.args.spot.now c.args.standing.now.at (PrimitiveHead c.args.primitive.now)
    (sym c.is_in_thread.ensures ∙ c.if-is_in_thread.false)))

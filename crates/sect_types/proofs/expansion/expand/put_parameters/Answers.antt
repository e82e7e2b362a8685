use Rattle.std.proofs.{Common.{ap, arith, ◌∙◌, sym, refl, length}, lemmas.Option.{slice_get_read}}
use Rattle.sect_types.specs.steps.{Expansion.{argument_of}, Written.{write_parameters}, Inside.{scene_in}}
use Rattle.sect_types.proofs.{Parts.{operand_known}, Writing.{set_more, set_all}}
use Rattle.sect_types.specs.Statements.{joined}
use Rattle.sect_types.proofs.expansion.expand.put_parameters.Goals as goal

pub loop-place-init : goal.loop-place-init
loop-place-init c k =
    ap (λ n. joined c.args.out.now
    (write_parameters (scene_in c.args.inside.now) n c.args.parameters.now c.args.operands.now k))
    (omega arith)

pub argument-value-requires-clause-known : goal.argument-value-requires-clause-known
argument-value-requires-clause-known c =
    operand_known c.args.inside.now.scope.now c.args.operands.now c.loop-place.place c.index-operands-place.result
    c.requires.known (omega (arith, c.loop-place-test.true, c.requires.as_many)) c.index-operands-place.is

pub loop-place-preserved : goal.loop-place-preserved
loop-place-preserved c =
    set_more (scene_in c.args.inside.now) c.args.out.now c.loop-place.out c.push.new.self c.args.fresh
    c.loop-place.place c.args.parameters.now c.args.operands.now c.argument-value.result c.loop-place-test.true
    (c.argument-value.ensures ∙ ap (argument_of (scene_in c.args.inside.now)) (sym (slice_get_read c.args.operands.now
    (length c.args.operands.now) c.loop-place.place c.index-operands-place.result refl
    (omega (arith, c.loop-place-test.true, c.requires.as_many)) c.index-operands-place.is)))
    c.loop-place.invariant c.in_ok-push.ensures.ok

pub returns : goal.returns
returns c k =
    ap (joined c.loop-place.out)
    (sym (set_all (scene_in c.args.inside.now) c.args.fresh c.loop-place.place c.args.parameters.now _ k
    c.loop-place-test.false))
    ∙ c.loop-place.invariant k

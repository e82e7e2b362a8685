use Rattle.std.proofs.Common.{ap, arith, ◌∙◌, sym}
use Rattle.sect_types.specs.Statements.{joined}
use Rattle.sect_types.specs.steps.Written.{write_locals}
use Rattle.sect_types.proofs.Writing.{cleared_more, cleared_all}
use Rattle.sect_types.proofs.expansion.expand.put_cleared.Goals as goal

pub loop-place-init : goal.loop-place-init
loop-place-init c k = ap (λ n. joined c.args.out.now (write_locals n c.args.list.now k)) (omega arith)

pub loop-place-preserved : goal.loop-place-preserved
loop-place-preserved c =
    cleared_more c.args.out.now c.loop-place.out c.push.new.self c.args.fresh c.loop-place.place c.args.list.now
    c.index-list-place.result c.cleared-value.result c.loop-place-test.true c.index-list-place.is
    c.cleared-value.ensures c.loop-place.invariant c.in_ok-push.ensures.ok

pub returns : goal.returns
returns c k =
    ap (joined c.loop-place.out) (sym
    (cleared_all c.args.fresh c.loop-place.place c.args.list.now k c.loop-place-test.false))
    ∙ c.loop-place.invariant k

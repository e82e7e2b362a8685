use Rattle.std.proofs.Common.{arith, ap, sym, subst, ℕ, Err}
use Rattle.sect_front.specs.{Trees.{statement_of, statement_size, block_size}, Depth.{statement_depth, block_depth}}
use Rattle.sect_front.proofs.shared.Bodies.{size_at}
use Rattle.sect_types.specs.Items.{TestHead, AtomicHead, deeper, in_section, statement_items, block_items}
use Rattle.sect_types.specs.steps.{Walks.{Walks}, Standing.{StandingView, declared_by}}
use Rattle.sect_types.proofs.Passing.{kept, depth_at, one_block, first_fails}
use Rattle.sect_types.proofs.rules.walk.+walk.Goals as goal

pub walk_block-loop-statement-preserved : goal.walk_block-loop-statement-preserved
walk_block-loop-statement-preserved t c =
    kept _ c.args.scope.now.locals c.args.standing.now.at c.args.block.now c.as_slice-statement-items.result.now
    c.loop-statement.statement-index c.statement-item.result c.args.spot.now c.loop-statement.spot
    c.walk_statement.new.spot
    (omega arith) c.statement-item.is c.loop-statement.invariant c.in_ok-walk_statement.ensures

pub walk_block-walk_statement-requires : goal.walk_block-walk_statement-requires
walk_block-walk_statement-requires t c =
    let here = c.statement-item.is in
    let within = c.loop-statement.invariant.whole in
    let ss = c.as_slice-statement-items.result.now in
    let i = c.loop-statement.statement-index in (
      omega (
        arith,
        size_at ss i c.statement-item.result (omega arith),
        ap (λ s. statement_size (statement_of s)) here,
        ap block_size within,
        c.decreases,
      ),
      omega (
        arith,
        depth_at ss i c.statement-item.result (omega arith),
        ap (λ s. statement_depth (statement_of s)) here,
        ap block_depth within,
        c.requires,
      ),
    )

pub walk_statement-returns-in_ok-pass_test-in-If : goal.walk_statement-returns-in_ok-pass_test-in-If
walk_statement-returns-in_ok-pass_test-in-If t c =
    let s = c.args.scope.now in
    let ps = c.args.standing.now.procedures in
    subst (λ x. Walks (declared_by s ps) (statement_items s.locals c.args.standing.now.at (statement_of x))
    c.args.spot.now c.walk_block.new.spot c.walk_block.result) (sym c.in-If.is)
    (one_block (declared_by s ps) s.locals c.args.standing.now.at (deeper c.args.standing.now.at)
    (TestHead c.in-If.test)
    c.in-If.then c.args.spot.now c.pass_test.new.spot c.walk_block.new.spot c.walk_block.result
    c.in_ok-pass_test-in-If.ensures
    (subst (λ (x : StandingView). Walks (declared_by s x.procedures) (block_items s.locals x.at c.in-If.then)
    c.pass_test.new.spot c.walk_block.new.spot c.walk_block.result) c.deeper.ensures c.walk_block.ensures))

pub walk_statement-returns-in_ok-pass_test-in-While : goal.walk_statement-returns-in_ok-pass_test-in-While
walk_statement-returns-in_ok-pass_test-in-While t c =
    let s = c.args.scope.now in
    let ps = c.args.standing.now.procedures in
    subst (λ x. Walks (declared_by s ps) (statement_items s.locals c.args.standing.now.at (statement_of x))
    c.args.spot.now c.walk_block-in-While.new.spot c.walk_block-in-While.result) (sym c.in-While.is)
    (one_block (declared_by s ps) s.locals c.args.standing.now.at (deeper c.args.standing.now.at)
    (TestHead c.in-While.test)
    c.in-While.body c.args.spot.now c.pass_test-in-While.new.spot c.walk_block-in-While.new.spot
    c.walk_block-in-While.result
    c.in_ok-pass_test-in-While.ensures
    (subst (λ (x : StandingView). Walks (declared_by s x.procedures) (block_items s.locals x.at c.in-While.body)
    c.pass_test-in-While.new.spot c.walk_block-in-While.new.spot c.walk_block-in-While.result) c.deeper-in-While.ensures
    c.walk_block-in-While.ensures))

pub walk_statement-returns-in_ok-pass_atomic-in-Atomic : goal.walk_statement-returns-in_ok-pass_atomic-in-Atomic
walk_statement-returns-in_ok-pass_atomic-in-Atomic t c =
    let s = c.args.scope.now in
    let ps = c.args.standing.now.procedures in
    subst (λ x. Walks (declared_by s ps) (statement_items s.locals c.args.standing.now.at (statement_of x))
    c.args.spot.now c.walk_block-in-Atomic.new.spot c.walk_block-in-Atomic.result) (sym c.in-Atomic.is)
    (one_block (declared_by s ps) s.locals c.args.standing.now.at (in_section c.args.standing.now.at) AtomicHead
    c.in-Atomic.body c.args.spot.now c.pass_atomic.new.spot c.walk_block-in-Atomic.new.spot
    c.walk_block-in-Atomic.result
    c.in_ok-pass_atomic-in-Atomic.ensures
    (subst (λ (x : StandingView). Walks (declared_by s x.procedures) (block_items s.locals x.at c.in-Atomic.body)
    c.pass_atomic.new.spot c.walk_block-in-Atomic.new.spot c.walk_block-in-Atomic.result) c.in_section.ensures
    c.walk_block-in-Atomic.ensures))

pub walk_statement-returns-in_err-walk_block-in-IfElse : goal.walk_statement-returns-in_err-walk_block-in-IfElse
walk_statement-returns-in_err-walk_block-in-IfElse t c =
    let s = c.args.scope.now in
    let ps = c.args.standing.now.procedures in
    subst (λ x. Walks (declared_by s ps) (statement_items s.locals c.args.standing.now.at (statement_of x))
    c.args.spot.now c.walk_block-in-IfElse.new.spot c.from_residual-in_err-walk_block-in-IfElse.result)
    (sym c.in-IfElse.is)
    (first_fails (declared_by s ps) s.locals c.args.standing.now.at c.in-IfElse.test c.in-IfElse.then c.in-IfElse.other
    c.args.spot.now c.pass_test-in-IfElse.new.spot c.walk_block-in-IfElse.new.spot
    c.in_err-walk_block-in-IfElse.field-0.0 c.from_residual-in_err-walk_block-in-IfElse.result
    c.from_residual-in_err-walk_block-in-IfElse.ensures.1 c.in_ok-pass_test-in-IfElse.ensures
    (subst (λ (x : StandingView). Walks {A = ℕ} (declared_by s x.procedures)
    (block_items s.locals x.at c.in-IfElse.then)
    c.pass_test-in-IfElse.new.spot c.walk_block-in-IfElse.new.spot (Err c.in_err-walk_block-in-IfElse.field-0.0))
    c.deeper-in-IfElse.ensures c.in_err-walk_block-in-IfElse.ensures))

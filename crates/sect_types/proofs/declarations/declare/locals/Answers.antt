use Rattle.std.proofs.Common.{[], ◌∷◌, ◌++◌, ◌+◌, drop, arith, ap, sym, ◌∙◌, append-nil}
use Rattle.sect_types.specs.{Items.{ALocal, local_items}, Rules.{declared_in}}
use Rattle.sect_types.specs.steps.{Judging.{judge}, Listing.{AreLocals}}
use Rattle.sect_lemmas.proofs.Elements.{drop_next}
use Rattle.sect_types.proofs.{Records.{fault_after}, Listed.{local_more}, PassedElements.{none_left}}
use Rattle.sect_types.proofs.ThreadLemmas.{handed_on}
use Rattle.sect_types.proofs.declarations.declare.locals.Goals as goal

pub loop-local-preserved : goal.loop-local-preserved
loop-local-preserved c =
    let after = c.in_ok-pass.ensures in
    local_more (declared_in c.args.tree.now) c.args.list.now c.args.list.now c.loop-local.local-index
    c.local-item.result
    c.loop-local.names c.pass.new.names c.args.spot.now c.loop-local.spot c.pass.new.spot (omega arith)
    c.local-item.is c.loop-local.invariant after.walks after.names after.few after.known

pub returns-in_err-pass-clause-walks : goal.returns-in_err-pass-clause-walks
returns-in_err-pass-clause-walks c =
    let d = declared_in c.args.tree.now in
    let x = c.local-item.result in
    let names = c.loop-local.names in
    let e = c.in_err-pass.field-0.0 in
    handed_on d (local_items [] c.args.list.now) c.args.spot.now c.pass.new.spot e c.from_residual-in_err-pass.result
    c.from_residual-in_err-pass.ensures.1
    (fault_after d (local_items [] c.args.list.now) (λ w. ALocal x.kind x.name names ∷ w)
    (local_items (names ++ x.name ∷ []) (drop (c.loop-local.local-index + 1) c.args.list.now))
    c.args.spot.now c.loop-local.spot c.pass.new.spot e
    (λ w. c.loop-local.invariant.walks w ∙ ap (λ l. judge d c.loop-local.spot (local_items names l w))
    (drop_next c.args.list.now c.loop-local.local-index x (omega arith) c.local-item.is))
    c.in_err-pass.ensures.walks)

done : (c : goal.After-loop-local) → AreLocals (declared_in c.args.tree.now) c.args.list.now [] c.loop-local.names
    c.args.spot.now c.loop-local.spot
done c =
    none_left
    (λ l. AreLocals (declared_in c.args.tree.now) c.args.list.now l c.loop-local.names c.args.spot.now
    c.loop-local.spot)
    c.args.list.now c.loop-local.local-index c.loop-local-test.false c.loop-local.invariant

pub returns-clause-walks : goal.returns-clause-walks
returns-clause-walks c = (done c).walks

pub returns-clause-names : goal.returns-clause-names
returns-clause-names c = sym (append-nil c.loop-local.names) ∙ (done c).named

pub returns-clause-known : goal.returns-clause-known
returns-clause-known c = (done c).known

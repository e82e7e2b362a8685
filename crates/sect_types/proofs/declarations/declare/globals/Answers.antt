use Rattle.std.proofs.Common.{[], ◌∷◌, ◌++◌, ◌+◌, drop, arith, ap, sym, ◌∙◌, append-nil}
use Rattle.sect_types.specs.{Items.{AGlobal, global_items}, Rules.{declared_in, Counts}}
use Rattle.sect_types.specs.steps.{Judging.{judge}, Listing.{AreGlobals}}
use Rattle.sect_lemmas.proofs.Elements.{drop_next}
use Rattle.sect_types.proofs.{Records.{fault_after}, Listed.{global_more}, PassedElements.{none_left}}
use Rattle.sect_types.proofs.ThreadLemmas.{handed_on}
use Rattle.sect_types.proofs.declarations.declare.globals.Goals as goal

pub loop-global-preserved : goal.loop-global-preserved
loop-global-preserved c =
    let after = c.in_ok-pass.ensures in
    global_more (declared_in c.args.tree.now) c.args.tree.now.globals c.globals-global-items.result.now
    c.loop-global.global-index c.global-item.result
    c.loop-global.names c.pass.new.names c.args.spot.now c.loop-global.spot c.pass.new.spot (omega arith)
    c.global-item.is c.loop-global.invariant after.walks after.names (ap (λ (s : Counts). s.sites) after.counts)
    after.few after.known

pub returns-in_err-pass-clause-walks : goal.returns-in_err-pass-clause-walks
returns-in_err-pass-clause-walks c =
    let d = declared_in c.args.tree.now in
    let x = c.global-item.result in
    let names = c.loop-global.names in
    let e = c.in_err-pass.field-0.0 in
    handed_on d (global_items [] c.args.tree.now.globals) c.args.spot.now c.pass.new.spot e
    c.from_residual-in_err-pass.result
    c.from_residual-in_err-pass.ensures.1
    (fault_after d (global_items [] c.args.tree.now.globals) (λ w. AGlobal x.of x.name names ∷ w)
    (global_items (names ++ x.name ∷ []) (drop (c.loop-global.global-index + 1) c.globals-global-items.result.now))
    c.args.spot.now c.loop-global.spot c.pass.new.spot e
    (λ w. c.loop-global.invariant.walks w ∙ ap (λ l. judge d c.loop-global.spot (global_items names l w))
    (drop_next c.globals-global-items.result.now c.loop-global.global-index x (omega arith) c.global-item.is))
    c.in_err-pass.ensures.walks)

done : (c : goal.After-loop-global) → AreGlobals (declared_in c.args.tree.now) c.args.tree.now.globals []
    c.loop-global.names
    c.args.spot.now c.loop-global.spot
done c =
    none_left
    (λ l. AreGlobals (declared_in c.args.tree.now) c.args.tree.now.globals l c.loop-global.names c.args.spot.now
    c.loop-global.spot)
    c.globals-global-items.result.now c.loop-global.global-index c.loop-global-test.false c.loop-global.invariant

pub returns-clause-walks : goal.returns-clause-walks
returns-clause-walks c = (done c).walks

pub returns-clause-names : goal.returns-clause-names
returns-clause-names c = sym (append-nil c.loop-global.names) ∙ (done c).named

pub returns-clause-known : goal.returns-clause-known
returns-clause-known c = (done c).known

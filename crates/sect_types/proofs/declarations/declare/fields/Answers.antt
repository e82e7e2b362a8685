use Rattle.std.proofs.Common.{[], ◌∷◌, ◌++◌, ◌+◌, drop, arith, ap, sym, ◌∙◌, append-nil}
use Rattle.sect_types.specs.{Items.{AField, field_items}, Rules.{declared_in, Counts}}
use Rattle.sect_types.specs.steps.{Judging.{judge}, Listing.{IsListed}}
use Rattle.sect_lemmas.proofs.Elements.{drop_next}
use Rattle.sect_types.proofs.{Records.{fault_after}, Listed.{field_more}, PassedElements.{none_left}}
use Rattle.sect_types.proofs.ThreadLemmas.{handed_on}
use Rattle.sect_types.proofs.declarations.declare.fields.Goals as goal

pub loop-field-preserved : goal.loop-field-preserved
loop-field-preserved c =
    let after = c.in_ok-pass.ensures in
    field_more (declared_in c.args.tree.now) c.args.list.now c.args.list.now c.loop-field.field-index
    c.field-item.result
    c.loop-field.names c.pass.new.names c.args.spot.now c.loop-field.spot c.pass.new.spot (omega arith)
    c.field-item.is c.loop-field.invariant after.walks after.names (ap (λ (s : Counts). s.sites) after.counts) after.few
    after.known

pub returns-in_err-pass-clause-walks : goal.returns-in_err-pass-clause-walks
returns-in_err-pass-clause-walks c =
    let d = declared_in c.args.tree.now in
    let x = c.field-item.result in
    let names = c.loop-field.names in
    let e = c.in_err-pass.field-0.0 in
    handed_on d (field_items [] c.args.list.now) c.args.spot.now c.pass.new.spot e c.from_residual-in_err-pass.result
    c.from_residual-in_err-pass.ensures.1
    (fault_after d (field_items [] c.args.list.now) (λ w. AField x.kind x.name names ∷ w)
    (field_items (names ++ x.name ∷ []) (drop (c.loop-field.field-index + 1) c.args.list.now))
    c.args.spot.now c.loop-field.spot c.pass.new.spot e
    (λ w. c.loop-field.invariant.walks w ∙ ap (λ l. judge d c.loop-field.spot (field_items names l w))
    (drop_next c.args.list.now c.loop-field.field-index x (omega arith) c.field-item.is))
    c.in_err-pass.ensures.walks)

done : (c : goal.After-loop-field) → IsListed (declared_in c.args.tree.now) c.args.list.now [] c.loop-field.names
    c.args.spot.now c.loop-field.spot
done c =
    none_left
    (λ l. IsListed (declared_in c.args.tree.now) c.args.list.now l c.loop-field.names c.args.spot.now c.loop-field.spot)
    c.args.list.now c.loop-field.field-index c.loop-field-test.false c.loop-field.invariant

pub returns-clause-walks : goal.returns-clause-walks
returns-clause-walks c = (done c).walks

pub returns-clause-names : goal.returns-clause-names
returns-clause-names c = sym (append-nil c.loop-field.names) ∙ (done c).named

pub returns-clause-known : goal.returns-clause-known
returns-clause-known c = (done c).known

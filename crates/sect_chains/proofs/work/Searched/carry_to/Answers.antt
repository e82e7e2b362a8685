use Rattle.std.proofs.{Common.{◌≡◌, Some, sym, ap, ◌∙◌, subst, refl, arith, [], ◌∷◌}, lemmas.Option.{slice_get-get_or}}
use Rattle.std.proofs.lemmas.Result.{on_ok_weaker}
use Rattle.std.specs.Prelude.{slice_get}
use Rattle.sect_lemmas.proofs.{Membership.{Has-slice_get}, Places.{told_of}}
use Rattle.sect_graph.specs.{declared.flow.Node.{Node}, Paths.{LeadsTo}}
use Rattle.sect_names.specs.Carrying.{CarriedBack}
use Rattle.sect_chains.specs.steps.{Keeping.{KeptView}, Working.{links_of, nexts_of, kept_of, Grows}}
use Rattle.sect_chains.specs.steps.Ordering.{links_in, nexts_in, Adds}
use Rattle.sect_chains.proofs.{Adding.{carried_adds}, Carrying.{carried_to}, Growing.{kept_numbers}}
use Rattle.sect_chains.proofs.{Listing.{few_in_order}, Staying.{stayed}}
use Rattle.sect_chains.proofs.work.Searched.carry_to.Goals as goal

pub lock-requires : goal.lock-requires
lock-requires c =
    let a = c.args.self in
    let old = c.args.trail.now in
    let x = c.index.result.now in
    let at : slice_get old.steps.items c.args.index ≡ Some x = slice_get-get_or old.steps.items c.args.index x
    c.requires.index ∙ ap (λ z. Some z) (sym c.index.ensures) in
    kept_numbers a.scheme.now a.thread a.last.now a.flow.now old.numbering (kept_of old) c.requires.work x
    (Has-slice_get old.steps.items c.args.index x at)

pub keep-requires-clause-count : goal.keep-requires-clause-count
keep-requires-clause-count c = c.requires.work.numbering.count

pub returns-then-stays-clause-kept : goal.returns-then-stays-clause-kept
returns-then-stays-clause-kept c = on_ok_weaker c.keep.result (λ is y b at_y at_b.
    let a = c.args.self in
    let s = a.scheme.now in
    let t = a.thread in
    let g = a.flow.now in
    let old = c.args.trail.now in
    let i = c.args.index in
    let x = c.index.result.now in
    let keys = old.numbering.keys in
    let at : slice_get old.steps.items i ≡ Some x = slice_get-get_or old.steps.items i x c.requires.index
    ∙ ap (λ z. Some z) (sym c.index.ensures) in
    let label = told_of (λ (z : Node). z.label) g c.args.node c.action-label.result c.action-label.ensures y at_y in
    let f = stayed s t a.last.now g old.numbering (kept_of old) c.requires.work c.requires.lawful i x at
    c.lock.result.now c.lock.ensures c.action-label.result (c.stays.ensures c.if-stays.true s) y b (sym label) at_b in
    subst (λ v. Grows s t a.last.now g old.numbering (kept_of old) old.numbering v (λ z. (z.node ≡ c.args.node)
    × CarriedBack s t y.label b.lock z.lock)) (sym is)
    (carried_to s t a.last.now g old.numbering (kept_of old) old.numbering c.args.node i y b (x.number ∷ [])
    (x.number ∷ []) c.requires.work at_y (subst (LeadsTo y) f.0 (c.requires.leads y x at_y at)) at_b f.1
    (few_in_order keys (x.number ∷ []) (x.number ∷ []) (omega arith) refl)))
    c.keep.ensures

pub returns-then-stays-clause-order : goal.returns-then-stays-clause-order
returns-then-stays-clause-order c = on_ok_weaker c.keep.result (λ is y b at_y at_b.
    let a = c.args.self in
    let s = a.scheme.now in
    let t = a.thread in
    let g = a.flow.now in
    let old = c.args.trail.now in
    let i = c.args.index in
    let j = c.args.node in
    let x = c.index.result.now in
    let keys = old.numbering.keys in
    let at : slice_get old.steps.items i ≡ Some x = slice_get-get_or old.steps.items i x c.requires.index
    ∙ ap (λ z. Some z) (sym c.index.ensures) in
    let label = told_of (λ (z : Node). z.label) g j c.action-label.result c.action-label.ensures y at_y in
    let f = stayed s t a.last.now g old.numbering (kept_of old) c.requires.work c.requires.lawful i x at
    c.lock.result.now c.lock.ensures c.action-label.result (c.stays.ensures c.if-stays.true s) y b (sym label) at_b in
    subst (λ (v : KeptView). Adds s (links_in old) (nexts_in old) (links_of keys v.steps) (nexts_of v.steps)
    (Some i) (λ z. z.node ≡ j) (λ z. (z.node ≡ j) × CarriedBack s t y.label b.lock z.lock)) (sym is)
    (carried_adds s t a.last.now g old.numbering (kept_of old) old.numbering j i y b (x.number ∷ []) (x.number ∷ [])
    c.requires.work at_y (subst (LeadsTo y) f.0 (c.requires.leads y x at_y at)) at_b f.1
    (few_in_order keys (x.number ∷ []) (x.number ∷ []) (omega arith) refl) c.requires.sorted c.requires.before))
    c.keep.ensures

use Rattle.std.proofs.{Common.{◌≡◌, [], Some, sym, ap, ◌∙◌, subst}, lemmas.Option.{slice_get-get_or}}
use Rattle.std.proofs.lemmas.Result.{on_ok_weaker}
use Rattle.std.specs.Prelude.{slice_get}
use Rattle.sect_lemmas.proofs.{Membership.{Has-slice_get}, Places.{told_of, at_of}}
use Rattle.sect_graph.specs.{declared.flow.Node.{Node}, Paths.{LeadsTo}}
use Rattle.sect_names.specs.{Carrying.{CarriedBack}, Chains.{link}, declared.link.Link.{Link}}
use Rattle.sect_infer.specs.Numberings.{Finds, IsFinding}
use Rattle.sect_chains.specs.steps.{Keeping.{KeptView}, Working.{links_of, nexts_of, kept_of, Grows}}
use Rattle.sect_chains.specs.steps.Ordering.{links_in, nexts_in, Adds}
use Rattle.sect_chains.proofs.{Adding.{carried_adds}, Growing.{kept_numbers, step_found, lock_is}, Working.{trail_lock}}
use Rattle.sect_chains.proofs.{Carrying.{carried_to}, work.Searched.carry_over.Goals.{In_ok-carry_one}}
use Rattle.sect_chains.proofs.work.Searched.carry_over.Goals as goal

pub carry_one-requires-clause-number : goal.carry_one-requires-clause-number
carry_one-requires-clause-number c =
    let a = c.args.self in
    let old = c.args.trail.now in
    let x = c.index.result.now in
    let at : slice_get old.steps.items c.args.index ≡ Some x = slice_get-get_or old.steps.items c.args.index x
    c.requires.index ∙ ap (λ z. Some z) (sym c.index.ensures) in
    kept_numbers a.scheme.now a.thread a.last.now a.flow.now old.numbering (kept_of old) c.requires.work x
    (Has-slice_get old.steps.items c.args.index x at)

pub carry_one-requires-clause-lawful : goal.carry_one-requires-clause-lawful
carry_one-requires-clause-lawful c = λ l got.
    let a = c.args.self in
    let old = c.args.trail.now in
    let x = c.index.result.now in
    let at : slice_get old.steps.items c.args.index ≡ Some x = slice_get-get_or old.steps.items c.args.index x
    c.requires.index ∙ ap (λ z. Some z) (sym c.index.ensures) in
    let found = step_found a.scheme.now a.thread a.last.now a.flow.now old.numbering (kept_of old) c.requires.work x l
    (Has-slice_get old.steps.items c.args.index x at) got in
    let d = c.requires.work.trails (link x.node l) found in
    (trail_lock a.scheme.now a.thread a.last.now a.flow.now c.requires.lawful (link x.node l) d.0 d.1).1

-- what is found, by the numbers that were found
finds : (c : In_ok-carry_one) → (y : Node) (b : Link)
    → slice_get c.args.self.flow.now c.args.node ≡ Some y
    → slice_get (links_in c.args.trail.now) c.args.index ≡ Some b
    → (LeadsTo y b.node) × Finds c.args.self.scheme.now c.args.trail.now.numbering [] c.carry_one.new.numbering
    c.carry_one.new.found (CarriedBack c.args.self.scheme.now c.args.self.thread y.label b.lock)
finds c y b at_y at_b =
    let a = c.args.self in
    let s = a.scheme.now in
    let t = a.thread in
    let g = a.flow.now in
    let old = c.args.trail.now in
    let i = c.args.index in
    let x = c.index.result.now in
    let at : slice_get old.steps.items i ≡ Some x = slice_get-get_or old.steps.items i x c.requires.index
    ∙ ap (λ z. Some z) (sym c.index.ensures) in
    let within = kept_numbers s t a.last.now g old.numbering (kept_of old) c.requires.work x
    (Has-slice_get old.steps.items i x at) in
    let told = lock_is old.numbering.keys old.steps.items i x b within at at_b in
    let new = c.carry_one.new.numbering in
    let label = told_of (λ (z : Node). z.label) g c.args.node c.action-label.result c.action-label.ensures y at_y in (
      subst (LeadsTo y) told.0 (c.requires.leads y x at_y at),
      subst (λ ms. Finds s old.numbering ms new c.carry_one.new.found (CarriedBack s t y.label b.lock))
          c.clear.ensures
          (subst (λ z. Finds s old.numbering c.clear.new.self new c.carry_one.new.found (CarriedBack s t z b.lock))
          (sym label) (c.in_ok-carry_one.ensures b.lock told.1)),
    )

-- what was found for the lock of the step
finding : (c : In_ok-carry_one) → IsFinding c.args.self.scheme.now c.carry_one.new.numbering c.carry_one.new.found
finding c =
    let a = c.args.self in
    let old = c.args.trail.now in
    let x = c.index.result.now in
    let at : slice_get old.steps.items c.args.index ≡ Some x = slice_get-get_or old.steps.items c.args.index x
    c.requires.index ∙ ap (λ z. Some z) (sym c.index.ensures) in
    let within = kept_numbers a.scheme.now a.thread a.last.now a.flow.now old.numbering (kept_of old) c.requires.work x
    (Has-slice_get old.steps.items c.args.index x at) in
    let l = at_of old.numbering.keys x.number within in
    (c.in_ok-carry_one.ensures l.0 l.1).finding

pub keep_found-requires-clause-count : goal.keep_found-requires-clause-count
keep_found-requires-clause-count c =
    (finding (goal.at.keep_found-requires-clause-count c).In_ok-carry_one).numbering.count

pub keep_found-requires-clause-apart : goal.keep_found-requires-clause-apart
keep_found-requires-clause-apart c =
    (finding (goal.at.keep_found-requires-clause-apart c).In_ok-carry_one).numbering.apart

pub keep_found-requires-clause-once : goal.keep_found-requires-clause-once
keep_found-requires-clause-once c = (finding (goal.at.keep_found-requires-clause-once c).In_ok-carry_one).apart

pub keep_found-requires-clause-numbers : goal.keep_found-requires-clause-numbers
keep_found-requires-clause-numbers c = (finding (goal.at.keep_found-requires-clause-numbers c).In_ok-carry_one).numbers

pub returns-clause-kept : goal.returns-clause-kept
returns-clause-kept c = on_ok_weaker c.keep_found.result (λ k y b at_y at_b.
    let a = c.args.self in
    let s = a.scheme.now in
    let t = a.thread in
    let g = a.flow.now in
    let old = c.args.trail.now in
    let new = c.carry_one.new.numbering in
    let f = finds (goal.at.returns-clause-kept c).In_ok-carry_one y b at_y at_b in
    subst (λ v. Grows s t a.last.now g old.numbering (kept_of old) new v (λ z. (z.node ≡ c.args.node)
    × CarriedBack s t y.label b.lock z.lock)) (sym k.2)
    (carried_to s t a.last.now g old.numbering (kept_of old) new c.args.node c.args.index y b c.carry_one.new.found k.0
    c.requires.work at_y f.0 at_b f.1 k.1))
    c.keep_found.ensures

pub returns-clause-order : goal.returns-clause-order
returns-clause-order c = on_ok_weaker c.keep_found.result (λ k y b at_y at_b.
    let a = c.args.self in
    let s = a.scheme.now in
    let t = a.thread in
    let g = a.flow.now in
    let old = c.args.trail.now in
    let new = c.carry_one.new.numbering in
    let j = c.args.node in
    let f = finds (goal.at.returns-clause-order c).In_ok-carry_one y b at_y at_b in
    subst (λ (v : KeptView). Adds s (links_in old) (nexts_in old) (links_of new.keys v.steps) (nexts_of v.steps)
    (Some c.args.index) (λ z. z.node ≡ j) (λ z. (z.node ≡ j) × CarriedBack s t y.label b.lock z.lock)) (sym k.2)
    (carried_adds s t a.last.now g old.numbering (kept_of old) new j c.args.index y b c.carry_one.new.found k.0
    c.requires.work at_y f.0 at_b f.1 k.1 c.requires.sorted c.requires.before))
    c.keep_found.ensures

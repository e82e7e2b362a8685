use Rattle.std.proofs.Common.{◌≡◌, Some, refl, sym, subst}
use Rattle.std.specs.Prelude.{slice_get}
use Rattle.sect_lemmas.proofs.Places.{told_at, told_of}
use Rattle.sect_types.specs.declared.expansion.action.Label.{Label}
use Rattle.sect_graph.specs.{declared.flow.Node.{Node}, declared.flow.Successors.{Successors}, Paths.{IsSuccessor}}
use Rattle.sect_names.specs.Carrying.{CarriedBack}
use Rattle.sect_check.proofs.links.links_to.Goals as goal

pub returns-then-stays : goal.returns-then-stays
returns-then-stays c =
    let s = c.args.section.scheme.now in
    let g = c.args.section.flow.now in
    let pair = c.args.pair in
    let node = c.in-Some.node in
    let x = told_at (λ (n : Node). n.label) g node c.action-label.result c.action-label.ensures in
    let next = told_of (λ (n : Node). n.next) g node c.succ.result c.succ.ensures x.0 x.1 in
    let stay = c.stays.ensures c.if-stays.true s c.requires.lawful pair.step.lock.now in (
      λ t. (
        x.0,
        subst (λ i. slice_get g i ≡ Some x.0) c.in-Some.ensures.0 x.1,
        subst (λ (z : Successors). IsSuccessor z pair.next.node) (sym next)
            (c.leads_to.ensures.0 c.if-not-leads_to.false),
        subst (λ (a : Label). CarriedBack s c.args.section.thread a pair.next.lock.now pair.step.lock.now) (sym x.2)
            (stay.1 (c.requires.same c.if-same.true)),
      ),
      λ h. refl,
    )

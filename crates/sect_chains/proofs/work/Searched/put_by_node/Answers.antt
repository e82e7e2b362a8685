use Rattle.std.proofs.{Common.{◌≡◌, ◌↔◌, Some, None, sym, ap, subst}, lemmas.Result.{on_ok_weaker}}
use Rattle.sect_names.specs.{declared.lock.Lock.{Lock}, Carrying.{Generated}, Chains.{link}, declared.link.Link.{Link}}
use Rattle.sect_graph.specs.declared.flow.Node.{Node}
use Rattle.sect_lemmas.proofs.Places.{told_at}
use Rattle.sect_chains.specs.steps.{Working.{kept_of, IsGeneratedBy}, Ordering.{links_in, nexts_in}}
use Rattle.sect_chains.proofs.Adding.{adds_none, adds_as}
use Rattle.sect_chains.proofs.Carrying.{by_node_none, by_node_one, by_node_nothing, by_node_is, generated_here}
use Rattle.sect_chains.proofs.work.Searched.put_by_node.Goals as goal

pub returns-in-None-clause-kept : goal.returns-in-None-clause-kept
returns-in-None-clause-kept c =
    let a = c.args.self in
    let s = a.scheme.now in
    let g = a.flow.now in
    let old = c.args.trail.now in
    let node = told_at (λ (y : Node). y.label) g c.args.node c.action-label.result c.action-label.ensures in
    let tells = subst (λ z. (l : Lock) → (c.generate.result ≡ Some l) ↔ Generated s a.thread z l)
    (sym node.2) c.generate.ensures in
    by_node_none s a.thread a.last.now g c.args.node node.0 node.1 c.generate.result tells old.numbering
    (kept_of old) c.requires.work c.in-None.is

pub put-requires-clause-generated : goal.put-requires-clause-generated
put-requires-clause-generated c =
    let a = c.args.self in
    let s = a.scheme.now in
    let g = a.flow.now in
    let node = told_at (λ (y : Node). y.label) g c.args.node c.action-label.result c.action-label.ensures in
    let tells = subst (λ z. (l : Lock) → (c.generate.result ≡ Some l) ↔ Generated s a.thread z l)
    (sym node.2) c.generate.ensures in
    generated_here s a.thread a.last.now g c.args.node node.0 node.1 c.generate.result tells c.in-Some.lock c.in-Some.is

pub returns-in-Some-clause-kept : goal.returns-in-Some-clause-kept
returns-in-Some-clause-kept c =
    let a = c.args.self in
    let s = a.scheme.now in
    let g = a.flow.now in
    let old = c.args.trail.now in
    let new = c.put.new.trail in
    let node = told_at (λ (y : Node). y.label) g c.args.node c.action-label.result c.action-label.ensures in
    let tells = subst (λ z. (l : Lock) → (c.generate.result ≡ Some l) ↔ Generated s a.thread z l)
    (sym node.2) c.generate.ensures in
    on_ok_weaker c.put.result (by_node_one s a.thread a.last.now g c.args.node node.0 node.1 c.generate.result tells
    old.numbering (kept_of old)
    new.numbering (kept_of new) c.in-Some.lock c.in-Some.is) c.put.ensures.kept

pub returns-in-None-clause-order : goal.returns-in-None-clause-order
returns-in-None-clause-order c =
    let a = c.args.self in
    let s = a.scheme.now in
    let g = a.flow.now in
    let old = c.args.trail.now in
    let node = told_at (λ (y : Node). y.label) g c.args.node c.action-label.result c.action-label.ensures in
    let tells = subst (λ z. (l : Lock) → (c.generate.result ≡ Some l) ↔ Generated s a.thread z l)
    (sym node.2) c.generate.ensures in
    adds_none s (links_in old) (nexts_in old) None (λ x. x.node ≡ c.args.node)
    (IsGeneratedBy s a.thread g c.args.node) c.requires.sorted
    (by_node_nothing s a.thread a.last.now g c.args.node node.0 node.1 c.generate.result tells c.in-None.is)

pub returns-in-Some-clause-order : goal.returns-in-Some-clause-order
returns-in-Some-clause-order c =
    let a = c.args.self in
    let s = a.scheme.now in
    let g = a.flow.now in
    let old = c.args.trail.now in
    let new = c.put.new.trail in
    let j = c.args.node in
    let l = c.in-Some.lock in
    let node = told_at (λ (y : Node). y.label) g j c.action-label.result c.action-label.ensures in
    let tells = subst (λ z. (m : Lock) → (c.generate.result ≡ Some m) ↔ Generated s a.thread z m)
    (sym node.2) c.generate.ensures in
    on_ok_weaker c.put.result
    (adds_as s (links_in old) (nexts_in old) (links_in new) (nexts_in new) None (λ x. x ≡ link j l) (λ x. x ≡ link j l)
    (λ x. x.node ≡ j) (IsGeneratedBy s a.thread g j) (λ x e. ap (λ (z : Link). z.node) e)
    (by_node_is s a.thread a.last.now g j node.0 node.1 c.generate.result tells l c.in-Some.is))
    c.put.ensures.order

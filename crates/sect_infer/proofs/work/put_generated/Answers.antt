use Rattle.std.proofs.{Common.{◌≡◌, ◌↔◌, Some, sym, subst}, lemmas.Result.{on_ok_weaker}}
use Rattle.std.specs.Prelude.{slice_get}
use Rattle.sect_lemmas.proofs.Places.{told_at}
use Rattle.sect_graph.specs.declared.flow.Node.{Node}
use Rattle.sect_names.specs.{declared.lock.Lock.{Lock}, Carrying.{Generated}}
use Rattle.sect_infer.proofs.{Passing.{generated_none, generated_some}, work.put_generated.Goals.{After-generate}}
use Rattle.sect_infer.proofs.work.put_generated.Goals as goal

-- the node, and what it generates
told : (c : After-generate)
    → (y : Node) × (slice_get c.args.section.flow.now c.args.node ≡ Some y)
    × ((l : Lock) → (c.generate.result ≡ Some l)
    ↔ Generated c.args.section.scheme.now c.args.section.thread y.label l)
told c =
    let a = c.args.section in
    let node = told_at (λ (y : Node). y.label) a.flow.now c.args.node c.action.result c.action.ensures in (
      node.0,
      node.1,
      subst (λ z. (l : Lock) → (c.generate.result ≡ Some l) ↔ Generated a.scheme.now a.thread z l)
          (sym node.2) c.generate.ensures,
    )

pub returns-in-None : goal.returns-in-None
returns-in-None c =
    let node = told (goal.at.returns-in-None c).After-generate in
    let a = c.args.section in
    generated_none a.scheme.now a.thread a.flow.now c.args.node node.0 node.1 c.generate.result node.2
    c.args.solution.now.numbering c.args.solution.now.lists c.in-None.is c.requires.numbering c.requires.there

pub returns-in-Some : goal.returns-in-Some
returns-in-Some c =
    let node = told (goal.at.returns-in-Some c).After-generate in
    let a = c.args.section in
    let old = c.args.solution.now in
    let new = c.put_own.new.solution in
    on_ok_weaker c.put_own.result
    (generated_some a.scheme.now a.thread a.flow.now c.args.node node.0 node.1 c.generate.result node.2
    old.numbering old.lists new.numbering new.lists c.in-Some.lock c.in-Some.is)
    c.put_own.ensures

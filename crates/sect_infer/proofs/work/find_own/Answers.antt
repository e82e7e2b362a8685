use Rattle.std.proofs.{Common.{◌≡◌, ◌↔◌, Some, sym, subst}, lemmas.Result.{on_ok_weaker}}
use Rattle.std.specs.Prelude.{slice_get}
use Rattle.sect_lemmas.proofs.Places.{told_at}
use Rattle.sect_graph.specs.declared.flow.Node.{Node}
use Rattle.sect_names.specs.{declared.lock.Lock.{Lock}, Carrying.{Generated}}
use Rattle.sect_infer.proofs.{Visiting.{own_none, own_some}, work.find_own.Goals.{After-generate}}
use Rattle.sect_infer.proofs.work.find_own.Goals as goal

-- the node, and what it generates
told : (c : After-generate)
    → (y : Node) × (slice_get c.args.section.flow.now c.args.node ≡ Some y)
    × ((l : Lock) → (c.generate.result ≡ Some l)
    ↔ Generated c.args.section.scheme.now c.args.section.thread y.label l)
told c =
    let a = c.args.section in
    let node = told_at (λ (y : Node). y.label) a.flow.now c.args.node c.action.result c.action.ensures in (
      node.0,
      node.1,
      subst (λ z. (l : Lock) → (c.generate.result ≡ Some l) ↔ Generated a.scheme.now a.thread z l)
          (sym node.2) c.generate.ensures,
    )

pub returns-in-None-clause-found : goal.returns-in-None-clause-found
returns-in-None-clause-found c =
    let node = told (goal.at.returns-in-None-clause-found c).After-generate in
    own_none _ _ c.args.section.flow.now c.args.node node.0 node.1 c.generate.result node.2 _ _ c.in-None.is
    c.requires.finding

pub returns-in-Some-clause-found : goal.returns-in-Some-clause-found
returns-in-Some-clause-found c =
    let node = told (goal.at.returns-in-Some-clause-found c).After-generate in
    on_ok_weaker c.find.result (own_some _ _ c.args.section.flow.now c.args.node
    node.0 node.1 c.generate.result node.2 _ _ _ _ c.in-Some.lock c.in-Some.is) c.find.ensures

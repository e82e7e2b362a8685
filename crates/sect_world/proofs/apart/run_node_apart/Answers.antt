use Rattle.std.proofs.Common.{◌∙◌, subst}
use Rattle.sect_lemmas.proofs.Places.{told_of}
use Rattle.sect_graph.specs.declared.flow.Node.{Node}
use Rattle.sect_store.specs.Parts.{ComesTo, left_in, written}
use Rattle.sect_emit.specs.Compiled.{program_of}
use Rattle.sect_world.proofs.Stretching.{acted_goes, acted_falls}
use Rattle.sect_world.proofs.apart.run_node_apart.Goals as goal

pub returns-in-Went-clause-goes : goal.returns-in-Went-clause-goes
returns-in-Went-clause-goes c = λ s part.
    let step = c.args.step in
    let p = program_of step.compiled.now in
    let a = c.in-Act.action in
    let u = c.args.work.now in
    let v = c.act_apart.new.work in
    let left = subst (ComesTo (left_in a u) u v c.args.part.now c.act_apart.new.part) c.in-Went.is
    c.in_ok-act_apart-in-Act.ensures.comes p step.thread s part in (
      left.0,
      λ rest k x at begins starts.
          acted_goes p step.thread rest x a u v (written s c.args.part.now.writes.items)
          (written s c.act_apart.new.part.writes.items)
          (told_of (λ (y : Node). y.label) step.flow.now step.node c.action.result c.action.ensures x at ∙ c.in-Act.is)
          c.chosen.result c.succ-successors.result
          (told_of (λ (y : Node). y.next) step.flow.now step.node c.succ-successors.result c.succ-successors.ensures x
          at)
          c.chosen.ensures left.1 k begins starts,
    )

pub returns-in-Fell-clause-goes : goal.returns-in-Fell-clause-goes
returns-in-Fell-clause-goes c = λ s part.
    let step = c.args.step in
    let p = program_of step.compiled.now in
    let a = c.in-Act.action in
    let u = c.args.work.now in
    let v = c.act_apart.new.work in
    let left = subst (ComesTo (left_in a u) u v c.args.part.now c.act_apart.new.part) c.in-Fell.is
    c.in_ok-act_apart-in-Act.ensures.comes p step.thread s part in (
      left.0,
      λ rest k x at begins starts.
          acted_falls p step.thread rest x a u v (written s c.args.part.now.writes.items)
          (written s c.act_apart.new.part.writes.items)
          (told_of (λ (y : Node). y.label) step.flow.now step.node c.action.result c.action.ensures x at ∙ c.in-Act.is)
          c.in-Fell.fault left.1 k begins starts,
    )

use Rattle.std.proofs.Common.{refl}
use Rattle.sect_types.specs.Programs.{environment_at}
use Rattle.sect_lemmas.proofs.Places.{at_of}
use Rattle.sect_graph.specs.Rests.{rest_at}
use Rattle.sect_emit.specs.{Compiled.{program_of}, Graphed.{text_at}}
use Rattle.sect_world.proofs.NodeSteps.{thread_graph, step_label, all_locally}
use Rattle.sect_world.proofs.outside.run_outside.Goals as goal

pub run_node-requires-clause-step : goal.run_node-requires-clause-step
run_node-requires-clause-step c = λ x at.
    let m = c.args.step.compiled.now in
    let t = c.args.step.thread in
    step_label (rest_at (text_at m t)) x (rest_at (text_at m t) c.args.step.node) c.requires.step
    ((thread_graph m c.facts.ensures.compiled t c.requires.thread c.args.step.flow.now c.requires.flow).running.begins
    c.args.step.node x at)

pub returns-clause-steps : goal.returns-clause-steps
returns-clause-steps c =
    let m = c.args.step.compiled.now in
    let t = c.args.step.thread in
    let g = c.args.step.flow.now in
    let n = c.args.step.node in
    let x = at_of g n c.requires.node in
    let b = (thread_graph m c.facts.ensures.compiled t c.requires.thread g c.requires.flow).running.begins n x.0 x.1 in
    all_locally m t (environment_at (program_of m) t) (rest_at (text_at m t) n) c.args.work.now
    c.args.store.now c.run_node.new.store c.run_node.new.work (program_of m) refl
    c.requires.sound g n x.0 x.1 b c.requires.step c.run_node.result c.run_node.ensures.goes

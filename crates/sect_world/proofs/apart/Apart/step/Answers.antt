use Rattle.std.proofs.Common.{◌≡◌, ◌<◌, ◌∙◌, ℕ, true, Some, Result, refl, sym, ap, length, arith}
use Rattle.sect_types.specs.{Statements.{TextView}, Store.{StoreView}, declared.meaning.store.Fault.{Fault}}
use Rattle.sect_types.specs.Meaning.{next, found_at, looks, begins_step}
use Rattle.sect_graph.specs.{declared.flow.Node.{Node}, Rests.{Begins}}
use Rattle.sect_store.specs.Parts.{IsPartOf, written}
use Rattle.sect_emit.specs.Compiled.{program_of}
use Rattle.sect_world.specs.steps.Moves.{Goes, IsPlain}
use Rattle.sect_lemmas.proofs.Places.{at_of}
use Rattle.sect_graph.specs.Graphs.{GraphView}
use Rattle.sect_names.specs.Schemes.{SchemeView}
use Rattle.std.specs.Prelude.{slice_get}
use Rattle.sect_world.proofs.Stretching.{one_more, none_of, some_of, still_apart, plain_steps}
use Rattle.sect_world.proofs.apart.Apart.step.Goals as goal
use Rattle.sect_world.specs.declared.runner.Phase.TheVariants as phase

pub returns-in-Some-clause-apart : goal.returns-in-Some-clause-apart
returns-in-Some-clause-apart c =
    let a = c.args.self.now in
    let g = c.section-flow.result.now in
    let node = c.in-Running.node in
    let within : node < length g = omega (arith, c.if-node-exit.false, c.exit.ensures.number) in
    let x = at_of g node within in
    let plain = some_of (λ (w : Result ℕ Fault). (y : Node) → slice_get g node ≡ Some y → IsPlain y.label)
    c.in_ok-run_node_apart.field-0 c.in-Some.went c.in-Some.is c.in_ok-run_node_apart.ensures.plain
    x.0 x.1 in
    one_more c.args.compiled.now c.facts.ensures.compiled a _ g node x.0 c.in-Some.went c.requires
    (ap (λ (z : GraphView). slice_get z.sections a.section)
    (sym (c.graph.ensures ∙ ap (λ (s : SchemeView). s.graphs) c.scheme.ensures)) ∙ c.section-flow.ensures)
    x.1 (plain_steps x.0.label plain) plain
    (c.in-Running.is ∙ ap (λ s. phase.Running s node) c.if-section-self.false)
    (some_of (λ (w : Result ℕ Fault). (s : StoreView) → IsPartOf a.part s → IsPartOf c.run_node_apart.new.part s
    × ((rest : ℕ → TextView) (k : TextView) (y : Node) → slice_get g node ≡ Some y → Begins rest y k
    → begins_step k ≡ true
    → Goes rest a.thread (written s a.part.writes.items) (next (program_of c.args.compiled.now) a.thread k
    (found_at (written s a.part.writes.items) (looks k a.work)) a.work) w c.run_node_apart.new.work
    (written s c.run_node_apart.new.part.writes.items)))
    c.in_ok-run_node_apart.field-0 c.in-Some.went c.in-Some.is c.in_ok-run_node_apart.ensures.goes)
    refl refl refl refl refl c.phase_after-self.ensures refl

pub returns-in-None-clause-apart : goal.returns-in-None-clause-apart
returns-in-None-clause-apart c =
    let same = none_of c.in_ok-run_node_apart.field-0 c.in-None.is c.in_ok-run_node_apart.ensures.none in
    still_apart c.args.compiled.now c.args.self.now c.run_node_apart.new.work c.run_node_apart.new.part c.requires
    same.0
    same.1.0 same.1.1

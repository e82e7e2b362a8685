-- In a section a thread is at its end, or has a step to do.
use Rattle.std.proofs.Common.{◌≡◌, ◌<◌, true, length, sym, ap, ◌∙◌, subst, arith}
use Rattle.sect_emit.specs.{State.{ThreadState, IsThread, Running}, Compiled.{program_of}}
use Rattle.sect_world.specs.{Worlds.{WorldView}, Viewing.{body_at}}
use Rattle.std.specs.Prelude.{ℕ, slice_get}
use Rattle.sect_types.specs.{Meaning.{begins_step}, Sections.{sections_of}, Statements.{Stop}}
use Rattle.sect_lemmas.proofs.Places.{at_of}
use Rattle.sect_graph.specs.{Graphs.{GraphView}, Rests.{rest_at}}
use Rattle.sect_names.specs.Schemes.{SchemeView}
use Rattle.sect_world.proofs.{MoveTurns.{text_inside}, NodeSteps.{at_end, inside_step}, Turning.{standing}}
use Rattle.sect_world.proofs.world.World.turn_inside.Goals as goal

pub act-requires : goal.act-requires
act-requires c =
    let h = subst (λ (z : WorldView). (th : ThreadState) × IsThread z.state c.args.thread th
    × (th.position ≡ Running c.args.section (rest_at (body_at z.compiled c.args.section) c.args.node)))
    (sym c.self.view_is) c.requires.thread in
    let there = subst (λ (z : WorldView). c.args.section < length (sections_of (program_of z.compiled).texts))
    (sym c.self.view_is) c.requires.section in
    let same = c.graph.ensures ∙ ap (λ (s : SchemeView). s.graphs) c.scheme.ensures in
    let graph = sym (ap (λ (g : GraphView). slice_get g.sections c.args.section) same) ∙ c.section.ensures in
    let x = at_of c.section.result.now c.args.node (omega (arith, c.if-node-exit.true, c.exit-exit.ensures.number)) in
    let s = standing _ _ _ _ _ _ _ _ c.self.invariant.0 c.args.thread h.0 h.1 in
    let text = text_inside _ _ _ _ _ _ _ _ c.self.invariant.0 c.args.thread h.0 h.1 s.runner s.at c.args.section _
    h.2 in
    let step = inside_step _ c.self.invariant.0.compiled c.args.thread c.args.section c.args.node c.section.result.now
    x.0 there graph x.1 text in
    subst (λ (z : WorldView). (th : ThreadState) × IsThread z.state c.args.thread th
    × (th.position ≡ Running c.args.section (rest_at (body_at z.compiled c.args.section) c.args.node))
    × (begins_step (rest_at (body_at z.compiled c.args.section) c.args.node) ≡ true)) c.self.view_is
    (h.0, h.1, h.2, step.1)

pub leave-requires : goal.leave-requires
leave-requires c =
    let h = subst (λ (z : WorldView). (th : ThreadState) × IsThread z.state c.args.thread th
    × (th.position ≡ Running c.args.section (rest_at (body_at z.compiled c.args.section) c.args.node)))
    (sym c.self.view_is) c.requires.thread in
    let there = subst (λ (z : WorldView). c.args.section < length (sections_of (program_of z.compiled).texts))
    (sym c.self.view_is) c.requires.section in
    let same = c.graph.ensures ∙ ap (λ (s : SchemeView). s.graphs) c.scheme.ensures in
    let graph = sym (ap (λ (g : GraphView). slice_get g.sections c.args.section) same) ∙ c.section.ensures in
    let off = at_end _ c.self.invariant.0.compiled c.args.section c.section.result.now c.args.node there graph
    (omega (arith, c.if-node-exit.false, c.exit-exit.ensures.number)) in
    subst (λ (z : WorldView). (th : ThreadState) × IsThread z.state c.args.thread th
    × ((i : ℕ) × (th.position ≡ Running i Stop))) c.self.view_is
    (h.0, h.1, (c.args.section, h.2 ∙ ap (Running c.args.section) off))

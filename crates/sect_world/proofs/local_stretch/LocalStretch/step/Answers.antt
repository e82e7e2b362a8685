use Rattle.std.proofs.Common.{◌≡◌, ◌<◌, ◌∙◌, ℕ, true, Some, Result, refl, sym, ap, subst, length, arith, slice_get}
use Rattle.sect_types.specs.{Statements.{TextView}, Store.{StoreView}, declared.meaning.store.Fault.{Fault}}
use Rattle.sect_types.specs.Meaning.{next, found_at, looks, begins_step}
use Rattle.sect_lemmas.proofs.Places.{at_of}
use Rattle.sect_graph.specs.{declared.flow.Node.{Node}, Graphs.{GraphView}, Rests.{Begins}}
use Rattle.sect_names.specs.Schemes.{SchemeView}
use Rattle.sect_store.specs.Parts.{IsPartOf, written}
use Rattle.sect_emit.specs.Compiled.{program_of}
use Rattle.sect_world.specs.steps.Moves.{Goes, IsPlain}
use Rattle.sect_world.proofs.{LocalStretching.{no_store, one_step_more}, Stretching.{some_of, plain_steps}}
use Rattle.sect_world.proofs.TurnPlaces.{none_ended, shown_ended}
use Rattle.sect_world.proofs.local_stretch.LocalStretch.step.Goals as goal

pub returns-clause-stretch : goal.returns-clause-stretch
returns-clause-stretch c =
    let a = c.args.self.now in
    let g = c.thread-flow.result.now in
    let p = program_of c.args.compiled.now in
    let ran = c.in_ok-went in
    let new = c.run_node_apart.new in
    let within : a.at < length g = omega (arith, c.if-self-exit.false, c.exit.ensures.number) in
    let x = at_of g a.at within in
    let plain = some_of (λ (w : Result ℕ Fault). (y : Node) → slice_get g a.at ≡ Some y → IsPlain y.label) ran.field-0
    c.in-Some.went c.in-Some.is ran.ensures.plain x.0 x.1 in
    let goes = some_of (λ (w : Result ℕ Fault). (s : StoreView)
    → IsPartOf (record { cells = c.new.result; writes = c.new-2.result }) s → IsPartOf new.part s
    × ((rest : ℕ → TextView) (k : TextView) (y : Node) → slice_get g a.at ≡ Some y → Begins rest y k
    → begins_step k ≡ true
    → Goes rest a.thread (written s c.new-2.result.items) (next p a.thread k
    (found_at (written s c.new-2.result.items) (looks k a.work)) a.work) w new.work (written s new.part.writes.items)))
    ran.field-0 c.in-Some.went c.in-Some.is ran.ensures.goes no_store (rw c.new.ensures.items tt) in
    one_step_more c.args.compiled.now c.facts.ensures.compiled a _ g x.0 c.in-Some.went (written no_store
    new.part.writes.items)
    c.requires
    (none_ended a.ended (sym (shown_ended a.ended) ∙ (sym c.is_some.ensures ∙ c.if-is_some.false)))
    (ap (λ (z : GraphView). slice_get z.threads a.thread)
    (sym (c.graph.ensures ∙ ap (λ (s : SchemeView). s.graphs) c.scheme.ensures)) ∙ c.thread-flow.ensures)
    x.1 (plain_steps x.0.label plain)
    (subst (λ ws. (rest : ℕ → TextView) (k : TextView) (y : Node) → slice_get g a.at ≡ Some y → Begins rest y k
    → begins_step k ≡ true
    → Goes rest a.thread (written no_store ws) (next p a.thread k (found_at (written no_store ws) (looks k a.work))
    a.work)
    c.in-Some.went new.work (written no_store new.part.writes.items)) c.new-2.ensures.items goes.1)
    c.after_step-at.ensures refl refl refl refl

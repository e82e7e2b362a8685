-- An event more, and what it takes.
use Rattle.std.proofs.Common.{◌∙◌, ◌++◌, ◌∷◌, [], ap, length, arith, length-append}
use Rattle.sect_world.specs.{Traces.{TraceView}}
use Rattle.sect_world.specs.steps.Tracing.{count_in, count_of, deed_of, taken_by, events_of}
use Rattle.sect_world.proofs.Tracing.{counted, given_back, count_pushed, events_pushed}
use Rattle.sect_world.proofs.trace.Trace.push_reserved.Goals as goal

pub invariant_of-self : goal.invariant_of-self
invariant_of-self c =
    let notes = ap count_in c.push_reserved.ensures.items ∙ count_pushed c.self.inside.notes.items _ in
    let one = ap count_of c.note_of.ensures ∙ counted c.args.event.deed in
    let keys = ap length c.put_aside.ensures.taken ∙ length-append c.self.inside.taken.items _ in
    omega (arith, notes, one, keys, c.self.invariant)

pub returns-clause-items : goal.returns-clause-items
returns-clause-items c =
    ap (λ ss. events_of ss c.put_aside.new.taken.items) c.push_reserved.ensures.items
    ∙ (ap (events_of _) c.put_aside.ensures.taken
    ∙ (events_pushed c.self.inside.notes.items _ c.self.inside.taken.items _ c.self.invariant
    ∙ (ap (λ n. events_of c.self.inside.notes.items c.self.inside.taken.items
    ++ record { thread = c.args.event.thread; deed = deed_of n (taken_by c.args.event.deed) } ∷ [])
    c.note_of.ensures
    ∙ (ap (λ d. events_of c.self.inside.notes.items c.self.inside.taken.items
    ++ record { thread = c.args.event.thread; deed = d } ∷ []) (given_back c.args.event.deed)
    ∙ ap (λ (v : TraceView). v.items ++ c.args.event ∷ []) c.self.view_is))))

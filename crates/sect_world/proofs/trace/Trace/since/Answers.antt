-- The last keys are those of the last events.
use Rattle.std.proofs.Common.{◌∙◌, ap, length, drop, arith}
use Rattle.sect_lemmas.proofs.Results.{if_ok}
use Rattle.sect_world.specs.{Traces.{TraceView}, steps.Tracing.{count_in}}
use Rattle.sect_world.proofs.Tracing.{length_events, few_behind, last_events}
use Rattle.sect_world.proofs.trace.Trace.since.Goals as goal

pub split_at-requires : goal.split_at-requires
split_at-requires c =
    let same = ap (λ (v : TraceView). length v.items) c.self.view_is in
    let many = length_events c.self.inside.notes.items c.self.inside.taken.items in
    omega (arith, c.requires, c.as_slice.ensures.len, c.self.inside.notes.ok, same, many)

pub overflow_sub-len : goal.overflow_sub-len
overflow_sub-len c =
    let few = few_behind c.args.count c.self.inside.notes.items c.self.inside.taken.items c.self.invariant in
    let counted = c.keys_in.ensures
    ∙ ap count_in (c.split_at.ensures.back ∙ ap (drop c.args.count) c.as_slice.ensures.value) in
    omega (arith, few, counted, c.len.ensures, c.self.inside.taken.ok)

pub events_from-requires : goal.events_from-requires
events_from-requires c =
    (last_events c.args.count c.self.inside.notes.items _ c.self.inside.taken.items _ c.len.result c.keys_in.result
    c.self.invariant (c.split_at.ensures.back ∙ ap (drop c.args.count) c.as_slice.ensures.value)
    (omega (arith, c.len.ensures, c.self.inside.taken.ok)) c.keys_in.ensures
    (c.split_at-2.ensures.back ∙ ap (drop _) c.as_slice-2.ensures.value)).0

pub returns : goal.returns
returns c = if_ok c.events_from.result (λ events e. e
    ∙ ((last_events c.args.count c.self.inside.notes.items _ c.self.inside.taken.items _ c.len.result c.keys_in.result
    c.self.invariant (c.split_at.ensures.back ∙ ap (drop c.args.count) c.as_slice.ensures.value)
    (omega (arith, c.len.ensures, c.self.inside.taken.ok)) c.keys_in.ensures
    (c.split_at-2.ensures.back ∙ ap (drop _) c.as_slice-2.ensures.value)).1
    ∙ ap (λ (v : TraceView). drop c.args.count v.items) c.self.view_is)) c.events_from.ensures

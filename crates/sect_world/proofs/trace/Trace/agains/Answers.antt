-- As many as are noted.
use Rattle.std.proofs.Common.{ap, ◌∙◌}
use Rattle.std.specs.Prelude.{count_by}
use Rattle.sect_world.specs.{Traces.{TraceView, agains_in}, declared.trace.Note.{Note}, steps.Tracing.{notes_again}}
use Rattle.sect_world.proofs.Tracing.{agains_noted}
use Rattle.sect_world.proofs.trace.Trace.agains.Goals as goal

pub returns : goal.returns
returns c =
    c.agains_among.ensures
    ∙ (ap (count_by (λ (n : Note). notes_again n.what)) c.as_slice.ensures.value
    ∙ (agains_noted c.self.inside.notes.items c.self.inside.taken.items
    ∙ ap (λ (v : TraceView). agains_in v.items) c.self.view_is))

-- As many events as notes.
use Rattle.std.proofs.Common.{ap, length, arith}
use Rattle.sect_world.specs.Traces.{TraceView}
use Rattle.sect_world.proofs.Tracing.{length_events}
use Rattle.sect_world.proofs.trace.Trace.len.Goals as goal

pub returns : goal.returns
returns c =
    let same = ap (λ (v : TraceView). length v.items) c.self.view_is in
    let many = length_events c.self.inside.notes.items c.self.inside.taken.items in
    omega (arith, c.len.ensures, c.self.inside.notes.ok, same, many)

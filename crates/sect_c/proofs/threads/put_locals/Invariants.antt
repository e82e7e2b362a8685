use Rattle.std.proofs.Common.{◌≡◌, ◌++◌, drop, []}
use Rattle.std.specs.Prelude.{slice_index_or}
use Rattle.std.specs.String.{string_bytes}
use Rattle.sect_emit.specs.Listing.{by_number}
use Rattle.sect_c.specs.Sections.{local_line}
use Rattle.sect_c.proofs.threads.put_locals.Given as goal

abbrev pub invariant-loop-local : goal.invariant-loop-local
invariant-loop-local l = (let line = local_line l.program l.fn.thread in string_bytes l.text
    ++ by_number line l.local (drop l.local (slice_index_or l.program.locals l.fn.thread [])) ≡ string_bytes l.fn.text ++ by_number line 0 (slice_index_or l.program.locals l.fn.thread []))

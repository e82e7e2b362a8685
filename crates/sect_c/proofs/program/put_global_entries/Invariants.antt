use Rattle.std.proofs.Common.{◌≡◌, ◌++◌, drop}
use Rattle.std.specs.String.{string_bytes}
use Rattle.sect_emit.specs.Listing.{by_number}
use Rattle.sect_c.specs.Programs.{global_entry}
use Rattle.sect_c.proofs.program.put_global_entries.Given as goal

abbrev pub invariant-loop-global : goal.invariant-loop-global
invariant-loop-global l = (let line = global_entry l.program.source in string_bytes l.text
    ++ by_number line l.global (drop l.global l.program.globals) ≡ string_bytes l.fn.text ++ by_number line 0 l.program.globals)

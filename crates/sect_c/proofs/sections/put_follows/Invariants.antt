use Rattle.std.proofs.Common.{◌≡◌, ◌++◌, drop}
use Rattle.std.specs.String.{string_bytes}
use Rattle.sect_points.specs.Paths.{fields_of}
use Rattle.sect_emit.specs.Listing.{by_number}
use Rattle.sect_c.specs.Sections.{follow_c}
use Rattle.sect_c.proofs.sections.put_follows.Given as goal

abbrev pub invariant-loop-place : goal.invariant-loop-place
invariant-loop-place l = (let line = follow_c l.program l.read in string_bytes l.text
    ++ by_number line l.place (drop l.place (fields_of l.path)) ≡ string_bytes l.fn.text
    ++ by_number line 0 (fields_of l.path))

use Rattle.std.proofs.Common.{◌≡◌, ◌++◌, drop}
use Rattle.std.specs.String.{string_bytes}
use Rattle.sect_types.specs.Sections.{sections_of}
use Rattle.sect_emit.specs.Listing.{by_number}
use Rattle.sect_c.specs.Sections.{own_section_c}
use Rattle.sect_c.proofs.threads.put_sections.Given as goal

abbrev pub invariant-loop-section : goal.invariant-loop-section
invariant-loop-section l = (let line = own_section_c l.emitted.compiled.now l.emitted.taken.now l.fn.thread in string_bytes l.text
    ++ by_number line l.section (drop l.section (sections_of l.emitted.compiled.now.scheme.program.texts)) ≡ string_bytes l.fn.text ++ by_number line 0 (sections_of l.emitted.compiled.now.scheme.program.texts))

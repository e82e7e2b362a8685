use Rattle.std.proofs.Common.{◌≡◌, ◌++◌, drop}
use Rattle.std.specs.String.{string_bytes}
use Rattle.sect_types.specs.Sections.{sections_of}
use Rattle.sect_emit.specs.Listing.{by_number, thread_listed, section_listed}
use Rattle.sect_emit.proofs.printing.listing.Given as goal

abbrev pub invariant-loop-thread : goal.invariant-loop-thread
invariant-loop-thread l = (let p = l.compiled.scheme.program in string_bytes l.text
    ++ by_number (thread_listed l.compiled) l.thread (drop l.thread p.texts)
    ≡ by_number (thread_listed l.compiled) 0 p.texts)

abbrev pub invariant-loop-section : goal.invariant-loop-section
invariant-loop-section l = (let p = l.compiled.scheme.program in string_bytes l.text
    ++ by_number (section_listed l.compiled) l.section (drop l.section (sections_of p.texts))
    ≡ by_number (thread_listed l.compiled) 0 p.texts ++ by_number (section_listed l.compiled) 0 (sections_of p.texts))

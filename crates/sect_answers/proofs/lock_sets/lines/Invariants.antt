use Rattle.std.specs.String.{string_bytes}
use Rattle.sect_answers.specs.Listing.{IsListing}
use Rattle.sect_answers.proofs.lock_sets.lines.Given as goal

abbrev pub invariant-loop-section : goal.invariant-loop-section
invariant-loop-section l = IsListing l.scheme l.section (string_bytes l.text)

use Rattle.std.proofs.Common.{◌≡◌, ◌+◌, drop}
use Rattle.std.specs.Prelude.{option_map}
use Rattle.sect_lsp.specs.Framing.{place_of}
use Rattle.sect_lsp.proofs.framing.place_of.Given as goal

-- the word stands at no place so far
abbrev pub invariant-loop-at : goal.invariant-loop-at
invariant-loop-at l = place_of l.word l.bytes ≡ option_map (λ n. l.at + n) (place_of l.word (drop l.at l.bytes))

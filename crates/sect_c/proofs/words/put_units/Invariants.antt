use Rattle.std.proofs.Common.{◌≡◌, ◌++◌, drop}
use Rattle.std.specs.{String.{string_bytes}, List.{flat_map}}
use Rattle.sect_modes.specs.Word.{unit_of}
use Rattle.sect_c.specs.Words.{entry_c}
use Rattle.sect_c.proofs.words.put_units.Given as goal

abbrev pub invariant-loop-mode : goal.invariant-loop-mode
invariant-loop-mode l = record {
  added : string_bytes l.text ++ flat_map (λ m. entry_c (unit_of m)) (drop l.mode-index l.modes) ≡ string_bytes l.fn.text
      ++ flat_map (λ m. entry_c (unit_of m)) l.modes;
}

use Rattle.std.proofs.Common.{map, take}
use Rattle.std.specs.List.{AllZip}
use Rattle.sect_command.specs.Ruling.{SaysWhich}
use Rattle.sect_command.proofs.ruling.warnings_of.Given as goal

abbrev pub invariant-loop-word : goal.invariant-loop-word
invariant-loop-word l = AllZip (SaysWhich l.level) (map (λ v. v.now) (take l.word-index l.words)) l.named.items

use Rattle.std.proofs.Common.{◌≡◌, take, false}
use Rattle.std.specs.List.{list_any}
use Rattle.sect_infer.specs.Numbers.{has_number}
use Rattle.sect_infer.proofs.numbering.Numbering.is_below.Given as goal

abbrev pub invariant-loop-big : goal.invariant-loop-big
invariant-loop-big l = list_any (has_number l.numbers) (take l.big-index l.big-items) ≡ false

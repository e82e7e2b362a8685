use Rattle.std.proofs.Common.{◌≡◌, ◌↔◌, take}
use Rattle.sect_front.proofs.name.are_equal.Given as goal

abbrev pub invariant-loop-i : goal.invariant-loop-i
invariant-loop-i l = (l.apart ≡ 0) ↔ (take l.i l.one ≡ take l.i l.other)

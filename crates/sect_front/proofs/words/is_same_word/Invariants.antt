use Rattle.std.proofs.Common.{◌≡◌, length}
use Rattle.std.specs.Str.{bytes_eq}
use Rattle.sect_front.proofs.words.is_same_word.Given as goal

abbrev pub invariant-loop-first : goal.invariant-loop-first
invariant-loop-first l = bytes_eq l.left l.right ≡ bytes_eq l.one l.other

abbrev pub decreases-loop-first : goal.decreases-loop-first
decreases-loop-first l = length l.left

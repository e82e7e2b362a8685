use Rattle.std.proofs.Common.{◌≡◌, take}
use Rattle.std.specs.Prelude.{None, fold}
use Rattle.sect_warnings.specs.Comments.{leading}
use Rattle.sect_warnings.proofs.comment.is_comment.Given as goal

abbrev pub invariant-loop-byte : goal.invariant-loop-byte
invariant-loop-byte l = l.first ≡ fold leading None (take l.byte-index l.line)

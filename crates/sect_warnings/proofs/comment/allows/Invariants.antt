use Rattle.std.proofs.Common.{◌≡◌, take}
use Rattle.std.specs.Prelude.{fold}
use Rattle.sect_warnings.specs.Comments.{reads}
use Rattle.sect_warnings.specs.declared.comment.Reading.TheVariants as reading
use Rattle.sect_warnings.proofs.comment.allows.Given as goal

abbrev pub invariant-loop-byte : goal.invariant-loop-byte
invariant-loop-byte l = l.so_far ≡ fold (reads l.name) reading.Code (take l.byte-index l.line)

use Rattle.std.proofs.Common.{◌≡◌, map, take}
use Rattle.std.specs.{List.{AllByRecursion}, Map.Iter.{deref}}
use Rattle.sect_cert.specs.Texts.{IsLock}
use Rattle.sect_emit.specs.Words.{list_words}
use Rattle.sect_emit.proofs.words.list_of.Given as goal

abbrev pub invariant-loop-lock : goal.invariant-loop-lock
invariant-loop-lock l = (l.list.items ≡ list_words l.program.source (map deref (take l.lock-index l.locks)))
    × AllByRecursion IsLock l.list.items

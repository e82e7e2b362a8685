use Rattle.std.proofs.Common.{◌≡◌, ◌++◌, take}
use Rattle.sect_cert.specs.Spelling.{chain_words}
use Rattle.sect_cert.specs.{Spelling.{spaced}, steps.Writes.{IsLockBefore}}
use Rattle.sect_cert.proofs.writing.put_steps.Given as goal

abbrev pub invariant-loop-index : goal.invariant-loop-index
invariant-loop-index l = record {
  written : l.out.items ≡ l.fn.out.items ++ spaced (chain_words (take l.index l.steps));
  lock : IsLockBefore l.steps l.index l.lock.items;
}

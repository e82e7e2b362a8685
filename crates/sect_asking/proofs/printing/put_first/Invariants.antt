use Rattle.std.proofs.Common.{◌≡◌, ◌++◌, drop, codes}
use Rattle.std.specs.String.{string_bytes}
use Rattle.sect_asking.specs.Printing.{threads_text}
use Rattle.sect_asking.proofs.printing.put_first.Given as goal

abbrev pub invariant-loop-thread : goal.invariant-loop-thread
invariant-loop-thread l = record {
  added : string_bytes l.text ++ threads_text l.program (drop l.thread-index l.threads) ≡ string_bytes l.fn.text
      ++ codes "first" ++ threads_text l.program l.threads;
}

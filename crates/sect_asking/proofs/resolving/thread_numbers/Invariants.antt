use Rattle.std.proofs.Common.{◌≡◌, ◌++◌, drop}
use Rattle.sect_asking.specs.Meaning.{meant_then, threads_meant}
use Rattle.std.specs.Prelude.{Ok}
use Rattle.sect_asking.proofs.resolving.thread_numbers.Given as goal

abbrev pub invariant-loop-thread : goal.invariant-loop-thread
invariant-loop-thread l = record {
  meant : threads_meant l.program l.threads
      ≡ meant_then (threads_meant l.program (drop l.thread-index l.threads)) (λ ns. Ok (l.numbers.items ++ ns));
}

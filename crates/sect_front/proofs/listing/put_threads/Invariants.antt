use Rattle.std.proofs.Common.{◌≡◌, ◌++◌, List, drop}
use Rattle.sect_front.specs.{Tokens.{threads_tokens}, declared.token.Token.{Token}}
use Rattle.sect_front.proofs.listing.put_threads.Given as goal

abbrev pub invariant-loop-thread : goal.invariant-loop-thread
invariant-loop-thread l =
    (w : List Token) → l.out.items ++ threads_tokens (drop l.thread-index l.threads) w ≡ l.fn.out.items
    ++ threads_tokens l.threads w

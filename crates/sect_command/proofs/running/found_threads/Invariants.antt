use Rattle.std.proofs.Common.{map, take}
use Rattle.sect_command.specs.Saying.{AreThreads}
use Rattle.sect_command.proofs.running.found_threads.Given as goal

abbrev pub invariant-loop-word : goal.invariant-loop-word
invariant-loop-word l = AreThreads (map (λ v. v.now) (take l.word-index l.words)) l.threads.items

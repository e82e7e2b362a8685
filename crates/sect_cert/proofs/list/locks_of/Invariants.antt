use Rattle.std.proofs.Common.{◌≡◌, length}
use Rattle.sect_cert.specs.steps.Lists.{after, list_state}
use Rattle.sect_cert.proofs.list.locks_of.Given as goal

abbrev pub invariant-loop-word : goal.invariant-loop-word
invariant-loop-word l = after (list_state l.locks.items l.place) l.words ≡ after
    (list_state l.initial.locks.items l.initial.place) l.initial.words

abbrev pub decreases-loop-word : goal.decreases-loop-word
decreases-loop-word l = length l.words

use Rattle.std.proofs.Common.{◌≡◌, take}
use Rattle.sect_places.specs.steps.Feeding.{feeds_in}
use Rattle.sect_places.proofs.position.few_feeds.Given as goal

abbrev pub invariant-loop-byte : goal.invariant-loop-byte
invariant-loop-byte l = l.feeds ≡ feeds_in (take l.byte-index l.bytes)

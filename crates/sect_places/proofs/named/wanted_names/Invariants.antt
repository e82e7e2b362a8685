use Rattle.std.proofs.Common.{length}
use Rattle.sect_places.proofs.{Standing.{SoughtHere}, WantedNames.{WantedHere}}
use Rattle.sect_places.proofs.named.wanted_names.Given as goal

abbrev pub invariant-loop-here : goal.invariant-loop-here
invariant-loop-here l = record {
  wanted : WantedHere l.text.bytes.now l.tree l.fn.wish l.names.items l.number l.here;
  sought : SoughtHere l.text.bytes.now l.tree l.fn.token l.sought.here.now l.sought.left l.here;
}

abbrev pub decreases-loop-here : goal.decreases-loop-here
decreases-loop-here l = length l.here

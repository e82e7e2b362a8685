use Rattle.std.proofs.Common.{length}
use Rattle.sect_places.specs.steps.Wanting.{behind}
use Rattle.sect_places.specs.NameUses.{globals_uses}
use Rattle.sect_places.proofs.Walked.{WalkedBy}
use Rattle.sect_places.proofs.uses.put_globals.Given as goal

abbrev pub invariant-loop-global : goal.invariant-loop-global
invariant-loop-global l =
    WalkedBy behind length globals_uses l.globals l.global-index l.item l.next l.fn.out l.out

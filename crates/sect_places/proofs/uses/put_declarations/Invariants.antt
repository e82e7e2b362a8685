use Rattle.std.proofs.Common.{length}
use Rattle.sect_places.specs.steps.Wanting.{behind}
use Rattle.sect_places.specs.NameUses.{declarations_uses}
use Rattle.sect_places.proofs.Walked.{WalkedBy}
use Rattle.sect_places.proofs.uses.put_declarations.Given as goal

abbrev pub invariant-loop-declared : goal.invariant-loop-declared
invariant-loop-declared l =
    WalkedBy behind length (λ n. declarations_uses l.scope n l.thing) l.list l.declared-index l.item l.next
    l.fn.out l.out

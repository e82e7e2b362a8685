use Rattle.sect_lint.specs.steps.Linked.{AreLinks}
use Rattle.sect_lint.proofs.circle.links_of.Given as goal

abbrev pub invariant-loop-named : goal.invariant-loop-named
invariant-loop-named l = AreLinks l.names l.declared l.links.items

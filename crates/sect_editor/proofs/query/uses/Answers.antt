use Rattle.std.proofs.Common.{length, sym, subst}
use Rattle.sect_editor.specs.steps.Naming.{AreSpansWithin}
use Rattle.sect_editor.proofs.Within.{uses_within}
use Rattle.sect_editor.proofs.query.uses.Goals as goal

pub returns-clause-within : goal.returns-clause-within
returns-clause-within c =
    subst (AreSpansWithin (length c.args.source.now)) (sym c.in_ok-spans.ensures)
    (uses_within (length c.args.source.now) c.args.names.now c.requires c.args.declared)

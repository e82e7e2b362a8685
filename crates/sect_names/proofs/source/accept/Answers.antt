use Rattle.std.proofs.Common.{sym, subst}
use Rattle.sect_names.specs.Sources.{IsDue}
use Rattle.sect_names.proofs.Refusing.{known_due}
use Rattle.sect_names.proofs.source.accept.Goals as goal

pub returns-in-Err-clause-refuses : goal.returns-in-Err-clause-refuses
returns-in-Err-clause-refuses c =
    subst (IsDue c.args.source.now c.args.k) (sym c.reason.ensures)
    (known_due c.args.source.now c.args.k c.in-Err.refused c.in-Err.ensures.known)

use Rattle.std.proofs.Common.{sym, subst}
use Rattle.sect_infer.specs.Numberings.{ClassIs}
use Rattle.sect_infer.proofs.numbering.class_in.Goals as goal

pub returns-in-Path : goal.returns-in-Path
returns-in-Path c =
    subst (λ l. ClassIs c.args.scheme.now l c.class_of.result) (sym c.in-Path.is) c.class_of.ensures

use Rattle.std.proofs.Common.{sym, ◌∙◌, arith}
use Rattle.sect_check.proofs.Resolving.{classed}
use Rattle.sect_check.proofs.locks.is_offered.Goals as goal

pub returns-then-fields-k : goal.returns-then-fields-k
returns-then-fields-k c =
    let tells = classed c.args.scheme.now c.args.path.now c.class_of.result c.class_of.ensures in (
      λ t. (
        omega (arith, c.if-fields-k.true, c.fields.ensures.depth, c.k.ensures),
        tells.0 (sym c.is_some.ensures ∙ t),
      ),
      λ h. c.is_some.ensures ∙ tells.1 h.1,
    )

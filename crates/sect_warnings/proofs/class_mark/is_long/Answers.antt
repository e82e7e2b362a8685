use Rattle.std.proofs.Common.{sym, ◌∙◌, arith}
use Rattle.sect_warnings.proofs.Searching.{option_is}
use Rattle.sect_warnings.proofs.class_mark.is_long.Goals as goal

pub returns-then-fields-k : goal.returns-then-fields-k
returns-then-fields-k c =
    let found = option_is c.class_of.result c.args.class in (
      λ t. (
        (c.class_of.ensures c.args.class).0 (found.0 (sym c.eq.ensures ∙ t)),
        omega (arith, c.k.ensures, c.fields.ensures.depth, c.if-fields-k.true),
      ),
      λ long. c.eq.ensures ∙ found.1 ((c.class_of.ensures c.args.class).1 long.0),
    )

use Rattle.std.proofs.Common.{◌∙◌, true≢false, sym}
use Rattle.sect_infer.proofs.Extending.{path_over}
use Rattle.sect_infer.proofs.numbering.is_over_class.Goals as goal

pub returns-then-is_of : goal.returns-then-is_of
returns-then-is_of c = λ s told.
    let over = path_over s c.args.class c.args.right c.in-Path.field-0 c.in-Path.effect c.args.its c.args.other.now
    c.in-Path.is told in (
      λ t. over.0 (c.is_of.ensures.0 c.if-is_of.true, c.grants.ensures.0 t),
      λ h. c.grants.ensures.1 (over.1 h).1,
    )

pub returns-else-is_of : goal.returns-else-is_of
returns-else-is_of c = λ s told.
    let over = path_over s c.args.class c.args.right c.in-Path.field-0 c.in-Path.effect c.args.its c.args.other.now
    c.in-Path.is told in (
      λ t. absurd (true≢false (sym t ∙ c.if-is_of.false)),
      λ h. c.is_of.ensures.1 (over.1 h).0,
    )

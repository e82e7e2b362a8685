use Rattle.std.proofs.Common.{arith}
use Rattle.sect_points.proofs.ClassLaws.{site_more}
use Rattle.sect_points.proofs.path_classes.leading_site.Goals as goal

pub loop-field-preserved : goal.loop-field-preserved
loop-field-preserved c =
    let l = c.loop-field in
    site_more c.args.points.now c.args.base c.args.fields.now l.field-index (record { of = 0; number = 0 }) l.site
    c.in_ok-site-2.site c.bounds.ensures.below (omega arith) l.invariant.0 c.in_ok-site-2.ensures.some.1

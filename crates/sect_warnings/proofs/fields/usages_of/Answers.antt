use Rattle.std.proofs.Common.{◌+◌, sym, subst}
use Rattle.sect_warnings.specs.steps.Usage.{AreFirstUsed}
use Rattle.sect_warnings.proofs.Using.{usages_more}
use Rattle.sect_warnings.proofs.fields.usages_of.Goals as goal

pub loop-section-preserved : goal.loop-section-preserved
loop-section-preserved c =
    let v = c.args.compiled.now in
    let i = c.loop-section.section in
    subst (AreFirstUsed v (i + 1)) (sym c.in_ok-push.ensures.items)
    (usages_more v i c.loop-section.usages.items c.in_ok-usage_of.field-0 c.loop-section.invariant
    c.in_ok-usage_of.ensures)

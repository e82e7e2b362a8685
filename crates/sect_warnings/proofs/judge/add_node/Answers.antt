use Rattle.std.proofs.Common.{◌≡◌, Some, sym, ◌∙◌, true≢false}
use Rattle.sect_warnings.specs.{declared.warning.Finding.TheVariants.{NeverFilled}, Warnings.{IsDue, warning, through}}
use Rattle.sect_conflicts.proofs.shared.Selecting.{adds_none}
use Rattle.sect_warnings.proofs.judge.add_node.Goals as goal

pub returns-else-is_never_filled : goal.returns-else-is_never_filled
returns-else-is_never_filled c =
    let place = c.args.place in
    let some : through c.args.label ≡ Some c.in-Some.local = sym c.through.ensures ∙ c.in-Some.is in
    rw some
    (adds_none (IsDue c.args.compiled.now)
    (warning place.section place.item (NeverFilled place.node c.in-Some.local)) c.args.found.now.items
    (λ due. true≢false (sym (c.is_never_filled.ensures.1
    (rw (c.points.ensures, c.classes.ensures, c.scheme.ensures, c.section_thread-thread.ensures) due))
    ∙ c.if-is_never_filled.false)))

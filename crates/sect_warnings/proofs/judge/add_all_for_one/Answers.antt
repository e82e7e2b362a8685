use Rattle.std.proofs.Common.{sym, ◌∙◌, true≢false}
use Rattle.sect_conflicts.proofs.shared.Selecting.{adds_none}
use Rattle.sect_warnings.specs.{declared.warning.Finding.TheVariants.{AllForOne}, Warnings.{IsDue, warning}}
use Rattle.sect_warnings.proofs.judge.add_all_for_one.Goals as goal

pub returns-else-branch : goal.returns-else-branch
returns-else-branch c =
    adds_none (IsDue c.args.compiled.now) (warning c.args.section c.args.item AllForOne) c.args.found.now.items
    (λ due. true≢false (sym (c.in_ok-takes_all_for_one.ensures.1 due) ∙ c.if-branch.false))

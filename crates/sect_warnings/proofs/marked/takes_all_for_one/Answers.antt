use Rattle.std.proofs.Common.{◌≡◌, Some, sym, ap, ◌∙◌, true≢false}
use Rattle.std.specs.Prelude.{slice_get}
use Rattle.sect_infer.specs.Sets.{AreUnmarkedAt}
use Rattle.sect_warnings.proofs.Marking.{end_by, unmarked_not, one_exactly}
use Rattle.sect_front.specs.declared.tree.Locking.TheVariants as locking
use Rattle.sect_warnings.proofs.marked.takes_all_for_one.Goals as goal

pub returns-in-Inferred : goal.returns-in-Inferred
returns-in-Inferred c =
    let v = c.args.compiled.now in
    let at : slice_get v.scheme.program.lockings c.args.section ≡ Some c.locking.result =
    rw (c.program.ensures, c.scheme-scheme.ensures) at c.locking.ensures in (
      λ t. absurd (true≢false (sym t)),
      λ due. absurd (unmarked_not v c.args.section (at ∙ ap (λ h. Some h) c.in-Inferred.is) due),
    )

pub returns-in_ok-locks-in-All : goal.returns-in_ok-locks-in-All
returns-in_ok-locks-in-All c =
    let v = c.args.compiled.now in
    let i = c.args.section in
    let at : slice_get v.scheme.program.lockings i ≡ Some c.locking.result =
    rw (c.program.ensures, c.scheme-scheme.ensures) at c.locking.ensures in
    let are : AreUnmarkedAt v.scheme i c.in_ok-locks-in-All.locks =
    rw c.scheme-scheme.ensures at c.in_ok-locks-in-All.ensures in
    let one = rw c.entry.ensures at c.is_one.ensures in
    let exactly = one_exactly v c.facts.ensures.compiled.scheme i c.requires c.in_ok-locks-in-All.locks are
    (end_by v i locking.All (at ∙ ap (λ h. Some h) c.in-All.is)) in
    (λ t. exactly.0 (one.0 t), λ due. one.1 (exactly.1 due))

use Rattle.std.proofs.Common.{sym, ◌∙◌, true≢false}
use Rattle.sect_names.specs.{Chains.{link}, Needed.{end_locks}}
use Rattle.sect_names.proofs.shared.Telling.{lock_tells}
use Rattle.sect_check.proofs.Generating.{generated_one, generated_none}
use Rattle.sect_check.proofs.links.is_generated.Goals as goal

pub returns-in-Some : goal.returns-in-Some
returns-in-Some c =
    let section = c.args.section in
    let l = c.in-Some.lock in
    let step = link c.args.step.node c.args.step.lock.now in
    let tells = lock_tells l step.lock in
    generated_one section.scheme.now section.thread (end_locks section.locking) section.flow.now step.node
    c.generated_at.result c.generated_at.ensures l step.lock c.in-Some.is c.eq.result
    (λ t. tells.0 (sym c.eq.ensures ∙ t), λ e. c.eq.ensures ∙ tells.1 e)

pub returns-in-None : goal.returns-in-None
returns-in-None c =
    let section = c.args.section in
    let step = link c.args.step.node c.args.step.lock.now in (
      λ t. absurd (true≢false (sym t)),
      λ h. absurd (generated_none section.scheme.now section.thread (end_locks section.locking) section.flow.now
          step.node c.generated_at.result c.generated_at.ensures step.lock c.in-None.is h),
    )

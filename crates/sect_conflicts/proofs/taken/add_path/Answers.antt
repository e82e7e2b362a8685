use Rattle.std.proofs.Common.{[], ◌∷◌, ◌++◌, sym, ap, ◌∙◌, true≢false}
use Rattle.sect_names.specs.declared.lock.Lock.{Lock}
use Rattle.sect_conflicts.specs.Taken.{IsPathMet}
use Rattle.sect_conflicts.proofs.shared.Selecting.{adds_one, adds_none}
use Rattle.sect_conflicts.proofs.taken.add_path.Goals as goal

pub returns-in_ok-push : goal.returns-in_ok-push
returns-in_ok-push c =
    let old = c.args.paths.now.items in
    adds_one (IsPathMet c.args.others.now.compiled.now c.args.others.now.thread) c.args.lock.now old
    c.push.new.self.items (c.is_path_met.ensures.0 c.if-is_path_met.true)
    (c.in_ok-push.ensures.items ∙ ap (λ (z : Lock). old ++ z ∷ []) c.in_ok-try_clone.ensures)

pub returns-else-is_path_met : goal.returns-else-is_path_met
returns-else-is_path_met c =
    adds_none (IsPathMet c.args.others.now.compiled.now c.args.others.now.thread) c.args.lock.now c.args.paths.now.items
    (λ m. true≢false (sym (c.is_path_met.ensures.1 m) ∙ c.if-is_path_met.false))

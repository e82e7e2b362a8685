use Rattle.std.proofs.Common.{sym, ◌∙◌, true≢false}
use Rattle.sect_conflicts.specs.Taken.{IsKeyMet}
use Rattle.sect_conflicts.proofs.shared.Selecting.{adds_one, adds_none}
use Rattle.sect_conflicts.proofs.taken.add_key.Goals as goal

pub returns-in_ok-push : goal.returns-in_ok-push
returns-in_ok-push c =
    adds_one (IsKeyMet c.args.others.now.compiled.now c.args.others.now.thread) c.args.grip c.args.part.now.items
    c.push.new.self.items (c.is_key_met.ensures.0 c.if-is_key_met.true) c.in_ok-push.ensures.items

pub returns-else-is_key_met : goal.returns-else-is_key_met
returns-else-is_key_met c =
    adds_none (IsKeyMet c.args.others.now.compiled.now c.args.others.now.thread) c.args.grip c.args.part.now.items
    (λ m. true≢false (sym (c.is_key_met.ensures.1 m) ∙ c.if-is_key_met.false))

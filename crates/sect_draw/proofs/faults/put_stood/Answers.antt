use Rattle.std.proofs.Common.{rules, ◌≡◌, Some, sym, length, vec_len}
use Rattle.sect_lemmas.proofs.Changed.{set_put, changed_past, not_below}
use Rattle.sect_draw.proofs.faults.put_stood.Goals as goal

pub returns-in-Some : goal.returns-in-Some
returns-in-Some c = set_put c.args.thread (Some c.args.stood) c.args.ran.now.items

pub returns-in_default : goal.returns-in_default
returns-in_default c =
    let ran = c.args.ran.now in
    let long : length ran.items ≡ vec_len ran = search rules in
    sym (changed_past c.args.thread (λ old. Some c.args.stood) ran.items
    (rw long (not_below c.args.thread (vec_len ran) c.in_default.ensures.variant.1)))

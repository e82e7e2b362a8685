use Rattle.std.proofs.Common.{sym, ◌∙◌}
use Rattle.sect_names.proofs.shared.Telling.{lock_tells}
use Rattle.sect_check.proofs.links.is_carried_back.Goals as goal

pub returns-then-stays : goal.returns-then-stays
returns-then-stays c =
    let before = c.args.before.now in
    let stay = c.stays.ensures c.if-stays.true c.args.section.scheme.now c.requires before in
    let tells = lock_tells before c.args.after.now in
    (λ t. stay.1 (tells.0 (sym c.eq.ensures ∙ t)), λ h. c.eq.ensures ∙ tells.1 (stay.0 h))

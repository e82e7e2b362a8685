use Rattle.std.proofs.Common.{sym, ◌∙◌}
use Rattle.sect_names.specs.contracts.lock.LockPartialEq.TheImpl.{ghosts as the_lock_eq}
use Rattle.sect_lemmas.proofs.Finding.{any_tells}
use Rattle.sect_names.proofs.shared.Telling.{lock_tells}
use Rattle.sect_names.proofs.maximal.has.Goals as goal

pub returns : goal.returns
returns c =
    let tells = any_tells the_lock_eq.eq lock_tells c.args.locks.now.keys c.args.lock.now in
    (λ t. tells.0 (sym c.contains.ensures ∙ t), λ h. c.contains.ensures ∙ tells.1 h)

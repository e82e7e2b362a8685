use Rattle.std.proofs.Common.{sym, ◌∙◌, None}
use Rattle.sect_names.proofs.{Replacing.{replaced_other, replaced_none}, Telling.{same_variable, other_variable}}
use Rattle.sect_names.proofs.carry.unless_based.Goals as goal

pub returns-then-eq : goal.returns-then-eq
returns-then-eq c =
    let base = sym c.base.ensures ∙ same_variable c.base.result c.args.x c.eq.result c.eq.ensures c.if-eq.true in
    λ q. (λ h. absurd h, λ h. absurd (replaced_none c.args.x c.args.path.now q base h))

pub returns-in_ok-try_clone : goal.returns-in_ok-try_clone
returns-in_ok-try_clone c =
    let p = c.args.path.now in
    rw c.in_ok-try_clone.ensures (λ q. replaced_other c.args.x None p q
    (λ e. other_variable c.base.result c.args.x c.eq.result c.eq.ensures c.if-eq.false (c.base.ensures ∙ e)))

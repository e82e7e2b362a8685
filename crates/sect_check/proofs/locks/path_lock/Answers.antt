use Rattle.std.proofs.Common.{◌≡◌, ◌≤◌, ◌∙◌, true, ap, subst, sym}
use Rattle.std.specs.Option.{option_map}
use Rattle.sect_lemmas.proofs.Options.{some_injective}
use Rattle.sect_names.specs.{Locks.{depth, IsClassed, IsLockOf}, Schemes.{SchemeView}}
use Rattle.sect_check.proofs.Resolving.{lock_there}
use Rattle.sect_names.specs.declared.lock.Lock.TheVariants as lock
use Rattle.sect_check.proofs.locks.path_lock.Goals as goal

pub returns-then-not-is_offered : goal.returns-then-not-is_offered
returns-then-not-is_offered c y (is, it) =
    let n = c.args.naming.now in
    let path = c.in_ok-path.path in
    let named = ap (option_map (λ x. lock.Path x c.args.effect)) c.in_ok-path.ensures in
    let same = some_injective (lock.Path path c.args.effect) y (sym named ∙ is) in
    let own = subst (IsLockOf n.scheme n.thread) (sym same) it in
    let yes : c.is_offered.result ≡ true = c.is_offered.ensures.1
    (subst (λ (s : SchemeView). (depth path ≤ s.most) × IsClassed s path) (sym c.scheme.ensures)
    (own.short, own.classed)) in
    let no = c.if-not-is_offered.true in
    absurd cc

pub returns : goal.returns
returns c =
    let n = c.args.naming.now in
    let path = c.in_ok-path.path in
    lock_there n.scheme n.thread c.args.named.now c.args.effect path c.in_ok-path.ensures
    (subst (λ (s : SchemeView). (depth path ≤ s.most) × IsClassed s path) c.scheme.ensures
    (c.is_offered.ensures.0 c.if-not-is_offered.false))

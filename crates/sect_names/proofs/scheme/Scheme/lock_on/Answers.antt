use Rattle.std.proofs.Common.{◌≡◌, ◌≤◌, ◌<◌, subst}
use Rattle.sect_names.specs.{Locks.{depth}, Carrying.{right_for}}
use Rattle.sect_names.specs.declared.lock.Lock.TheVariants as lock
use Rattle.sect_names.proofs.Limits.{no_lock, a_lock}
use Rattle.sect_names.proofs.scheme.Scheme.lock_on.Goals as goal

pub returns-in-None : goal.returns-in-None
returns-in-None c = no_lock c.args.self.now c.args.effect c.args.path.now c.class_of.result c.class_of.ensures
    c.in-None.is

pub returns-in_ok-try_clone-in-Some : goal.returns-in_ok-try_clone-in-Some
returns-in_ok-try_clone-in-Some c =
    let s = c.args.self.now in
    let e = c.args.effect in
    let l = c.lock_in.result in
    let same = c.in_ok-try_clone-in-Some.ensures in
    a_lock s e c.args.path.now c.class_of.result c.class_of.ensures c.in-Some.class c.in-Some.is l
    (subst (λ p. depth p ≤ s.most → l ≡ lock.Path p e) same c.lock_in.ensures.short)
    (subst (λ p. s.most < depth p → l ≡ lock.Class c.in-Some.class (right_for e)) same c.lock_in.ensures.long)

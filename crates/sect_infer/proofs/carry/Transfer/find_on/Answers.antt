use Rattle.std.proofs.Common.{◌≡◌, ◌↔◌, ℕ, Some, subst}
use Rattle.sect_points.specs.Partitions.{HasClass}
use Rattle.sect_names.specs.Carrying.{LockOn}
use Rattle.sect_infer.specs.Numbers.{with_number}
use Rattle.sect_infer.proofs.Carrying.{finds_none, finds_one, finds_as, lock_on_is, lock_of_class, no_lock_on}
use Rattle.sect_infer.proofs.carry.Transfer.find_on.Goals as goal

pub number_in-requires : goal.number_in-requires
number_in-requires c = (c.args.self.scheme.now, c.requires.numbering)

pub returns-in-None : goal.returns-in-None
returns-in-None c =
    let s = c.args.self.scheme.now in
    finds_none s c.args.numbering.now c.args.found.now (LockOn s c.args.effect c.args.path) c.requires
    (no_lock_on s c.args.effect c.args.path c.class_of.result c.class_of.ensures c.in-None.is)

pub returns-in_ok-insert-in-Some : goal.returns-in_ok-insert-in-Some
returns-in_ok-insert-in-Some c =
    let s = c.args.self.scheme.now in
    let e = c.args.effect in
    let p = c.args.path in
    let a = c.args.numbering.now in
    let b = c.number_in.new.self in
    let found = c.args.found.now in
    let n = c.in-Some.class in
    let x = c.lock_in-lock.result in
    let short = c.lock_in-lock.ensures.short in
    let long = c.lock_in-lock.ensures.long in
    let number = c.in_ok-number-in-Some.number in
    let tells : (m : ℕ) → (Some n ≡ Some m) ↔ HasClass s.classes p m =
    subst (λ o. (m : ℕ) → (o ≡ Some m) ↔ HasClass s.classes p m) c.in-Some.is c.class_of.ensures in
    rw c.in_ok-insert-in-Some.ensures (finds_as s a b found (with_number found number) (λ l. l ≡ x) (LockOn s e p)
    (lock_on_is s e p c.class_of.result c.class_of.ensures n c.in-Some.is x short long)
    (finds_one s a b found x number c.requires
    (c.in_ok-number-in-Some.ensures s c.requires.numbering (lock_of_class s e p n tells x short long))))

use Rattle.std.proofs.Common.{◌≡◌, ℕ, Some, subst}
use Rattle.std.specs.Prelude.{slice_get, IsTrue}
use Rattle.sect_lemmas.specs.Lists.{Has}
use Rattle.sect_infer.specs.{Numbers.{AreApart}, steps.Putting.{IsTold}}
use Rattle.sect_infer.proofs.Extending.{numbered_write, write_above, count_added}
use Rattle.sect_names.specs.declared.lock.Effect.TheVariants as effect
use Rattle.sect_names.specs.declared.lock.Lock.TheVariants as lock
use Rattle.sect_infer.proofs.numbering.Numbering.put_write.Goals as goal

pub tell_one-requires : goal.tell_one-requires
tell_one-requires c =
    let added = c.in_ok-added.added in
    count_added c.requires.0 c.args.self.now c.add.new.self (lock.Path c.args.path effect.Write) c.args.class
    c.in_ok-above.above.items added.is_new c.requires.1 c.in_ok-added.ensures.new c.in_ok-added.ensures.old

pub returns : goal.returns
returns c = λ s is told.
    let t = c.args.self.now in
    let mid = c.add.new.self in
    let new = c.tell_one.new.self in
    let p = c.args.path in
    let above = c.in_ok-above.above.items in
    let added = c.in_ok-added.added in
    let same = c.in_ok-try_clone.ensures in
    numbered_write s t mid new p c.args.class above added.number added.is_new is
    (write_above s t.keys p c.args.class above told c.in_ok-above.ensures) told
    c.in_ok-added.ensures.new c.in_ok-added.ensures.old c.in_ok-added.ensures.there
    (subst (λ q. IsTrue added.is_new → (r : ℕ) → slice_get mid.keys r ≡ Some (lock.Path q effect.Read)
    → AreApart mid.keys → IsTold mid new r added.number) same c.in_ok-tell_one.ensures.there)
    (subst (λ q. (Has mid.keys (lock.Path q effect.Read) → ⊥) → new ≡ mid) same c.in_ok-tell_one.ensures.absent)
    c.in_ok-tell_one.ensures.old

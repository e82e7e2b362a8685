use Rattle.std.proofs.Common.{take, refl, sym, ◌∙◌, subst, inl, inr, true≢false}
use Rattle.std.proofs.lemmas.List.{take_more}
use Rattle.sect_lemmas.specs.Lists.{Has}
use Rattle.sect_lemmas.proofs.Membership.{Has-get_or, Has-cases}
use Rattle.sect_warnings.specs.ClassLocks.{class_lock}
use Rattle.sect_warnings.proofs.outcome.has_lock.Goals as goal

pub returns-then-is_class_lock : goal.returns-then-is_class_lock
returns-then-is_class_lock c = (
  λ t. subst (Has c.args.set.now) (sym c.lock-item.is ∙ c.is_class_lock.ensures.0 c.if-is_class_lock.true)
      (Has-get_or c.args.set.now c.loop-lock.lock-index c.lock-item.result c.loop-lock-test.true),
  λ h. refl,
)

pub loop-lock-preserved : goal.loop-lock-preserved
loop-lock-preserved c = λ has.
    let set = c.args.set.now in
    let lock = class_lock c.args.wanted.class c.args.wanted.effect in
    elim (Has-cases (take c.loop-lock.lock-index set) _ lock
    (subst (λ l. Has l lock) (take_more set c.loop-lock.lock-index c.lock-item.result c.loop-lock-test.true) has)) [
      | inl before ↦ c.loop-lock.invariant before
      | inr here ↦ elim here [
        | inl is ↦ true≢false (sym (c.is_class_lock.ensures.1 (c.lock-item.is ∙ is)) ∙ c.if-is_class_lock.false)
        | inr none ↦ none
      ]
    ]

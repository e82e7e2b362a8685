use Rattle.std.proofs.Common.{inl, inr, refl, arith, sym, ◌∙◌, subst, true≢false}
use Rattle.sect_lemmas.specs.Lists.{Has}
use Rattle.sect_check.proofs.{Edges.{stays, first_is, second_is, all_hold, one_holds}, Scanning.{same_has}}
use Rattle.sect_check.proofs.lists.first_uncarried_from.Goals as goal

pub returns-then-not-branch-clause-some : goal.returns-then-not-branch-clause-some
returns-then-not-branch-clause-some c =
    first_is c.args.section.scheme.now _ c.args.section.flow.now c.args.claims.now c.args.left.from _ _
    c.action-label.ensures c.succ.ensures c.args.left.above.locks.now _ refl (same_has c.requires.locks) _ _
    c.in_order-first.ensures.each c.in_order-first.ensures.order _ c.list_beside-at_first.ensures.locks
    (λ h. true≢false (sym (c.in_ok-carries_into.ensures.1 h) ∙ c.if-not-branch.true))

pub returns-then-not-branch-2-clause-some : goal.returns-then-not-branch-2-clause-some
returns-then-not-branch-2-clause-some c =
    second_is c.args.section.scheme.now _ c.args.section.flow.now c.args.claims.now c.args.left.from _ _
    c.action-label.ensures c.succ.ensures c.args.left.above.locks.now _ refl (same_has c.requires.locks) _ _
    c.in_order-first.ensures.each c.in_order-first.ensures.order _ c.list_beside-at_first.ensures.locks
    (c.in_ok-carries_into.ensures.0 c.if-not-branch.false) _ c.list_beside-at_second.ensures.locks
    (λ h. true≢false (sym (c.in_ok-carries_into-2.ensures.1 h) ∙ c.if-not-branch-2.true))

pub returns-clause-none : goal.returns-clause-none
returns-clause-none c =
    all_hold c.args.section.scheme.now _ c.args.section.flow.now c.args.claims.now c.args.left.from _ _
    c.action-label.ensures c.succ.ensures c.args.left.above.locks.now _ refl (same_has c.requires.locks) _ _
    c.in_order-first.ensures.each c.in_order-first.ensures.order _ c.list_beside-at_first.ensures.locks
    (c.in_ok-carries_into.ensures.0 c.if-not-branch.false) _ c.list_beside-at_second.ensures.locks
    (c.in_ok-carries_into-2.ensures.0 c.if-not-branch-2.false)

pub returns-then-second-first-clause-none : goal.returns-then-second-first-clause-none
returns-then-second-first-clause-none c =
    one_holds c.args.section.scheme.now _ c.args.section.flow.now c.args.claims.now c.args.left.from _ _
    c.action-label.ensures c.succ.ensures c.args.left.above.locks.now _ refl (same_has c.requires.locks) _ _
    c.in_order-first.ensures.each c.in_order-first.ensures.order _ c.list_beside-at_first.ensures.locks
    c.if-second-first.true (c.in_ok-carries_into.ensures.0 c.if-not-branch.false)

pub list_beside-at_first-requires-clause-node : goal.list_beside-at_first-requires-clause-node
list_beside-at_first-requires-clause-node c =
    let first = c.in_order-first.result.0 in
    let to = stays c.args.section.flow.now c.requires.within c.args.left.from c.succ.result c.succ.ensures first
    ((c.in_order-first.ensures.each first).1 (inl refl)) in
    omega (arith, to, c.requires.count)

pub list_beside-at_second-requires-clause-node : goal.list_beside-at_second-requires-clause-node
list_beside-at_second-requires-clause-node c =
    let second = c.in_order-first.result.1 in
    let to = stays c.args.section.flow.now c.requires.within c.args.left.from c.succ.result c.succ.ensures second
    ((c.in_order-first.ensures.each second).1 (inr refl)) in
    omega (arith, to, c.requires.count)

pub carries_into-requires-clause-lawful : goal.carries_into-requires-clause-lawful
carries_into-requires-clause-lawful c = λ l h. c.requires.lawful c.in_order-first.result.0 l
    (subst (λ ls. Has ls l) c.list_beside-at_first.ensures.locks h)

pub carries_into-requires-2-clause-lawful : goal.carries_into-requires-2-clause-lawful
carries_into-requires-2-clause-lawful c = λ l h. c.requires.lawful c.in_order-first.result.1 l
    (subst (λ ls. Has ls l) c.list_beside-at_second.ensures.locks h)

use Rattle.std.proofs.Common.{◌≡◌, [], ◌∷◌, IfSome, inl, inr, sym, subst, Vec, Global}
use Rattle.sect_lemmas.specs.Lists.{Has}
use Rattle.sect_lemmas.proofs.Membership.{Has-cases, Has-get_or}
use Rattle.sect_lint.specs.{declared.circle.Link.{Link}, steps.Linked.{IsLink}}
use Rattle.sect_lint.proofs.circle.links_of.Goals.{in-Some+in_ok-push, in_default}
use Rattle.sect_lint.proofs.circle.links_of.Goals as goal

pub loop-named-preserved : goal.loop-named-preserved
loop-named-preserved c =
    let names = c.args.names.now in
    let x = c.named-item.result in
    let there = subst (Has names) (sym c.named-item.is)
    (Has-get_or names c.loop-named.named-index x c.loop-named-test.true) in
    let so_far = c.loop-named.invariant in
    elim c.match-branch-2.branch [
      | in-Some+in_ok-push w ↦ λ l h.
          let new = w.in-Some.link in
          let told = c.in_ok-link.ensures in
          let is_call = subst (λ o. IfSome o (λ (k : Link). k.call ≡ x)) w.in-Some.is told.called in
          let is_link = subst (λ o. IfSome o (IsLink c.args.declared.now)) w.in-Some.is told.linked in
          let held = subst (λ (k : Vec Link Global). Has k.items l) w.links-is h in
          elim (Has-cases c.loop-named.links.items (new ∷ []) l
          (subst (λ ls. Has ls l) w.in_ok-push.ensures.items held)) [
            | inl k ↦ so_far l k
            | inr k ↦ elim k [
              | inl e ↦ (
                subst (λ (n : Link). Has names n.call) e (subst (Has names) (sym is_call) there),
                subst (IsLink c.args.declared.now) e is_link,
              )
              | inr n ↦ absurd n
            ]
          ]
      | in_default w ↦ λ l h. so_far l (subst (λ (k : Vec Link Global). Has k.items l) w.links-is h)
    ]

use Rattle.std.proofs.Common.{◌≡◌, ◌∙◌, arith, inl, inr, sym, subst}
use Rattle.sect_lemmas.specs.Lists.{Has}
use Rattle.sect_lemmas.proofs.Membership.{Has-get_or}
use Rattle.sect_lint.specs.declared.circle.Link.{Link}
use Rattle.sect_lint.proofs.circle.mark.Goals as goal

pub mark_link-requires-clause-from : goal.mark_link-requires-clause-from
mark_link-requires-clause-from c =
    let x = c.link-item.result in
    let there = subst (Has c.args.links.now) (sym c.link-item.is)
    (Has-get_or c.args.links.now c.loop-link.link-index x c.loop-link-test.true) in
    omega (arith, (c.requires.within x there).0, c.loop-link.invariant.many)

pub mark_link-requires-clause-to : goal.mark_link-requires-clause-to
mark_link-requires-clause-to c =
    let x = c.link-item.result in
    let there = subst (Has c.args.links.now) (sym c.link-item.is)
    (Has-get_or c.args.links.now c.loop-link.link-index x c.loop-link-test.true) in
    omega (arith, (c.requires.within x there).1, c.loop-link.invariant.many)

pub loop-link-preserved : goal.loop-link-preserved
loop-link-preserved c =
    let x = c.link-item.result in
    let there = subst (Has c.args.links.now) (sym c.link-item.is)
    (Has-get_or c.args.links.now c.loop-link.link-index x c.loop-link-test.true) in
    record {
      many = c.mark_link.ensures.many ∙ c.loop-link.invariant.many;
      next = λ q l e. elim (c.mark_link.ensures.next q l e) [
        | inl k ↦ c.loop-link.invariant.next q l k
        | inr k ↦ (
          subst (Has c.args.links.now) k.1 there,
          sym (subst (λ (y : Link). q ≡ y.from) k.1 k.0),
        )
      ];
    }

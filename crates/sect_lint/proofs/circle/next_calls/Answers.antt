use Rattle.std.proofs.Common.{◌≡◌, ◌∙◌, Option, length, sym, subst}
use Rattle.std.specs.{Prelude.{Vec}, declared.alloc.Global.{Global}}
use Rattle.sect_lint.specs.declared.circle.Link.{Link}
use Rattle.sect_lint.specs.steps.Linked.{AreNext}
use Rattle.sect_lint.proofs.circle.next_calls.Goals.{else-loop-round-test, then-loop-round-test+then-not-mark}
use Rattle.sect_lint.proofs.circle.next_calls.Goals as goal

pub loop-round-preserved : goal.loop-round-preserved
loop-round-preserved c = record {
  many = c.mark.ensures.many ∙ c.loop-round.invariant.many;
  next = c.mark.ensures.next;
}

pub returns-clause-many : goal.returns-clause-many
returns-clause-many c = elim c.loop-round-test.branch [
  | else-loop-round-test w ↦ subst (λ (v : Vec (Option Link) Global). length v.items ≡ c.args.count) (sym w.next-is)
      c.loop-round.invariant.many
  | then-loop-round-test+then-not-mark w ↦ subst (λ (v : Vec (Option Link) Global). length v.items ≡ c.args.count)
      (sym w.next-is) (w.mark.ensures.many ∙ c.loop-round.invariant.many)
]

pub returns-clause-next : goal.returns-clause-next
returns-clause-next c = elim c.loop-round-test.branch [
  | else-loop-round-test w ↦ subst (λ (v : Vec (Option Link) Global). AreNext c.args.links.now v.items) (sym w.next-is)
      c.loop-round.invariant.next
  | then-loop-round-test+then-not-mark w ↦ subst (λ (v : Vec (Option Link) Global). AreNext c.args.links.now v.items)
      (sym w.next-is) w.mark.ensures.next
]

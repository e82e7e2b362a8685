use Rattle.std.proofs.Common.{◌≡◌, ◌-◌, ◌∷◌, [], sym, ◌∙◌, subst, arith}
use Rattle.sect_lemmas.specs.Lists.{Has}
use Rattle.sect_lemmas.proofs.Membership.{Has-left}
use Rattle.sect_infer.proofs.Queueing.{none_left, range_popped}
use Rattle.sect_infer.proofs.waiting.Waiting.pop_last.Goals as goal

pub invariant_of-self : goal.invariant_of-self
invariant_of-self c = record {
  ordered = c.in-Some.ensures.ordered;
  from = λ i h. c.self.invariant.from i (subst (λ xs. Has xs i) (sym c.in-Some.ensures.removal)
      (Has-left c.pop_last.new.self.keys (c.in-Some.node ∷ []) i h));
}

pub returns : goal.returns
returns c =
    let below = c.self.inside.below in
    let none : c.self.inside.others.keys ≡ [] =
    none_left c.self.inside.others.keys (λ h. let some = c.in_default.ensures.variant.1 h in absurd cc) in
    sym c.self.view_is
    ∙ range_popped below (below - 1) c.self.inside.others.keys c.pop_last.new.self.keys
    (omega (arith, c.if-self-eq0.false)) none (c.in_default.ensures.unchanged ∙ none)

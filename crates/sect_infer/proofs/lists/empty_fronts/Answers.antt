use Rattle.std.proofs.Common.{◌+◌, ◌∷◌, [], ap, ◌∙◌, length-append, length, subst, sym, inl, inr}
use Rattle.sect_lemmas.specs.Lists.{Has}
use Rattle.sect_lemmas.proofs.Membership.{Has-cases}
use Rattle.sect_infer.proofs.lists.empty_fronts.Goals as goal

pub loop-preserved : goal.loop-preserved
loop-preserved c =
    let fs = c.loop.fronts.items in
    let new = c.in_ok-push.ensures.items in
    record {
      count = ap length new ∙ length-append fs (record { row = 0; count = 0 } ∷ [])
          ∙ ap (λ n. n + 1) c.loop.invariant.count;
      each = λ f h. elim (Has-cases fs (record { row = 0; count = 0 } ∷ []) f (subst (λ xs. Has xs f) new h)) [
        | inl k ↦ c.loop.invariant.each f k
        | inr k ↦ elim k [ inl e ↦ sym e | inr none ↦ absurd none ]
      ];
    }

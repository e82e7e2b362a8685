use Rattle.std.proofs.Common.{[], ◌∷◌, ◌+◌, None, length-append, sym, ap, ◌∙◌, inl, inr}
use Rattle.sect_lemmas.proofs.Membership.{Has-cases}
use Rattle.sect_emit.proofs.known_locks.KnownLocks.new.Goals as goal

pub loop-preserved : goal.loop-preserved
loop-preserved c = rw c.in_ok-push.ensures.items (record {
  counted = length-append c.loop.named.items (None ∷ []) ∙ ap (λ n. n + 1) c.loop.invariant.counted;
  none = λ o h. elim (Has-cases c.loop.named.items (None ∷ []) o h) [
    | inl old ↦ c.loop.invariant.none o old
    | inr one ↦ elim one [ inl e ↦ sym e | inr none ↦ absurd none ]
  ];
})

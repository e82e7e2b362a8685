-- The ends of states.
use Rattle.std.proofs.Common.{◌≡◌, ◌<◌, ◌≤◌, ◌+◌, inl, inr, ℕ, List, [], ◌∷◌, ◌++◌, Some, true, refl, sym, ap, subst, ◌∙◌}
use Rattle.std.proofs.{Common.{arith, slice_get}, lemmas.Bool.{cases_lt}}
use Rattle.sect_lemmas.specs.Lists.{Has}
use Rattle.sect_lemmas.proofs.{Membership.{Has-cases, Has-left, Has-right, Has-unmap}, Options.{some_injective}}
use Rattle.sect_types.specs.{Programs.{ProgramView}, Whole.{RunView, SerialEndView, RunsWhole, EndsAs}}
use Rattle.sect_types.proofs.shared.Endings.{whole_comes_to_one}
use Rattle.sect_serial.specs.{Comparing.{end_eq}, Exploring.{Found, ends_in, IsBefore, AreRising}}
use Rattle.sect_serial.specs.steps.States.{States, Leads, AreEnds, IsFoundBy, KeepsEnd, has_end}
use Rattle.sect_serial.proofs.{Keys.{keys_push, lookup_has, lookup_none}, TellLemmas.{serial_end_tells}}
use Rattle.sect_serial.proofs.Shortlex.{rising_push, rising_places}

-- an end is told apart by itself
abbrev itself : SerialEndView → SerialEndView
itself e = e

module _ (p : ProgramView) (fuel : ℕ) (es : States) (n : ℕ) (all : Found) (before : AreEnds p fuel es n all)
    (e : RunView × List ℕ) (at : slice_get es n ≡ Some e) where
  -- what the states so far and this one come to is there
  found_on : (fs : Found) → ((x : SerialEndView × List ℕ) → Has all x → Has fs x)
      → ((x : SerialEndView) → EndsAs p e.0 x → IsFoundBy fs x e.1)
      → (i : ℕ) (d : RunView × List ℕ) (x : SerialEndView) → i < n + 1 → slice_get es i ≡ Some d → EndsAs p d.0 x
      → IsFoundBy fs x d.1
  found_on fs keeps here i d x lt there ends = elim (cases_lt i n) [
    | inl less ↦
        let f = before.found i d x less there ends in
        (f.0, keeps f.0 f.1, f.2, f.3)
    | inr more ↦
        let k : n ≡ i = omega (arith, lt, more) in
        let same : d ≡ e = some_injective d e (sym there ∙ ap (slice_get es) (sym k) ∙ at) in
        subst (λ (y : RunView × List ℕ). IsFoundBy fs x y.1) (sym same)
        (here x (subst (λ (y : RunView × List ℕ). EndsAs p y.0 x) same ends))
  ]

  -- what was found before comes before the states that are left
  ahead_on : (x : SerialEndView × List ℕ) (i : ℕ) (d : RunView × List ℕ) → Has all x → n + 1 ≤ i
      → slice_get es i ≡ Some d → IsBefore x.1 d.1
  ahead_on x i d h le there = before.ahead x i d h (omega (arith, le)) there

  -- a state with a section left has no end
  pub no_end : ((x : SerialEndView) → EndsAs p e.0 x → ⊥) → AreEnds p fuel es (n + 1) all
  no_end none = record {
    right = before.right;
    once = before.once;
    found = found_on all (λ x h. h) (λ x ends. absurd (none x ends));
    ahead = ahead_on;
    rising = before.rising;
  }

  module _ (rising : AreRising es) (led : Leads p fuel e.1 e.0) (y : SerialEndView) (ends : EndsAs p e.0 y) where
    one_end : (x : SerialEndView) → EndsAs p e.0 x → y ≡ x
    one_end x other = whole_comes_to_one p fuel e.1 y x (e.0, led.there, ends) (e.0, led.there, other)

    right_on : (x : SerialEndView × List ℕ) → Has (all ++ (y, e.1) ∷ []) x → RunsWhole p fuel x.1 x.0
    right_on x h = elim (Has-cases all ((y, e.1) ∷ []) x h) [
      | inl a ↦ before.right x a
      | inr b ↦ elim b [
        | inl is ↦ subst (λ (z : SerialEndView × List ℕ). RunsWhole p fuel z.1 z.0) is (e.0, led.there, ends)
        | inr no_more ↦ absurd no_more
      ]
    ]

    -- the end is there, with an order that came before
    old_end : has_end all y ≡ true → IsFoundBy all y e.1
    old_end old =
        let there = Has-unmap (λ (x : SerialEndView × List ℕ). x.0) all y
        (lookup_has itself end_eq serial_end_tells all y old) in
        (there.0, there.1, there.2, inl (before.ahead there.0 n e there.1 (omega arith) at))

    abbrev more : Found
    more = all ++ (y, e.1) ∷ []

    ahead_more : (x : SerialEndView × List ℕ) (i : ℕ) (d : RunView × List ℕ) → Has more x → n + 1 ≤ i
        → slice_get es i ≡ Some d → IsBefore x.1 d.1
    ahead_more x i d h le there = elim (Has-cases all ((y, e.1) ∷ []) x h) [
      | inl a ↦ ahead_on x i d a le there
      | inr b ↦ elim b [
        | inl is ↦ subst (λ (z : SerialEndView × List ℕ). IsBefore z.1 d.1) is
            (rising_places es n i e d rising (omega (arith, le)) at there)
        | inr no_more ↦ absurd no_more
      ]
    ]

    -- the end of the state is kept
    pub end_kept : (fs : Found) → KeepsEnd y e.1 all fs → AreEnds p fuel es (n + 1) fs
    end_kept fs (inl old) = subst (AreEnds p fuel es (n + 1)) (sym old.1) (record {
      right = before.right;
      once = before.once;
      found = found_on all (λ x h. h) (λ x other. subst (λ z. IsFoundBy all z e.1) (one_end x other) (old_end old.0));
      ahead = ahead_on;
      rising = before.rising;
    })
    end_kept fs (inr new) = subst (AreEnds p fuel es (n + 1)) (sym new.1) (record {
      right = right_on;
      once = keys_push itself all y e.1 before.once (lookup_none itself end_eq serial_end_tells all y new.0);
      found = found_on more (λ x h. Has-left all ((y, e.1) ∷ []) x h)
          (λ x other. ((y, e.1), Has-right all ((y, e.1) ∷ []) (y, e.1) (inl refl), one_end x other, inr refl));
      ahead = ahead_more;
      rising = rising_push all (y, e.1) before.rising (λ x h. before.ahead x n e h (omega arith) at);
    })

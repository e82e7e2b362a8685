-- While sections of the threads follow one state, each order that is kept comes before the next that is tried.
use Rattle.std.proofs.Common.{◌≡◌, ◌<◌, ◌≤◌, ◌+◌, inl, inr, ℕ, List, [], ◌∷◌, ◌++◌, Some, sym, subst}
use Rattle.std.proofs.Common.{◌∙◌, ap, arith, length, length-append, slice_get}
use Rattle.sect_lemmas.specs.Lists.{Has}
use Rattle.sect_lemmas.proofs.{Membership.{Has-cases}, Options.{some_injective}, Elements.{slice_get-left}}
use Rattle.sect_lemmas.proofs.Places.{pushed_at}
use Rattle.sect_types.specs.Whole.{RunView}
use Rattle.sect_serial.specs.Exploring.{IsBefore, AreRising}
use Rattle.sect_serial.specs.steps.States.{States, Keeps, IsAtMost, IsAhead, AreAhead}
use Rattle.sect_serial.proofs.Shortlex.{before_transitive, before_more, before_longer, before_last, at_most_before}
use Rattle.sect_serial.proofs.Shortlex.{rising_places}

-- with the next thread the order is later
pub ahead_next : (es : States) (n t : ℕ) → IsAhead es n t → IsAhead es n (t + 1)
ahead_next es n t ahead e x at h = before_transitive x.1 (e.1 ++ t ∷ []) (e.1 ++ (t + 1) ∷ []) (ahead e x at h)
    (before_last e.1 t (t + 1) (omega arith))

module _ (es : States) (n t : ℕ) (e : RunView × List ℕ) (longer : List ℕ) (at : slice_get es n ≡ Some e)
    (is : longer ≡ e.1 ++ t ∷ []) (ahead : IsAhead es n t) where
  -- all that is kept comes before the order that is tried
  pub behind_all : (x : RunView × List ℕ) → Has es x → IsBefore x.1 longer
  behind_all x h = subst (IsBefore x.1) (sym is) (ahead e x at h)

  module _ (r : RunView) where
    abbrev more : States
    more = es ++ (r, longer) ∷ []

    at_most : (x : RunView × List ℕ) → Has more x → IsAtMost x.1 longer
    at_most x h = elim (Has-cases es ((r, longer) ∷ []) x h) [
      | inl there ↦ inl (behind_all x there)
      | inr last ↦ elim last [
        | inl same ↦ inr (sym (ap (λ (y : RunView × List ℕ). y.1) same))
        | inr no_more ↦ absurd no_more
      ]
    ]

    ahead_more : IsAhead more n (t + 1)
    ahead_more d x got h =
        let same : d ≡ e = some_injective d e (sym got ∙ slice_get-left es ((r, longer) ∷ []) n e at) in
        subst (λ (y : RunView × List ℕ). IsBefore x.1 (y.1 ++ (t + 1) ∷ [])) (sym same)
        (at_most_before x.1 longer (e.1 ++ (t + 1) ∷ []) (at_most x h)
        (subst (λ o. IsBefore o (e.1 ++ (t + 1) ∷ [])) (sym is) (before_last e.1 t (t + 1) (omega arith))))

    later_more : AreRising es → AreAhead es (n + 1) → AreAhead more (n + 1)
    later_more rising later k le d x got h = elim (pushed_at es (r, longer) d k got) [
      | inr before ↦ elim (Has-cases es ((r, longer) ∷ []) x h) [
        | inl there ↦ later k le d x before there
        | inr last ↦ at_most_before x.1 longer (d.1 ++ 0 ∷ []) (at_most x h)
            (subst (λ o. IsBefore o (d.1 ++ 0 ∷ [])) (sym is)
            (before_longer e.1 d.1 t 0 (rising_places es n k e d rising (omega (arith, le)) at before)))
      ]
      | inl new ↦ subst (λ (y : RunView × List ℕ). IsBefore x.1 (y.1 ++ 0 ∷ [])) new.1
          (at_most_before x.1 longer (longer ++ 0 ∷ []) (at_most x h) (before_more longer 0))
    ]

    -- so it is when what the section leads to is kept
    pub ahead_kept : (most : ℕ) (fs : States) → Keeps most r longer es fs → IsAhead fs n (t + 1)
    ahead_kept most fs (inl k) = subst (λ (xs : States). IsAhead xs n (t + 1)) (sym k.1) (ahead_next es n t ahead)
    ahead_kept most fs (inr k) = subst (λ (xs : States). IsAhead xs n (t + 1)) (sym k.2) ahead_more

    pub later_kept : (most : ℕ) (fs : States) → AreRising es → AreAhead es (n + 1) → Keeps most r longer es fs
        → AreAhead fs (n + 1)
    later_kept most fs rising later (inl k) = subst (λ (xs : States). AreAhead xs (n + 1)) (sym k.1) later
    later_kept most fs rising later (inr k) =
        subst (λ (xs : States). AreAhead xs (n + 1)) (sym k.2) (later_more rising later)

-- nothing comes before the first
pub none_behind : (es : States) (order : List ℕ) → es ≡ [] → (x : RunView × List ℕ) → Has es x → IsBefore x.1 order
none_behind es order none x h = absurd (subst (λ (xs : States). Has xs x) none h)

-- the first state is alone
pub first_ahead : (most : ℕ) (r : RunView) (order : List ℕ) (es fs : States) → es ≡ [] → order ≡ []
    → Keeps most r order es fs → AreAhead fs 0
first_ahead most r order es fs none empty kept k le d x at h = inl (omega (arith, short x h, length-append d.1 (0 ∷ []))) where
  all : (x : RunView × List ℕ) → Has es x → x.1 ≡ []
  all x h = absurd (subst (λ (xs : States). Has xs x) none h)

  by : Keeps most r order es fs → (x : RunView × List ℕ) → Has fs x → x.1 ≡ []
  by (inl same) x h = all x (subst (λ (xs : States). Has xs x) same.1 h)
  by (inr more) x h = elim (Has-cases es ((r, order) ∷ []) x (subst (λ (xs : States). Has xs x) more.2 h)) [
    | inl there ↦ all x there
    | inr last ↦ elim last [
      | inl same ↦ sym (ap (λ (y : RunView × List ℕ). y.1) same) ∙ empty
      | inr no_more ↦ absurd no_more
    ]
  ]

  short : (x : RunView × List ℕ) → Has fs x → length x.1 ≡ 0
  short x h = ap (λ (o : List ℕ). length o) (by kept x h)

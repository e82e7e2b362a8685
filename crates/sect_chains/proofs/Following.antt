-- The steps of a chain, each the one to which the step before it links.
use Rattle.std.proofs.Common.{◌≡◌, ℕ, zero, suc, ◌<◌, List, [], ◌∷◌, Option, Some, None, length, inl, inr, refl, sym}
use Rattle.std.proofs.Common.{ap, ◌∙◌, subst, arith}
use Rattle.std.proofs.lemmas.Option.{slice_get-map}
use Rattle.std.specs.{Prelude.{slice_get}, Option.{option_map}}
use Rattle.sect_lemmas.specs.Lists.{Has}
use Rattle.sect_lemmas.proofs.{Membership.{Has-slice_get}, Places.{at_of}}
use Rattle.sect_names.specs.{declared.link.Link.{Link}, declared.lock.Lock.{Lock}}
use Rattle.sect_chains.specs.{declared.keep.KeptLink.{KeptLink}, declared.numbered.NumberedStep.{NumberedStep}}
use Rattle.sect_chains.specs.Numbered.{links_by, HaveLocks}
use Rattle.sect_chains.specs.steps.{Trails.{GoBack, AreBehind, AreFrom}, Working.{link_of, links_of, nexts_of}}
use Rattle.sect_chains.specs.steps.Following.{LinkBack, numbered, behind, begun, steps_from, chain_from}
use Rattle.sect_chains.proofs.Growing.{next_is}

behind_same : (f g : ℕ → List NumberedStep) (p : Option ℕ) → ((j : ℕ) → p ≡ Some j → f j ≡ g j)
    → behind f p ≡ behind g p
behind_same f g None h = refl
behind_same f g (Some j) h = h j refl

begun_same : (f g : ℕ → List NumberedStep) (o : Option KeptLink)
    → ((x : KeptLink) (j : ℕ) → o ≡ Some x → x.next ≡ Some j → f j ≡ g j) → begun f o ≡ begun g o
begun_same f g None h = refl
begun_same f g (Some x) h = ap (λ xs. numbered x ∷ xs) (behind_same f g x.next (λ j to. h x j refl to))

module _ (kept : List KeptLink) (back : LinkBack kept) where
  -- more steps than there are before one make no difference
  same_from : (n m i : ℕ) → i < n → i < m → steps_from kept n i ≡ steps_from kept m i
  same_from zero m i h k = absurd (omega (arith, h))
  same_from (suc n) zero i h k = absurd (omega (arith, k))
  same_from (suc n) (suc m) i h k =
      begun_same (λ j. steps_from kept n j) (λ j. steps_from kept m j) (slice_get kept i) (λ x j at to.
      (let less = back i j x at to in same_from n m j (omega (arith, less, h)) (omega (arith, less, k))))

  -- a step that links to one, and the steps from that on
  pub chain_next : (i j : ℕ) (x : KeptLink) → slice_get kept i ≡ Some x → x.next ≡ Some j
      → chain_from kept i ≡ numbered x ∷ chain_from kept j
  chain_next i j x at to =
      ap (begun (λ m. steps_from kept i m)) at ∙ ap (λ p. numbered x ∷ behind (λ m. steps_from kept i m) p) to
      ∙ ap (λ xs. numbered x ∷ xs) (same_from i (suc j) j (back i j x at to) (omega arith))

  -- a step that links to none
  pub chain_last : (i : ℕ) (x : KeptLink) → slice_get kept i ≡ Some x → x.next ≡ None
      → chain_from kept i ≡ numbered x ∷ []
  chain_last i x at to =
      ap (begun (λ m. steps_from kept i m)) at ∙ ap (λ p. numbered x ∷ behind (λ m. steps_from kept i m) p) to

  -- what the step at an index stands for
  linked : (keys : List Lock) (i : ℕ) (x : KeptLink) → slice_get kept i ≡ Some x
      → slice_get (links_of keys kept) i ≡ Some (link_of keys x)
  linked keys i x at = slice_get-map (link_of keys) kept i ∙ ap (option_map (link_of keys)) at

  module _ (keys : List Lock) where
    -- steps from one on are behind another that links to it
    are_behind : (i j : ℕ) (links : List Link) → slice_get (nexts_of kept) i ≡ Some (Some j)
        → AreFrom (links_of keys kept) (nexts_of kept) j links → AreBehind (links_of keys kept) (nexts_of kept) i links
    are_behind i j [] to h = absurd h
    are_behind i j (b ∷ links) to (there, h) = (j, to, there, h)

    from_below : (n i : ℕ) → i < n → i < length kept
        → AreFrom (links_of keys kept) (nexts_of kept) i (links_by keys (chain_from kept i))
    from_below zero i less within = absurd (omega (arith, less))
    from_below (suc n) i less within =
        let x = at_of kept i within in
        go x.0 x.1 x.0.next refl
        (λ j lt. from_below n j (omega (arith, lt, less)) (omega (arith, lt, within)))
      where
        go : (x : KeptLink) → slice_get kept i ≡ Some x → (p : Option ℕ) → x.next ≡ p
            → ((j : ℕ) → j < i
            → AreFrom (links_of keys kept) (nexts_of kept) j (links_by keys (chain_from kept j)))
            → AreFrom (links_of keys kept) (nexts_of kept) i (links_by keys (chain_from kept i))
        go x at None to more =
            subst (λ xs. AreFrom (links_of keys kept) (nexts_of kept) i (links_by keys xs)) (sym (chain_last i x at to))
            (linked keys i x at, next_is kept i x at ∙ ap (λ z. Some z) to)
        go x at (Some j) to more =
            let is = sym (chain_next i j x at to) in
            subst (λ xs. AreFrom (links_of keys kept) (nexts_of kept) i (links_by keys xs)) is (
              linked keys i x at,
              are_behind i j (links_by keys (chain_from kept j)) (next_is kept i x at ∙ ap (λ z. Some z) to)
                  (more j (back i j x at to)),
            )

    -- what the steps from one on stand for
    pub chain_is : (i : ℕ) → i < length kept
        → AreFrom (links_of keys kept) (nexts_of kept) i (links_by keys (chain_from kept i))
    chain_is i within = from_below (suc i) i (omega arith) within

-- each step links back
pub link_back : (keys : List Lock) (kept : List KeptLink) → GoBack (links_of keys kept) (nexts_of kept) → LinkBack kept
link_back keys kept back i j x at to = back.earlier i j (next_is kept i x at ∙ ap (λ z. Some z) to)

module _ (keys : List Lock) (kept : List KeptLink) (all : (x : KeptLink) → Has kept x → x.number < length keys) where
  have_behind : (f : ℕ → List NumberedStep) (p : Option ℕ) → ((j : ℕ) → HaveLocks keys (f j))
      → HaveLocks keys (behind f p)
  have_behind f None more x h = absurd h
  have_behind f (Some j) more x h = more j x h

  have_begun : (f : ℕ → List NumberedStep) (o : Option KeptLink)
      → ((y : KeptLink) → o ≡ Some y → y.number < length keys)
      → ((j : ℕ) → HaveLocks keys (f j)) → HaveLocks keys (begun f o)
  have_begun f None here more x h = absurd h
  have_begun f (Some y) here more x h = elim h [
    | inl e ↦ subst (λ (z : NumberedStep). z.number < length keys) e (here y refl)
    | inr k ↦ have_behind f y.next more x k
  ]

  have_from : (n i : ℕ) → HaveLocks keys (steps_from kept n i)
  have_from zero i x h = absurd h
  have_from (suc n) i x h =
      have_begun (λ j. steps_from kept n j) (slice_get kept i) (λ y at. all y (Has-slice_get kept i y at))
      (λ j. have_from n j) x h

  -- the locks of a chain's steps are there
  pub chain_has_locks : (i : ℕ) → HaveLocks keys (chain_from kept i)
  chain_has_locks i = have_from (suc i) i

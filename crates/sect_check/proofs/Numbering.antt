-- Chains whose numbers rise: where each number below one is there, the chain of that number stands at its place.
use Rattle.std.proofs.Common.{◌≡◌, ℕ, zero, suc, ◌<◌, ◌≤◌, List, [], ◌∷◌, Some, length, refl, sym, ap, ◌∙◌, subst, inl}
use Rattle.std.proofs.{Common.{inr, arith}, lemmas.Bool.{cases_lt, cases_eq}, lemmas.Slice.Zip.{AllZip-long}}
use Rattle.std.proofs.lemmas.Option.{slice_get_within}
use Rattle.std.specs.{Prelude.{slice_get}, List.{AllZip}}
use Rattle.sect_lemmas.specs.Lists.{Has}
use Rattle.sect_lemmas.proofs.{Membership.{Has-slice_get}, Places.{Has-index, at_of, one_at, zipped_at, each_at}}
use Rattle.sect_types.specs.Sections.{SectionView}
use Rattle.sect_graph.specs.declared.flow.Node.{Node}
use Rattle.sect_names.specs.Schemes.{SchemeView}
use Rattle.sect_cert.specs.{declared.certificate.CertChain.{CertChain}, declared.certificate.Cert.{Cert}}
use Rattle.sect_cert.specs.Texts.{AreRising, IsSection, HasText}
use Rattle.sect_check.specs.{declared.claims.Claims.{Claims}, declared.claims.ChainClaim.{ChainClaim}}
use Rattle.sect_check.specs.{Meaning.{IsSectionAt, DenotesChain, DenotesAll}, Names.{Denotes}, Faults.{IsStray}}
use Rattle.sect_check.specs.steps.Shapes.{DoRise, HasNumber, HaveNumbersBelow, HaveShape}

module _ (chains : List ChainClaim) (rise : DoRise chains) where
  -- a chain's number isn't below its place
  place_low : (i : ℕ) (x : ChainClaim) → slice_get chains i ≡ Some x → i ≤ x.lock
  place_low zero x at = omega arith
  place_low (suc i) x at =
      let w = slice_get_within chains (suc i) x at in
      let y = at_of chains i (omega (arith, w)) in
      let low = place_low i y.0 y.1 in
      let up = rise i (suc i) y.0 x (omega arith) y.1 at in
      omega (arith, low, up)

  -- up to a number below which each is there, chains stand at the places of their numbers
  placed : (n : ℕ) → HaveNumbersBelow chains n → (m : ℕ) → m < n → (x : ChainClaim) → slice_get chains m ≡ Some x
      → x.lock ≡ m
  placed zero below m lt x at = absurd (omega (arith, lt))
  placed (suc n) below m lt x at = elim (cases_lt m n) [
    | inl less ↦ placed n (λ k k_less. below k (omega (arith, k_less))) m less x at
    | inr more ↦
        let is : m ≡ n = omega (arith, lt, more) in
        let h = below n (omega arith) in
        let i = Has-index chains h.0 h.1 in
        let low = place_low i.0 h.0 i.1 in
        elim (cases_lt i.0 n) [
          | inl less ↦ absurd (let p = placed n (λ k k_less. below k (omega (arith, k_less))) i.0 less h.0 i.1 in
              omega (arith, p, less, h.2))
          | inr up ↦
              let here : i.0 ≡ m = omega (arith, low, up, is, h.2) in
              let same = one_at chains m h.0 x (subst (λ k. slice_get chains k ≡ Some h.0) here i.1) at in
              sym (ap (λ z. z.lock) same) ∙ h.2 ∙ sym is
        ]
  ]

  module _ (n : ℕ) (below : HaveNumbersBelow chains n) where
    -- where another stands at this place, no chain has its number
    pub another_there : (y : ChainClaim) → slice_get chains n ≡ Some y → (y.lock ≡ n → ⊥) → HasNumber chains n → ⊥
    another_there y at bad h =
        let i = Has-index chains h.0 h.1 in
        elim (cases_lt i.0 n) [
          | inl less ↦ (let p = placed n below i.0 less h.0 i.1 in omega (arith, p, less, h.2))
          | inr up ↦
              let low = place_low i.0 h.0 i.1 in
              let here : i.0 ≡ n = omega (arith, low, up, h.2) in
              let same = one_at chains n h.0 y (subst (λ k. slice_get chains k ≡ Some h.0) here i.1) at in
              bad (sym (ap (λ z. z.lock) same) ∙ h.2)
        ]

    -- where no chain stands at this place, all have lower numbers
    pub no_more : length chains ≤ n → (x : ChainClaim) → Has chains x → x.lock < n
    no_more past x h =
        let i = Has-index chains x h in
        let w = slice_get_within chains i.0 x i.1 in
        let p = placed n below i.0 (omega (arith, w, past)) x i.1 in
        omega (arith, p, w, past)

    -- the chain at this place has the least number that isn't lower
    least_more : (y : ChainClaim) → slice_get chains n ≡ Some y → (x : ChainClaim) → Has chains x → n ≤ x.lock
        → y.lock ≤ x.lock
    least_more y at x h up =
        let i = Has-index chains x h in
        elim (cases_lt i.0 n) [
          | inl less ↦ absurd (let p = placed n below i.0 less x i.1 in omega (arith, p, less, up))
          | inr from ↦ elim (cases_eq i.0 n) [
            | inl is ↦ (let same = one_at chains n x y (subst (λ k. slice_get chains k ≡ Some x) is i.1) at in
                omega (arith, ap (λ z. z.lock) same))
            | inr apart ↦ (let after : n < i.0 = omega (arith, from, apart) in let lt = rise n i.0 y x after at i.1 in
                omega (arith, lt))
          ]
        ]

  -- one chain alone has a number
  pub one_number : (x y : ChainClaim) → Has chains x → Has chains y → x.lock ≡ y.lock → x ≡ y
  one_number x y has_x has_y same =
      let i = Has-index chains x has_x in
      let j = Has-index chains y has_y in
      elim (cases_lt i.0 j.0) [
        | inl less ↦ absurd (let lt = rise i.0 j.0 x y less i.1 j.1 in omega (arith, lt, same))
        | inr from ↦ elim (cases_lt j.0 i.0) [
          | inl more ↦ absurd (let lt = rise j.0 i.0 y x more j.1 i.1 in omega (arith, lt, same))
          | inr to ↦ (let is : i.0 ≡ j.0 = omega (arith, from, to) in
              one_at chains j.0 x y (subst (λ k. slice_get chains k ≡ Some x) is i.1) j.1)
        ]
      ]

-- the chain behind those of the entry list's locks is the first stray
pub stray : (c : Claims) (y : ChainClaim) → DoRise c.chains → HaveNumbersBelow c.chains (length c.entry)
    → slice_get c.chains (length c.entry) ≡ Some y → IsStray c y.lock
stray c y rise below at = record {
  claimed = (y, (Has-slice_get c.chains (length c.entry) y at, refl));
  past = place_low c.chains rise (length c.entry) y at;
  least = λ x h up. least_more c.chains rise (length c.entry) below y at x h up;
}

-- the numbers of a certificate's chains rise, by their places
first_rises : (x y : CertChain) (xs : List CertChain) (j : ℕ) → AreRising (x ∷ xs) → slice_get xs j ≡ Some y
    → x.lock < y.lock
first_rises x y [] j h at = absurd cc
first_rises x y (z ∷ xs) zero h at = let same : z ≡ y = cc in subst (λ w. x.lock < w.lock) same h.0
first_rises x y (z ∷ xs) (suc j) h at = let r = first_rises z y xs j h.1 at in omega (arith, r, h.0)

-- so they do behind the first
rest_rises : (x : CertChain) (xs : List CertChain) → AreRising (x ∷ xs) → AreRising xs
rest_rises x [] h = tt
rest_rises x (y ∷ xs) h = h.1

-- a chain at a later place has a greater number
rises_by_place : (xs : List CertChain) → AreRising xs → (i j : ℕ) (x y : CertChain) → i < j → slice_get xs i ≡ Some x
    → slice_get xs j ≡ Some y → x.lock < y.lock
rises_by_place [] h i j x y lt at_x at_y = absurd cc
rises_by_place (z ∷ xs) h zero zero x y lt at_x at_y = absurd (omega (arith, lt))
rises_by_place (z ∷ xs) h zero (suc j) x y lt at_x at_y = let same : z ≡ x = cc in
    subst (λ w. w.lock < y.lock) same (first_rises z y xs j h at_y)
rises_by_place (z ∷ xs) h (suc i) zero x y lt at_x at_y = absurd (omega (arith, lt))
rises_by_place (z ∷ xs) h (suc i) (suc j) x y lt at_x at_y =
    rises_by_place xs (rest_rises z xs h) i j x y (omega (arith, lt)) at_x at_y

-- so do those of the chains that are claimed
claims_rise : (s : SchemeView) (t : ℕ) (xs : List CertChain) (ys : List ChainClaim) → AreRising xs
    → AllZip (DenotesChain s t) xs ys → DoRise ys
claims_rise s t xs ys rising zipped i j x y lt at_x at_y =
    let a = zipped_at (DenotesChain s t) xs ys zipped i x at_x in
    let b = zipped_at (DenotesChain s t) xs ys zipped j y at_y in
    let r = rises_by_place xs rising i j a.0 b.0 lt a.1 b.1 in
    omega (arith, r, a.2.0, b.2.0)

-- what a certificate that has a text claims of each section has its shape
pub all_shaped : (s : SchemeView) (a : Cert) → HasText a → (all : List Claims) → DenotesAll s a all
    → (i : ℕ) (c : Claims) → slice_get all i ≡ Some c
    → (of : SectionView) (g : List Node) → IsSectionAt s i of g → HaveShape g c
all_shaped s a text all denoted i c at of g section =
    let w = slice_get_within all i c at in
    let part = at_of a.sections i (omega (arith, w, denoted.count)) in
    let said = denoted.each i of g part.0 c section part.1 at in
    record {
      count = AllZip-long (AllZip (Denotes s of.thread)) part.0.nodes c.nodes said.nodes ∙ said.count;
      rise = claims_rise s of.thread part.0.chains c.chains
          (each_at IsSection a.sections text.sections i part.0 part.1).rising said.chains;
    }

-- The sets of a scheme as a list of facts.
use Rattle.std.proofs.Common.{◌≡◌, ◌↔◌, ◌⊎◌, inl, inr, ℕ, ◌+◌, ◌*◌, ◌<◌, ◌/◌, ◌%◌, List, [], ◌∷◌, ◌++◌, map, length}
use Rattle.std.proofs.{Common.{refl, ap, subst, arith}, lemmas.Bool.{cases_lt, cases_eq}, lemmas.List.{get_or_past}}
use Rattle.std.specs.{Prelude.{slice_index, slice_index_or}, Int.{bit_at}, List.{flat_map}}
use Rattle.sect_types.specs.declared.declarations.limits.TheConstants.{MOST_FIELDS}
use Rattle.sect_lemmas.specs.Lists.{Has}
use Rattle.sect_lemmas.proofs.Membership.{Has-left, Has-right, Has-cases}
use Rattle.sect_lemmas.proofs.Listing.{below, Has-below, Has-map, Has-flat_map}
use Rattle.sect_points.specs.{declared.holders.Fact.{Fact}, declared.holders.Holder.{Holder}}
use Rattle.sect_points.specs.{declared.holders.Holder.TheVariants.{Local, Slot}, Flow.{fact}, Rows.{no_sites}}
use Rattle.sect_points.specs.{Sets.{PointsToView, InSets, rows_of, AreBelow}, Partitions.{AreSlotsOfSites}}
use Rattle.sect_points.proofs.shared.SetLaws.{row_past}

-- an element, where something holds
abbrev pub where_so : {A P : Type 0} → P ⊎ (P → ⊥) → A → List A
where_so (inl p) x = x ∷ []
where_so (inr n) x = []

pub so_there : {A P : Type 0} (d : P ⊎ (P → ⊥)) (x : A) → P → Has (where_so d x) x
so_there (inl q) x p = inl refl
so_there (inr n) x p = absurd (n p)

pub there_so : {A P : Type 0} (d : P ⊎ (P → ⊥)) (x y : A) → Has (where_so d x) y → P × (x ≡ y)
there_so (inl q) x y h = elim h [ inl e ↦ (q, e) | inr none ↦ absurd none ]
there_so (inr n) x y h = absurd h

-- what a list has that is made from lists, one of them has
from_flat : {A B : Type 0} (f : A → List B) (xs : List A) (y : B) → Has (flat_map f xs) y
    → (x : A) × Has xs x × Has (f x) y
from_flat f [] y h = absurd h
from_flat f (x ∷ xs) y h = elim (Has-cases (f x) (flat_map f xs) y h) [
  | inl a ↦ (x, inl refl, a)
  | inr b ↦ (let r = from_flat f xs y b in (r.0, inr r.1, r.2))
]

module _ (sets : PointsToView) where
  in_or_not : (h : Holder) (s : ℕ) → InSets sets h s ⊎ (InSets sets h s → ⊥)
  in_or_not (Local t x) s = cases_eq
      (bit_at (slice_index (slice_index_or (rows_of sets t) x no_sites).words (s / 64)) (s % 64)) 1
  in_or_not (Slot o f) s = elim (cases_lt f MOST_FIELDS) [
    | inl few ↦
        let words = (slice_index_or sets.slots (o * MOST_FIELDS + f) no_sites).words in
        elim (cases_eq (bit_at (slice_index words (s / 64)) (s % 64)) 1)
        [ inl e ↦ inl (few, e) | inr n ↦ inr (λ h. n h.1) ]
    | inr past ↦ inr (λ h. omega (arith, h.0, past))
  ]

  abbrev locals_of : ℕ → List Holder
  locals_of t = map (Local t) (below (length (rows_of sets t)))

  abbrev slots_of : ℕ → List Holder
  slots_of o = map (Slot o) (below MOST_FIELDS)

  -- all holders that may hold something
  abbrev holders : List Holder
  holders = flat_map locals_of (below (length sets.locals)) ++ flat_map slots_of (below sets.sites)

  abbrev held_by : Holder → List Fact
  held_by h = flat_map (λ s. where_so (in_or_not h s) (fact h s)) (below sets.sites)

  -- what the sets have, fact by fact
  pub facts : List Fact
  facts = flat_map held_by holders

  holder_there : AreSlotsOfSites sets → (h : Holder) (s : ℕ) → InSets sets h s → Has holders h
  holder_there slots (Local t x) s h =
      let column : x < length (rows_of sets t) =
      elim (cases_lt x (length (rows_of sets t)))
      [ inl a ↦ a | inr past ↦ absurd (row_past (rows_of sets t) x s past h) ] in
      let row : t < length sets.locals =
      elim (cases_lt t (length sets.locals))
      [ inl a ↦ a | inr past ↦ absurd (omega (arith, column, ap length (get_or_past sets.locals t [] past))) ] in
      Has-left (flat_map locals_of (below (length sets.locals))) (flat_map slots_of (below sets.sites)) (Local t x)
      (Has-flat_map locals_of (below (length sets.locals)) t (Local t x) (Has-below (length sets.locals) t row)
      (Has-map (Local t) (below (length (rows_of sets t))) x (Has-below (length (rows_of sets t)) x column)))
  holder_there slots (Slot o f) s h =
      Has-right (flat_map locals_of (below (length sets.locals))) (flat_map slots_of (below sets.sites)) (Slot o f)
      (Has-flat_map slots_of (below sets.sites) o (Slot o f) (Has-below sets.sites o (slots o f s h))
      (Has-map (Slot o) (below MOST_FIELDS) f (Has-below MOST_FIELDS f h.0)))

  -- the sets have just these facts
  pub facts_tell : AreBelow sets → AreSlotsOfSites sets → (h : Holder) (s : ℕ) → InSets sets h s ↔ Has facts (fact h s)
  unfolding facts
  facts_tell low slots h s = (
    λ i. Has-flat_map held_by holders h (fact h s) (holder_there slots h s i)
        (Has-flat_map (λ x. where_so (in_or_not h x) (fact h x)) (below sets.sites) s (fact h s)
        (Has-below sets.sites s (low h s i)) (so_there (in_or_not h s) (fact h s) i)),
    λ k.
        let a = from_flat held_by holders (fact h s) k in
        let b = from_flat (λ x. where_so (in_or_not a.0 x) (fact a.0 x)) (below sets.sites) (fact h s) a.2 in
        let c = there_so (in_or_not a.0 b.0) (fact a.0 b.0) (fact h s) b.2 in
        subst (λ (f : Fact). InSets sets f.holder f.site) c.1 c.0,
  )

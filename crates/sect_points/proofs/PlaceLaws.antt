-- Laws of places of sets.
use Rattle.std.proofs.Common.{◌≡◌, ℕ, ◌+◌, ◌-◌, ◌*◌, ◌/◌, ◌%◌, ◌^◌, ◌<◌, ◌⊎◌, ◌↔◌, List, [], ◌∷◌, ◌++◌, length}
use Rattle.std.proofs.Common.{refl, sym, ap, ◌∙◌, subst, inl, inr, arith, replicate, get_or, slice_set}
use Rattle.std.proofs.lemmas.List.{get_or-set_same, get_or-set_other, length-set, get_or-map, ext_get_or, length-map}
use Rattle.std.proofs.lemmas.List.{get_or_append_left, get_or_at, get_or-replicate, length-replicate, map-set}
use Rattle.std.proofs.lemmas.List.{length-append, get_or_default, get_or_past}
use Rattle.std.proofs.{lemmas.List.Sums.{sum_by-set}, lemmas.Bool.{cases_eq, cases_lt}}
use Rattle.std.proofs.lemmas.Nat.Bits.{bit_at-zero}
use Rattle.std.specs.{Prelude.{bit_or}, Int.{bit_at}}
use Rattle.sect_types.specs.Limits.{most_sites}
use Rattle.sect_points.specs.{declared.sites.{SiteSet.{SiteSet}, TheConstants.{WORDS}}, Sites.{HasSite, room}}
use Rattle.sect_points.specs.{Rows.{no_sites, RowHas, rows_room}, declared.rows.Place.{Place}}
use Rattle.sect_points.specs.steps.Places.{empty_set, set_of, set_in, sets_at, place_at, shared, shared_count}
use Rattle.sect_points.specs.steps.Places.{ArePlaces}
use Rattle.sect_points.proofs.{shared.SetLaws.{row_past}, SiteLaws.{insert_site}}
use Rattle.sect_points.specs.declared.rows.Place.TheVariants as place

-- the set of a row
pub at_row : (sets : List SiteSet) (places : List Place) (row : ℕ) → row < length places
    → get_or (sets_at sets places) row no_sites ≡ set_in sets (get_or places row place.Nothing)
at_row sets places row lt = get_or-map (set_in sets) places row place.Nothing no_sites lt

pub length_at : (sets : List SiteSet) (places : List Place) → length (sets_at sets places) ≡ length places
length_at sets places = length-map places (set_in sets)

abbrev blank : List ℕ
blank = replicate WORDS 0

blank_length : length blank ≡ WORDS
blank_length = length-replicate {A = ℕ} WORDS 0

zeros : (k : ℕ) → get_or blank k 0 ≡ 0
zeros k = elim (cases_lt k WORDS) [
  | inl lt ↦ get_or-replicate WORDS k 0 0 lt
  | inr past ↦ get_or_past blank k 0 (omega (arith, past, blank_length))
]

-- sets of no site and of one
pub empty_none : (s : ℕ) → HasSite empty_set.words s → ⊥
empty_none s h =
    let zero : bit_at (get_or blank (s / 64) 0) (s % 64) ≡ 0 =
    ap (λ w. bit_at w (s % 64)) (zeros (s / 64)) ∙ bit_at-zero (s % 64) in
    omega (arith, h, zero)

inside : (site : ℕ) → site < most_sites → site / 64 < length blank
inside site lt = omega (arith, lt, blank_length)

pub alone_site : (site : ℕ) → site < most_sites → (other : ℕ) → HasSite (set_of site).words other ↔ (other ≡ site)
alone_site site lt other =
    let i = insert_site blank site (inside site lt) other in
    (λ h. elim (i.0 h) [ inl k ↦ absurd (empty_none other k) | inr e ↦ e ], λ e. i.1 (inr e))

pub alone_room : (site : ℕ) → site < most_sites → room (set_of site).words < room empty_set.words
alone_room site lt = shrinks (bit_or (get_or blank (site / 64) 0) (1 * 2 ^ (site % 64) % 18446744073709551616)) refl
  where
    shrinks : (word : ℕ) → slice_set blank (site / 64) word ≡ (set_of site).words
        → room (set_of site).words < room empty_set.words
    shrinks word is =
        let one : bit_at word (site % 64) ≡ 1 =
        ap (λ w. bit_at w (site % 64)) (sym (get_or-set_same blank (site / 64) word 0 (inside site lt)))
        ∙ ap (λ l. bit_at (get_or l (site / 64) 0) (site % 64)) is ∙ (alone_site site lt site).1 refl in
        let none : bit_at 0 (site % 64) ≡ 0 = bit_at-zero (site % 64) in
        let some : word ≡ 0 → ⊥ = λ (e : word ≡ 0). omega (arith, sym one ∙ ap (λ w. bit_at w (site % 64)) e ∙ none) in
        let sums : room (slice_set blank (site / 64) word) + (2 ^ 64 - get_or blank (site / 64) 0)
        ≡ room blank + (2 ^ 64 - word) = sum_by-set (λ (x : ℕ). 2 ^ 64 - x) blank (site / 64) word 0 (inside site lt) in
        omega (arith, sums, zeros (site / 64), some, ap room is)

-- rows of which one gets what has the property
pub row_gets : (rows : List SiteSet) (row : ℕ) (new : SiteSet) (P : ℕ → Type 0) → row < length rows
    → ((s : ℕ) → HasSite new.words s ↔ (RowHas rows row s ⊎ P s))
    → (other s : ℕ) → RowHas (slice_set rows row new) other s ↔ (RowHas rows other s ⊎ ((other ≡ row) × P s))
row_gets rows row new P lt gets other s = elim (cases_eq other row) [
  | inl same ↦
      let at : get_or (slice_set rows row new) other no_sites ≡ new =
      ap (λ k. get_or (slice_set rows row new) k no_sites) same ∙ get_or-set_same rows row new no_sites lt in (
        λ h. elim ((gets s).0 (subst (λ (r : SiteSet). HasSite r.words s) at h)) [
          | inl k ↦ inl (subst (λ k. RowHas rows k s) (sym same) k)
          | inr k ↦ inr (same, k)
        ],
        λ h. subst (λ (r : SiteSet). HasSite r.words s) (sym at) ((gets s).1 (elim h [
          | inl k ↦ inl (subst (λ k. RowHas rows k s) same k)
          | inr k ↦ inr k.1
        ])),
      )
  | inr apart ↦
      let at = get_or-set_other rows row other new no_sites apart in (
        λ h. inl (subst (λ (r : SiteSet). HasSite r.words s) at h),
        λ h. subst (λ (r : SiteSet). HasSite r.words s) (sym at) (elim h [ inl k ↦ k | inr k ↦ absurd (apart k.0) ]),
      )
]

-- rows of which one becomes empty
pub row_emptied : (rows : List SiteSet) (row : ℕ) (new : SiteSet) → row < length rows
    → ((s : ℕ) → HasSite new.words s → ⊥)
    → (other s : ℕ) → RowHas (slice_set rows row new) other s ↔ (RowHas rows other s × (other ≡ row → ⊥))
row_emptied rows row new lt none other s = elim (cases_eq other row) [
  | inl same ↦
      let at : get_or (slice_set rows row new) other no_sites ≡ new =
      ap (λ k. get_or (slice_set rows row new) k no_sites) same ∙ get_or-set_same rows row new no_sites lt in (
        λ h. absurd (none s (subst (λ (r : SiteSet). HasSite r.words s) at h)),
        λ h. absurd (h.1 same),
      )
  | inr apart ↦
      let at = get_or-set_other rows row other new no_sites apart in (
        λ h. (subst (λ (r : SiteSet). HasSite r.words s) at h, apart),
        λ h. subst (λ (r : SiteSet). HasSite r.words s) (sym at) h.0,
      )
]

-- what stands at the place of a row is its set
pub at_place : (rows sets : List SiteSet) (places : List Place) (row : ℕ) (p : Place)
    → sets_at sets places ≡ rows → row < length places → get_or places row place.Nothing ≡ p
    → get_or rows row no_sites ≡ set_in sets p
at_place rows sets places row p view lt is =
    ap (λ r. get_or r row no_sites) (sym view) ∙ at_row sets places row lt ∙ ap (set_in sets) is

pub has_at : (rows sets : List SiteSet) (places : List Place) (row : ℕ) (p : Place) (set : SiteSet)
    → sets_at sets places ≡ rows → row < length places → get_or places row place.Nothing ≡ p → set_in sets p ≡ set
    → (site : ℕ) → HasSite set.words site ↔ RowHas rows row site
has_at rows sets places row p set view lt is at site =
    let same : get_or rows row no_sites ≡ set = at_place rows sets places row p view lt is ∙ at in (
      λ h. subst (λ (s : SiteSet). HasSite s.words site) (sym same) h,
      λ h. subst (λ (s : SiteSet). HasSite s.words site) same h,
    )

-- where no row has a set, none has a site
pub none_at : (sets : List SiteSet) (places : List Place) (count : ℕ) → places ≡ replicate count place.Nothing
    → (row site : ℕ) → RowHas (sets_at sets places) row site → ⊥
none_at sets places count nothing row site h = elim (cases_lt row (length places)) [
  | inl lt ↦ empty_none site
      (subst (λ (s : SiteSet). HasSite s.words site) (at_row sets places row lt ∙ ap (set_in sets) (there lt)) h)
  | inr past ↦ row_past (sets_at sets places) row site (omega (arith, past, length_at sets places)) h
]
  where
    there : row < length places → get_or places row place.Nothing ≡ place.Nothing
    there lt = ap (λ l. get_or l row place.Nothing) nothing
        ∙ get_or-replicate count row place.Nothing place.Nothing
        (omega (arith, lt, ap length nothing, length-replicate {A = Place} count place.Nothing))

own_apart : (p : Place) (at : ℕ) → shared p ≡ 1 → p ≡ place.Own at → ⊥
own_apart p at one is = omega (arith, one, ap shared is)

-- a set more changes none that stands
grown_in : (sets : List SiteSet) (new : SiteSet) (p : Place) → ((at : ℕ) → p ≡ place.Own at → at < length sets)
    → set_in (sets ++ new ∷ []) p ≡ set_in sets p
grown_in sets new place.Nothing within = refl
grown_in sets new (place.Alone site) within = refl
grown_in sets new (place.Own at) within = get_or_append_left sets (new ∷ []) no_sites at (within at refl)

-- a row that gets a place of its own keeps its set, and so does each other
pub owned_same : (sets : List SiteSet) (places : List Place) (row capacity : ℕ) (new : SiteSet)
    → ArePlaces places sets capacity → new ≡ set_in sets (get_or places row place.Nothing) → row < length places
    → sets_at (sets ++ new ∷ []) (slice_set places row (place.Own (length sets))) ≡ sets_at sets places
owned_same sets places row capacity new p is lt =
    ext_get_or no_sites (sets_at more (slice_set places row own)) (sets_at sets places)
    (length_at more (slice_set places row own) ∙ length-set places row own ∙ sym (length_at sets places))
    (λ i less. let within : i < length places = omega (
      arith,
      less,
      length_at more (slice_set places row own),
      length-set places row own,
    ) in
    at_row more (slice_set places row own) i (omega (arith, within, length-set places row own))
    ∙ step i within ∙ sym (at_row sets places i within))
  where
    own : Place
    own = place.Own (length sets)

    more : List SiteSet
    more = sets ++ new ∷ []

    step : (i : ℕ) → i < length places → set_in more (get_or (slice_set places row own) i place.Nothing)
        ≡ set_in sets (get_or places i place.Nothing)
    step i within = elim (cases_eq i row) [
      | inl same ↦ ap (set_in more)
          (ap (λ k. get_or (slice_set places row own) k place.Nothing) same
          ∙ get_or-set_same places row own place.Nothing lt)
          ∙ get_or_at sets new [] no_sites (length sets) refl ∙ is
          ∙ ap (λ k. set_in sets (get_or places k place.Nothing)) (sym same)
      | inr other ↦ ap (set_in more) (get_or-set_other places row i own place.Nothing other)
          ∙ grown_in sets new (get_or places i place.Nothing) (p.within i)
    ]

-- a place that is put
put_at : (places : List Place) (row : ℕ) (p : Place) → row < length places → (other : ℕ)
    → ((other ≡ row) × (place_at (slice_set places row p) other ≡ p))
    ⊎ ((other ≡ row → ⊥) × (place_at (slice_set places row p) other ≡ place_at places other))
put_at places row p lt other = elim (cases_eq other row) [
  | inl same ↦ inl (
    same,
    ap (λ k. get_or (slice_set places row p) k place.Nothing) same ∙ get_or-set_same places row p place.Nothing lt,
  )
  | inr apart ↦ inr (apart, get_or-set_other places row other p place.Nothing apart)
]

put_count : (places : List Place) (row : ℕ) (p : Place) → row < length places
    → shared_count (slice_set places row p) + shared (place_at places row) ≡ shared_count places + shared p
put_count places row p lt = sum_by-set shared places row p place.Nothing lt

pub owned_places : (sets : List SiteSet) (places : List Place) (row capacity : ℕ) (new : SiteSet)
    → ArePlaces places sets capacity → shared (place_at places row) ≡ 1 → row < length places
    → ArePlaces (slice_set places row (place.Own (length sets))) (sets ++ new ∷ []) capacity
owned_places sets places row capacity new p one lt =
    let own = place.Own (length sets) in
    let long : length (sets ++ new ∷ []) ≡ length sets + 1 = length-append sets (new ∷ []) in
    let count = put_count places row own lt in
    record {
      within = λ i at is. elim (put_at places row own lt i) [
        | inl (same, e) ↦ let f : own ≡ place.Own at = sym e ∙ is in let g : length sets ≡ at = cc in
            omega (arith, long, g)
        | inr (apart, e) ↦ omega (arith, long, p.within i at (sym e ∙ is))
      ];
      apart = λ i j at is js. elim (put_at places row own lt i) [
        | inl (same, e) ↦ elim (put_at places row own lt j) [
          | inl (same', e') ↦ same ∙ sym same'
          | inr (apart', e') ↦ let f : own ≡ place.Own at = sym e ∙ is in let g : length sets ≡ at = cc in
              absurd (omega (arith, g, p.within j at (sym e' ∙ js)))
        ]
        | inr (apart, e) ↦ elim (put_at places row own lt j) [
          | inl (same', e') ↦ let f : own ≡ place.Own at = sym e' ∙ js in let g : length sets ≡ at = cc in
              absurd (omega (arith, g, p.within i at (sym e ∙ is)))
          | inr (apart', e') ↦ p.apart i j at (sym e ∙ is) (sym e' ∙ js)
        ]
      ];
      few = λ i site is. elim (put_at places row own lt i) [
        | inl (same, e) ↦ let f : own ≡ place.Alone site = sym e ∙ is in absurd cc
        | inr (apart, e) ↦ p.few i site (sym e ∙ is)
      ];
      room = omega (arith, long, count, one, p.room);
      most = omega (arith, long, count, one, p.most);
    }

pub put_places : (sets : List SiteSet) (places : List Place) (row capacity : ℕ) (new : Place)
    → ArePlaces places sets capacity → shared (place_at places row) ≡ 1 → shared new ≡ 1 → row < length places
    → ((site : ℕ) → new ≡ place.Alone site → site < most_sites)
    → ArePlaces (slice_set places row new) sets capacity
put_places sets places row capacity new p one also lt few =
    let count = put_count places row new lt in
    record {
      within = λ i at is. elim (put_at places row new lt i) [
        | inl (same, e) ↦ absurd (own_apart new at also (sym e ∙ is))
        | inr (apart, e) ↦ p.within i at (sym e ∙ is)
      ];
      apart = λ i j at is js. elim (put_at places row new lt i) [
        | inl (same, e) ↦ absurd (own_apart new at also (sym e ∙ is))
        | inr (apart, e) ↦ elim (put_at places row new lt j) [
          | inl (same', e') ↦ absurd (own_apart new at also (sym e' ∙ js))
          | inr (apart', e') ↦ p.apart i j at (sym e ∙ is) (sym e' ∙ js)
        ]
      ];
      few = λ i site is. elim (put_at places row new lt i) [
        | inl (same, e) ↦ few site (sym e ∙ is)
        | inr (apart, e) ↦ p.few i site (sym e ∙ is)
      ];
      room = omega (arith, count, one, also, p.room);
      most = omega (arith, count, one, also, p.most);
    }

pub written_places : (sets : List SiteSet) (places : List Place) (at capacity : ℕ) (new : SiteSet)
    → ArePlaces places sets capacity → ArePlaces places (slice_set sets at new) capacity
written_places sets places at capacity new p =
    let long = length-set sets at new in
    record {
      within = λ i k is. omega (arith, p.within i k is, long);
      apart = p.apart;
      few = p.few;
      room = omega (arith, long, p.room);
      most = omega (arith, long, p.most);
    }

-- a set that stands at a place of its own is that of its row alone
other_in : (sets : List SiteSet) (at : ℕ) (new : SiteSet) (p : Place) → (p ≡ place.Own at → ⊥)
    → set_in (slice_set sets at new) p ≡ set_in sets p
other_in sets at new place.Nothing apart = refl
other_in sets at new (place.Alone site) apart = refl
other_in sets at new (place.Own k) apart = get_or-set_other sets at k new no_sites (λ e. apart (ap place.Own e))

pub written_at : (rows sets : List SiteSet) (places : List Place) (row at capacity : ℕ) (new : SiteSet)
    → sets_at sets places ≡ rows → ArePlaces places sets capacity → get_or places row place.Nothing ≡ place.Own at
    → row < length places → sets_at (slice_set sets at new) places ≡ slice_set rows row new
written_at rows sets places row at capacity new view p is lt =
    whole ∙ ap (λ r. slice_set r row new) view
  where
    step : (i : ℕ) → i < length places → set_in (slice_set sets at new) (get_or places i place.Nothing)
        ≡ get_or (slice_set (sets_at sets places) row new) i no_sites
    step i within = elim (cases_eq i row) [
      | inl same ↦ ap (set_in (slice_set sets at new)) (ap (λ k. get_or places k place.Nothing) same ∙ is)
          ∙ get_or-set_same sets at new no_sites (p.within row at is)
          ∙ sym (ap (λ k. get_or (slice_set (sets_at sets places) row new) k no_sites) same
          ∙ get_or-set_same (sets_at sets places) row new no_sites (omega (arith, lt, length_at sets places)))
      | inr apart ↦ other_in sets at new (get_or places i place.Nothing) (λ e. apart (p.apart i row at e is))
          ∙ sym (at_row sets places i within)
          ∙ sym (get_or-set_other (sets_at sets places) row i new no_sites apart)
    ]

    whole : sets_at (slice_set sets at new) places ≡ slice_set (sets_at sets places) row new
    whole = ext_get_or no_sites (sets_at (slice_set sets at new) places) (slice_set (sets_at sets places) row new)
        (length_at (slice_set sets at new) places ∙ sym (length_at sets places)
        ∙ sym (length-set (sets_at sets places) row new))
        (λ i less. let within : i < length places = omega (arith, less, length_at (slice_set sets at new) places) in
        at_row (slice_set sets at new) places i within ∙ step i within)

-- a place that is put, as a set of its row
pub put_sets : (rows sets : List SiteSet) (places : List Place) (row : ℕ) (p : Place) → sets_at sets places ≡ rows
    → sets_at sets (slice_set places row p) ≡ slice_set rows row (set_in sets p)
put_sets rows sets places row p view =
    map-set (set_in sets) places row p ∙ ap (λ r. slice_set r row (set_in sets p)) view

-- a row whose set changes gets what the set gets
pub set_gets : (rows later : List SiteSet) (row : ℕ) (old new : SiteSet) (P : ℕ → Type 0)
    → later ≡ slice_set rows row new → row < length rows → get_or rows row no_sites ≡ old
    → ((s : ℕ) → HasSite new.words s ↔ (HasSite old.words s ⊎ P s))
    → (other s : ℕ) → RowHas later other s ↔ (RowHas rows other s ⊎ ((other ≡ row) × P s))
set_gets rows later row old new P is lt at gets other s =
    subst (λ l. RowHas l other s ↔ (RowHas rows other s ⊎ ((other ≡ row) × P s))) (sym is)
    (row_gets rows row new P lt
    (λ s. (
      λ h. elim ((gets s).0 h) [ inl k ↦ inl (subst (λ (r : SiteSet). HasSite r.words s) (sym at) k) | inr k ↦ inr k ],
      λ h. (gets s).1 (elim h [
        | inl k ↦ inl (subst (λ (r : SiteSet). HasSite r.words s) at k)
        | inr k ↦ inr k
      ]),
    ))
    other s)

-- and where the set shrinks in room, the rows do
pub set_shrinks : (rows later : List SiteSet) (row : ℕ) (old new : SiteSet) → later ≡ slice_set rows row new
    → row < length rows → get_or rows row no_sites ≡ old → room new.words < room old.words
    → rows_room later < rows_room rows
set_shrinks rows later row old new is lt at less =
    let sums : rows_room (slice_set rows row new) + room (get_or rows row no_sites).words
    ≡ rows_room rows + room new.words =
    sum_by-set (λ (s : SiteSet). room s.words) rows row new no_sites lt in
    omega (arith, ap rows_room is, ap (λ (s : SiteSet). room s.words) at, sums, less)

-- a row whose set becomes empty
pub set_emptied : (rows later : List SiteSet) (row : ℕ) (new : SiteSet) → later ≡ slice_set rows row new
    → row < length rows → ((s : ℕ) → HasSite new.words s → ⊥)
    → (other s : ℕ) → RowHas later other s ↔ (RowHas rows other s × (other ≡ row → ⊥))
set_emptied rows later row new is lt none other s =
    subst (λ l. RowHas l other s ↔ (RowHas rows other s × (other ≡ row → ⊥))) (sym is)
    (row_emptied rows row new lt none other s)

-- what isn't a place of its own
pub not_own : (p : Place) → ((at : ℕ) → p ≡ place.Own at → ⊥) → shared p ≡ 1
not_own place.Nothing no_own = refl
not_own (place.Alone site) no_own = refl
not_own (place.Own at) no_own = absurd (no_own at refl)

-- what is known of the place of a row
pub record Stands (rows sets : List SiteSet) (row : ℕ) (p : Place) : Type 0 where
  pub few : (site : ℕ) → p ≡ place.Alone site → site < most_sites
  pub within : (at : ℕ) → p ≡ place.Own at → at < length sets
  pub has : (s : ℕ) → HasSite (set_in sets p).words s ↔ RowHas rows row s
  pub none : p ≡ place.Nothing → (s : ℕ) → RowHas rows row s → ⊥
  pub alone : (site : ℕ) → p ≡ place.Alone site → (s : ℕ) → RowHas rows row s ↔ (s ≡ site)
  pub own : (at : ℕ) (set : SiteSet) → p ≡ place.Own at → set ≡ get_or sets at set → (s : ℕ)
      → HasSite set.words s ↔ RowHas rows row s

standing : (rows sets : List SiteSet) (places : List Place) (row : ℕ) (p : Place) → sets_at sets places ≡ rows
    → p ≡ place_at places row → (s : ℕ) → HasSite (set_in sets p).words s ↔ RowHas rows row s
standing rows sets places row p view is s = elim (cases_lt row (length places)) [
  | inl lt ↦ has_at rows sets places row p (set_in sets p) view lt (sym is) refl s
  | inr past ↦
      let nothing : p ≡ place.Nothing = is ∙ get_or_past places row place.Nothing past in (
        λ h. absurd (empty_none s (subst (λ q. HasSite (set_in sets q).words s) nothing h)),
        λ h. absurd (row_past rows row s (omega (arith, past, length_at sets places, ap length view)) h),
      )
]

pub stands : (rows sets : List SiteSet) (places : List Place) (row capacity : ℕ) (p : Place)
    → sets_at sets places ≡ rows → ArePlaces places sets capacity → p ≡ place_at places row → Stands rows sets row p
stands rows sets places row capacity p view are is =
    let has = standing rows sets places row p view is in
    let few : (site : ℕ) → p ≡ place.Alone site → site < most_sites = λ site e. are.few row site (sym is ∙ e) in
    let within : (at : ℕ) → p ≡ place.Own at → at < length sets = λ at e. are.within row at (sym is ∙ e) in
    record {
      few = few;
      within = within;
      has = has;
      none = λ e s h. empty_none s (subst (λ q. HasSite (set_in sets q).words s) e ((has s).1 h));
      alone = λ site e s. (
        λ h. (alone_site site (few site e) s).0 (subst (λ q. HasSite (set_in sets q).words s) e ((has s).1 h)),
        λ h. (has s).0 (subst (λ q. HasSite (set_in sets q).words s) (sym e) ((alone_site site (few site e) s).1 h)),
      );
      own = λ at set e at-is s.
          let same : set ≡ get_or sets at no_sites = at-is ∙ get_or_default sets at set no_sites (within at e) in
          let one : set_in sets p ≡ set = ap (set_in sets) e ∙ sym same in (
            λ h. (has s).0 (subst (λ (r : SiteSet). HasSite r.words s) (sym one) h),
            λ h. subst (λ (r : SiteSet). HasSite r.words s) one ((has s).1 h),
          );
    }

-- a row without a site gets its first one
pub first_places : (rows sets : List SiteSet) (places : List Place) (row capacity site : ℕ)
    → sets_at sets places ≡ rows → ArePlaces places sets capacity → place.Nothing ≡ place_at places row
    → row < length rows → site < most_sites → ArePlaces (slice_set places row (place.Alone site)) sets capacity
first_places rows sets places row capacity site view are nothing lt most =
    put_places sets places row capacity (place.Alone site) are (ap shared (sym nothing)) refl
    (omega (arith, lt, length_at sets places, ap length view))
    (λ other e. let same : site ≡ other = cc in omega (arith, same, most))

pub first_gets : (rows sets : List SiteSet) (places : List Place) (row site : ℕ) → sets_at sets places ≡ rows
    → place.Nothing ≡ place_at places row → row < length rows → site < most_sites → (other s : ℕ)
    → RowHas (sets_at sets (slice_set places row (place.Alone site))) other s
    ↔ (RowHas rows other s ⊎ ((other ≡ row) × (s ≡ site)))
first_gets rows sets places row site view nothing lt most =
    set_gets rows _ row empty_set (set_of site) (λ s. s ≡ site)
    (put_sets rows sets places row (place.Alone site) view) lt
    (at_place rows sets places row place.Nothing view (omega (arith, lt, length_at sets places, ap length view))
    (sym nothing))
    (λ s. (
      λ h. inr ((alone_site site most s).0 h),
      λ h. elim h [ inl k ↦ absurd (empty_none s k) | inr e ↦ (alone_site site most s).1 e ],
    ))

pub first_shrinks : (rows sets : List SiteSet) (places : List Place) (row site : ℕ) → sets_at sets places ≡ rows
    → place.Nothing ≡ place_at places row → row < length rows → site < most_sites
    → rows_room (sets_at sets (slice_set places row (place.Alone site))) < rows_room rows
first_shrinks rows sets places row site view nothing lt most =
    set_shrinks rows _ row empty_set (set_of site) (put_sets rows sets places row (place.Alone site) view) lt
    (at_place rows sets places row place.Nothing view (omega (arith, lt, length_at sets places, ap length view))
    (sym nothing))
    (alone_room site most)

-- a set at a place of its own
own_at : (rows sets : List SiteSet) (places : List Place) (row at capacity : ℕ) (old : SiteSet)
    → sets_at sets places ≡ rows → ArePlaces places sets capacity → place_at places row ≡ place.Own at
    → row < length rows → old ≡ get_or sets at old → get_or rows row no_sites ≡ old
own_at rows sets places row at capacity old view are is lt at-is =
    at_place rows sets places row (place.Own at) view (omega (arith, lt, length_at sets places, ap length view)) is
    ∙ sym (at-is ∙ get_or_default sets at old no_sites (are.within row at is))

pub own_gets : (rows sets : List SiteSet) (places : List Place) (row at capacity : ℕ) (old new : SiteSet)
    (P : ℕ → Type 0) → sets_at sets places ≡ rows → ArePlaces places sets capacity
    → place_at places row ≡ place.Own at → row < length rows → old ≡ get_or sets at old
    → ((s : ℕ) → HasSite new.words s ↔ (HasSite old.words s ⊎ P s))
    → (other s : ℕ) → RowHas (sets_at (slice_set sets at new) places) other s
    ↔ (RowHas rows other s ⊎ ((other ≡ row) × P s))
own_gets rows sets places row at capacity old new P view are is lt at-is gets =
    set_gets rows _ row old new P
    (written_at rows sets places row at capacity new view are is
    (omega (arith, lt, length_at sets places, ap length view)))
    lt (own_at rows sets places row at capacity old view are is lt at-is) gets

pub own_shrinks : (rows sets : List SiteSet) (places : List Place) (row at capacity : ℕ) (old new : SiteSet)
    → sets_at sets places ≡ rows → ArePlaces places sets capacity → place_at places row ≡ place.Own at
    → row < length rows → old ≡ get_or sets at old → room new.words < room old.words
    → rows_room (sets_at (slice_set sets at new) places) < rows_room rows
own_shrinks rows sets places row at capacity old new view are is lt at-is less =
    set_shrinks rows _ row old new
    (written_at rows sets places row at capacity new view are is
    (omega (arith, lt, length_at sets places, ap length view)))
    lt (own_at rows sets places row at capacity old view are is lt at-is) less

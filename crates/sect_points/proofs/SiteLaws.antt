-- Laws of sets of sites.
use Rattle.std.proofs.Common.{◌≡◌, ℕ, ◌+◌, ◌-◌, ◌*◌, ◌/◌, ◌%◌, ◌^◌, ◌<◌, ◌≤◌, ◌⊎◌, ◌↔◌, Bool, true, false, true≢false}
use Rattle.std.proofs.Common.{List, length, max, min, get_or, refl, sym, ap, ◌∙◌, inl, inr, arith, slice_set, w64, not}
use Rattle.std.proofs.Common.{nat_eq, subst}
use Rattle.std.proofs.lemmas.List.{get_or-set_same, get_or-set_other, length-set, get_or_past, set-get_or}
use Rattle.std.proofs.lemmas.Bool.{cases_eq, cases_lt, Decides.{nat_tests}}
use Rattle.std.proofs.lemmas.Nat.Bits.{bit_at_set_same, bit_at_set_other, bit_at_or, bit_at_and, bit_at_not}
use Rattle.std.proofs.lemmas.Nat.Bits.{bit_at_above, bit_at-lt, bit_at-zero, bit_at-trailing_zeros}
use Rattle.std.proofs.{lemmas.Nat.{le_or_l, shr-shr}, lemmas.List.Sums.{sum_by-set}}
use Rattle.std.specs.{Prelude.{bit_or, bit_and}, Int.{bit_at, bit_not, trailing_zeros}}
use Rattle.sect_points.specs.{declared.sites.TheConstants.{WORDS}, Sites.{HasSite, InBoth, IsNext, room}}

-- one more bit
pub insert_site : (words : List ℕ) (site : ℕ) → site / 64 < length words → (other : ℕ)
    → HasSite (slice_set words (site / 64)
    (bit_or (get_or words (site / 64) 0) (1 * 2 ^ (site % 64) % 18446744073709551616))) other
    ↔ (HasSite words other ⊎ (other ≡ site))
insert_site words site within other = elim (cases_eq (other / 64) (site / 64)) [
  | inl same ↦ elim (cases_eq (other % 64) (site % 64)) [
    | inl bit ↦
        let is : other ≡ site = omega (arith, same, bit) in (
          λ h. inr is,
          λ h. rw (
            same,
            bit,
            get_or-set_same words (site / 64)
                (bit_or (get_or words (site / 64) 0) (1 * 2 ^ (site % 64) % 18446744073709551616)) 0 within,
          )
              (bit_at_set_same w64 (get_or words (site / 64) 0) (site % 64) (omega arith)),
        )
    | inr apart ↦
        let old : bit_at
        (get_or (slice_set words (site / 64)
        (bit_or (get_or words (site / 64) 0) (1 * 2 ^ (site % 64) % 18446744073709551616))) (other / 64) 0)
        (other % 64) ≡ bit_at (get_or words (other / 64) 0) (other % 64) =
        rw (
          same,
          get_or-set_same words (site / 64)
              (bit_or (get_or words (site / 64) 0) (1 * 2 ^ (site % 64) % 18446744073709551616)) 0 within,
        )
        (bit_at_set_other w64 (get_or words (site / 64) 0) (site % 64) (omega arith) (other % 64) apart) in
        (λ h. inl (sym old ∙ h), λ h. elim h [ inl k ↦ old ∙ k | inr e ↦ absurd (apart (ap (λ n. n % 64) e)) ])
  ]
  | inr apart ↦
      let old : get_or (slice_set words (site / 64)
      (bit_or (get_or words (site / 64) 0) (1 * 2 ^ (site % 64) % 18446744073709551616))) (other / 64) 0 ≡ get_or
      words (other / 64) 0 =
      get_or-set_other words (site / 64) (other / 64) _ 0 apart in (
        λ h. inl (ap (λ w. bit_at w (other % 64)) (sym old) ∙ h),
        λ h. elim h [ inl k ↦ ap (λ w. bit_at w (other % 64)) old ∙ k | inr e ↦ absurd (apart (ap (λ n. n / 64) e)) ],
      )
]

-- the first n words are joined
pub record IsJoined (n : ℕ) (old other new : List ℕ) (grew : Bool) : Type 0 where
  pub done : (k : ℕ) → k < n → get_or new k 0 ≡ bit_or (get_or old k 0) (get_or other k 0)
  pub left : (k : ℕ) → n ≤ k → get_or new k 0 ≡ get_or old k 0
  pub long : length new ≡ length old
  pub same : grew ≡ false → new ≡ old
  pub less : grew ≡ true → room new < room old
  pub most : room new ≤ room old

-- the next word has nothing new
pub joined_same : (n : ℕ) (old other new : List ℕ) (grew : Bool) → IsJoined n old other new grew
    → bit_or (get_or new n 0) (get_or other n 0) ≡ get_or new n 0
    → IsJoined (n + 1) old other new grew
joined_same n old other new grew h e = record {
  done = λ k lt. elim (cases_eq k n) [
    | inl is ↦ rw is (sym e ∙ ap (λ w. bit_or w (get_or other n 0)) (h.left n (omega arith)))
    | inr apart ↦ h.done k (omega arith)
  ];
  left = λ k le. h.left k (omega arith);
  long = h.long;
  same = h.same;
  less = h.less;
  most = h.most;
}

-- the next word grows
pub joined_more : (n w : ℕ) (old other new : List ℕ) (grew : Bool) → IsJoined n old other new grew → n < length new
    → w ≡ bit_or (get_or new n 0) (get_or other n 0)
    → (w ≡ get_or new n 0 → ⊥) → w < 2 ^ 64 → IsJoined (n + 1) old other (slice_set new n w) true
joined_more n w old other new grew h within is apart fits =
    let at : get_or (slice_set new n w) n 0 ≡ w = get_or-set_same new n w 0 within in
    let more : get_or new n 0 ≤ w = omega (arith, le_or_l (get_or new n 0) (get_or other n 0), is) in
    let sums = sum_by-set (λ x. 2 ^ 64 - x) new n w 0 within in
    let shrinks : room (slice_set new n w) < room new = omega (arith, sums, more, apart, fits) in
    record {
      done = λ k lt. elim (cases_eq k n) [
        | inl same ↦ rw same (at ∙ is ∙ ap (λ x. bit_or x (get_or other n 0)) (h.left n (omega arith)))
        | inr other ↦ get_or-set_other new n k w 0 other ∙ h.done k (omega arith)
      ];
      left = λ k le. get_or-set_other new n k w 0 (omega arith) ∙ h.left k (omega arith);
      long = length-set new n w ∙ h.long;
      same = λ e. absurd (true≢false e);
      less = λ e. omega (arith, shrinks, h.most);
      most = omega (arith, shrinks, h.most);
    }

-- the next word is joined, whether it grows or not
pub joined_word : (n w : ℕ) (old other new : List ℕ) (grew more : Bool) → IsJoined n old other new grew
    → n < length new → w ≡ bit_or (get_or new n 0) (get_or other n 0) → w < 2 ^ 64
    → (w ≡ get_or new n 0 → more ≡ grew) → ((w ≡ get_or new n 0 → ⊥) → more ≡ true)
    → IsJoined (n + 1) old other (slice_set new n w) more
joined_word n w old other new grew more h within is fits kept grows = elim (cases_eq w (get_or new n 0)) [
  | inl same ↦ subst (IsJoined (n + 1) old other (slice_set new n w)) (sym (kept same))
      (subst (λ l. IsJoined (n + 1) old other l grew) (sym (ap (slice_set new n) same ∙ set-get_or new n 0))
      (joined_same n old other new grew h (sym is ∙ same)))
  | inr apart ↦ subst (IsJoined (n + 1) old other (slice_set new n w)) (sym (grows apart))
      (joined_more n w old other new grew h within is apart fits)
]

pub tested_same : (x y : ℕ) → x ≡ y → not (nat_eq x y) ≡ false
tested_same x y e = grind (arith, nat_tests)

pub tested_apart : (x y : ℕ) → (x ≡ y → ⊥) → not (nat_eq x y) ≡ true
tested_apart x y apart = grind (arith, nat_tests)

-- all words are joined
pub all_joined : (n : ℕ) (old other new : List ℕ) (grew : Bool) → IsJoined n old other new grew → length old ≤ n
    → length other ≤ n
    → (site : ℕ) → HasSite new site ↔ (HasSite old site ⊎ HasSite other site)
all_joined n old other new grew h lo lt site =
    let i = site / 64 in
    let b = site % 64 in
    let is : get_or new i 0 ≡ bit_or (get_or old i 0) (get_or other i 0) = elim (cases_lt i n) [
      | inl lt ↦ h.done i lt
      | inr ge ↦ rw (
        get_or_past new i 0 (omega (arith, h.long)),
        get_or_past old i 0 (omega arith),
        get_or_past other i 0 (omega arith),
      ) refl
    ] in
    let bits : bit_at (get_or new i 0) b ≡ max (bit_at (get_or old i 0) b) (bit_at (get_or other i 0) b) =
    ap (λ w. bit_at w b) is ∙ bit_at_or (get_or old i 0) (get_or other i 0) b in (
      λ k. elim (cases_eq (bit_at (get_or old i 0) b) 1) [
        | inl one ↦ inl one
        | inr zero ↦ inr (omega (arith, bits, k, zero, bit_at-lt (get_or old i 0) b, bit_at-lt (get_or other i 0) b))
      ],
      λ k. elim k [
        | inl one ↦ omega (arith, bits, one, bit_at-lt (get_or other i 0) b)
        | inr one ↦ omega (arith, bits, one, bit_at-lt (get_or old i 0) b)
      ],
    )

-- a bit of both words, of which the lowest are skipped
both_bit : (w o x skipped t : ℕ) → x ≡ bit_and w o / 2 ^ skipped
    → bit_at x t ≡ min (bit_at w (skipped + t)) (bit_at o (skipped + t))
both_bit w o x skipped t is = ap (λ y. bit_at y t) is ∙ ap (λ y. y % 2) (shr-shr (bit_and w o) skipped t)
    ∙ bit_at_and w o (skipped + t)

-- no site of both up to the next word
pub none_here : (words others : List ℕ) (from i skipped x : ℕ)
    → x ≡ bit_and (get_or words i 0) (get_or others i 0) / 2 ^ skipped → x ≡ 0
    → ((site : ℕ) → from ≤ site → site < i * 64 + skipped → InBoth words others site → ⊥)
    → (site : ℕ) → from ≤ site → site < (i + 1) * 64 → InBoth words others site → ⊥
none_here words others from i skipped x is zero before site le lt both = elim (cases_lt site (i * 64 + skipped)) [
  | inl lt ↦ before site le lt both
  | inr ge ↦
      let t = site % 64 - skipped in
      let at : site / 64 ≡ i = omega (arith, lt, ge) in
      let rem : skipped + t ≡ site % 64 = omega (arith, lt, ge) in
      let none : min (bit_at (get_or words i 0) (site % 64)) (bit_at (get_or others i 0) (site % 64)) ≡ 0 =
      rw rem at (sym (both_bit (get_or words i 0) (get_or others i 0) x skipped t is) ∙ ap (λ y. bit_at y t) zero
      ∙ bit_at-zero t) in
      let one : bit_at (get_or words i 0) (site % 64) ≡ 1 = ap (λ k. bit_at (get_or words k 0) (site % 64)) (sym at)
      ∙ both.0 in
      let other : bit_at (get_or others i 0) (site % 64) ≡ 1 = ap (λ k. bit_at (get_or others k 0) (site % 64)) (sym at)
      ∙ both.1 in
      omega (arith, none, one, other)
]

-- the least site of both from there on
pub next_found : (words others : List ℕ) (from i skipped x t : ℕ)
    → x ≡ bit_and (get_or words i 0) (get_or others i 0) / 2 ^ skipped → t ≡ trailing_zeros w64 x
    → get_or words i 0 < 2 ^ 64 → x < 2 ^ 64
    → (x ≡ 0 → ⊥) → i < WORDS → skipped < 64 → from ≤ i * 64 + skipped
    → ((site : ℕ) → from ≤ site → site < i * 64 + skipped → InBoth words others site → ⊥)
    → IsNext (InBoth words others) from (i * 64 + skipped + t)
next_found words others from i skipped x t is at fits small some lt few le before =
    let w = get_or words i 0 in
    let o = get_or others i 0 in
    let more : 0 < x = elim (cases_eq x 0) [ inl e ↦ absurd (some e) | inr n ↦ omega arith ] in
    let facts = bit_at-trailing_zeros w64 x more small in
    let bit : min (bit_at w (skipped + t)) (bit_at o (skipped + t)) ≡ 1 = sym (both_bit w o x skipped t is)
    ∙ ap (bit_at x) at ∙ facts.1 in
    let one : bit_at w (skipped + t) ≡ 1 = omega (arith, bit, bit_at-lt w (skipped + t), bit_at-lt o (skipped + t)) in
    let other : bit_at o (skipped + t) ≡ 1 = omega (arith, bit, bit_at-lt w (skipped + t), bit_at-lt o (skipped + t)) in
    let below : skipped + t < 64 =
    elim (cases_lt (skipped + t) 64)
    [ inl lt ↦ lt | inr ge ↦ absurd (omega (arith, one, bit_at_above w 64 (skipped + t) fits ge)) ] in
    let div : (i * 64 + skipped + t) / 64 ≡ i = omega (arith, below) in
    let rem : (i * 64 + skipped + t) % 64 ≡ skipped + t = omega (arith, below) in (
      omega (arith, le),
      omega (arith, below, lt),
      (rw (div, rem) one, rw (div, rem) other),
      λ site from lt both. elim (cases_lt site (i * 64 + skipped)) [
        | inl lt ↦ before site from lt both
        | inr ge ↦
            let b = site % 64 - skipped in
            let here : site / 64 ≡ i = omega (arith, lt, ge, below) in
            let left : skipped + b ≡ site % 64 = omega (arith, lt, ge, below) in
            let less : b < trailing_zeros w64 x = omega (arith, lt, ge, below, at) in
            let none : min (bit_at w (site % 64)) (bit_at o (site % 64)) ≡ 0 =
            rw left at (sym (both_bit w o x skipped b is) ∙ facts.2 b less) in
            let first : bit_at w (site % 64) ≡ 1 = ap (λ k. bit_at (get_or words k 0) (site % 64)) (sym here)
            ∙ both.0 in
            let second : bit_at o (site % 64) ≡ 1 = ap (λ k. bit_at (get_or others k 0) (site % 64)) (sym here)
            ∙ both.1 in
            omega (arith, none, first, second)
      ],
    )

-- the first n words are made anew
pub record IsMapped (f : ℕ → ℕ) (n : ℕ) (old new : List ℕ) : Type 0 where
  pub done : (k : ℕ) → k < n → get_or new k 0 ≡ f k
  pub left : (k : ℕ) → n ≤ k → get_or new k 0 ≡ get_or old k 0
  pub long : length new ≡ length old

abbrev pub both : List ℕ → List ℕ → ℕ → ℕ
both words others k = bit_and (get_or words k 0) (get_or others k 0)

abbrev pub without : List ℕ → List ℕ → ℕ → ℕ
without words others k = bit_and (get_or words k 0) (bit_not w64 (get_or others k 0))

pub none_mapped : (f : ℕ → ℕ) (old : List ℕ) → IsMapped f 0 old old
none_mapped f old = record { done = λ k h. absurd (omega arith); left = λ k h. refl; long = refl }

pub mapped_more : (f : ℕ → ℕ) (n w : ℕ) (old new : List ℕ) → IsMapped f n old new → n < length new → w ≡ f n
    → IsMapped f (n + 1) old (slice_set new n w)
mapped_more f n w old new h within is = record {
  done = λ k lt. elim (cases_eq k n) [
    | inl same ↦ rw same (get_or-set_same new n w 0 within ∙ is)
    | inr other ↦ get_or-set_other new n k w 0 other ∙ h.done k (omega arith)
  ];
  left = λ k le. get_or-set_other new n k w 0 (omega arith) ∙ h.left k (omega arith);
  long = length-set new n w ∙ h.long;
}

pub both_sites : (words others new : List ℕ) (n : ℕ) → IsMapped (both words others) n words new → length words ≡ WORDS
    → WORDS ≤ n → (site : ℕ) → HasSite new site ↔ (HasSite words site × HasSite others site)
both_sites words others new n h long all site =
    let i = site / 64 in
    let b = site % 64 in
    let w = bit_at (get_or words i 0) b in
    let o = bit_at (get_or others i 0) b in
    elim (cases_lt i WORDS) [
      | inl lt ↦
          let is : bit_at (get_or new i 0) b ≡ min w o = ap (λ x. bit_at x b) (h.done i (omega arith))
          ∙ bit_at_and (get_or words i 0) (get_or others i 0) b in (
            λ k. (
              omega (arith, is, k, bit_at-lt (get_or words i 0) b, bit_at-lt (get_or others i 0) b),
              omega (arith, is, k, bit_at-lt (get_or words i 0) b, bit_at-lt (get_or others i 0) b),
            ),
            λ k. omega (arith, is, k.0, k.1),
          )
      | inr past ↦
          let none : bit_at (get_or words i 0) b ≡ 0 = ap (λ x. bit_at x b) (get_or_past words i 0 (omega arith))
          ∙ bit_at-zero b in
          let gone : bit_at (get_or new i 0) b ≡ 0 = ap (λ x. bit_at x b) (get_or_past new i 0 (omega (arith, h.long)))
          ∙ bit_at-zero b in
          (λ k. absurd (omega (arith, gone, k)), λ k. absurd (omega (arith, none, k.0)))
    ]

pub without_sites : (words others new : List ℕ) (n : ℕ) → IsMapped (without words others) n words new
    → length words ≡ WORDS → WORDS ≤ n → ((k : ℕ) → k < WORDS → get_or others k 0 < 2 ^ 64)
    → (site : ℕ) → HasSite new site ↔ (HasSite words site × (HasSite others site → ⊥))
without_sites words others new n h long all small site =
    let i = site / 64 in
    let b = site % 64 in
    let w = bit_at (get_or words i 0) b in
    let o = bit_at (get_or others i 0) b in
    elim (cases_lt i WORDS) [
      | inl lt ↦
          let is : bit_at (get_or new i 0) b ≡ min w (1 - o) = ap (λ x. bit_at x b) (h.done i (omega arith))
          ∙ bit_at_and (get_or words i 0) (bit_not w64 (get_or others i 0)) b
          ∙ ap (min w) (bit_at_not w64 (get_or others i 0) b (small i lt) (omega arith)) in (
            λ k. (
              omega (arith, is, k, bit_at-lt (get_or words i 0) b, bit_at-lt (get_or others i 0) b),
              λ one. omega (arith, is, k, one),
            ),
            λ k. elim (cases_eq o 1) [
              | inl one ↦ absurd (k.1 one)
              | inr zero ↦
                  omega (arith, is, k.0, zero, bit_at-lt (get_or others i 0) b)
            ],
          )
      | inr past ↦
          let none : bit_at (get_or words i 0) b ≡ 0 = ap (λ x. bit_at x b) (get_or_past words i 0 (omega arith))
          ∙ bit_at-zero b in
          let gone : bit_at (get_or new i 0) b ≡ 0 = ap (λ x. bit_at x b) (get_or_past new i 0 (omega (arith, h.long)))
          ∙ bit_at-zero b in
          (λ k. absurd (omega (arith, gone, k)), λ k. absurd (omega (arith, none, k.0)))
    ]

-- The lines of an input, up to the first that is exactly `end`.
use Rattle.std.proofs.Common.{◌≡◌, ℕ, zero, suc, true, ◌+◌, ◌-◌, ◌<◌, ◌≤◌, List, [], ◌∷◌, ◌++◌, take, drop, length}
use Rattle.std.proofs.Common.{get_or, inl, inr, refl, sym, ap, ◌∙◌, subst, arith, append_assoc}
use Rattle.std.proofs.{Math.ListN.{drop_of_length-le}, Math.Seq.{take-add}}
use Rattle.std.proofs.lemmas.List.{append-nil, get_or-drop, length-drop, take_all, take_more, take-append-drop}
use Rattle.std.specs.{Prelude.{codes}, List.{slice_range}}
use Rattle.memchr.specs.Find.{is_byte}
use Rattle.sect_lemmas.specs.Lists.{Has}
use Rattle.sect_lemmas.proofs.Membership.{Has-cases, Has-right}
use Rattle.sect_cert.specs.Texts.{fed}
use Rattle.sect_answers.specs.Splitting.{with_end, EndsOnce, HasEnd, IsSplit}

-- one line more
fed_more : (lines : List (List ℕ)) (line : List ℕ) → fed (lines ++ line ∷ []) ≡ fed lines ++ (line ++ 10 ∷ [])
fed_more [] line = refl
fed_more (first ∷ lines) line =
    ap (λ l. first ++ 10 ∷ l) (fed_more lines line) ∙ sym (append_assoc first (10 ∷ fed lines) (line ++ 10 ∷ []))

-- two texts that go on from a line without a line feed inside are cut alike
line_once : (line other x y : List ℕ) → (Has line 10 → ⊥) → (Has other 10 → ⊥) → line ++ 10 ∷ x ≡ other ++ 10 ∷ y
    → (line ≡ other) × (x ≡ y)
line_once [] [] x y p q e = (refl, cc)
line_once [] (b ∷ other) x y p q e = absurd (q (inl cc))
line_once (a ∷ line) [] x y p q e = absurd (p (inl cc))
line_once (a ∷ line) (b ∷ other) x y p q e =
    let head : a ≡ b = cc in
    let tail : line ++ 10 ∷ x ≡ other ++ 10 ∷ y = cc in
    let r = line_once line other x y (λ h. p (inr h)) (λ h. q (inr h)) tail in
    (cc (head, r.0), r.1)

-- what has no line feed doesn't begin with a line
no_line : (rest line y : List ℕ) → (Has rest 10 → ⊥) → rest ≡ line ++ 10 ∷ y → ⊥
no_line rest line y none e = none (subst (λ l. Has l 10) (sym e) (Has-right line (10 ∷ y) 10 (inl refl)))

-- lines of which none is `end`, before what has no line feed, have no line `end`
no_end : (lines : List (List ℕ)) (rest : List ℕ) → ((line : List ℕ) → Has lines line → Has line 10 → ⊥)
    → (Has lines (codes "end") → ⊥) → (Has rest 10 → ⊥)
    → (others : List (List ℕ)) (more : List ℕ) → ((line : List ℕ) → Has (with_end others) line → Has line 10 → ⊥)
    → fed lines ++ rest ≡ fed (with_end others) ++ more → ⊥
no_end [] rest whole none feedless [] more whole' e = no_line rest (codes "end") more feedless e
no_end [] rest whole none feedless (other ∷ others) more whole' e =
    no_line rest other (fed (with_end others) ++ more) feedless
    (e ∙ append_assoc other (10 ∷ fed (with_end others)) more)
no_end (line ∷ lines) rest whole none feedless [] more whole' e =
    let cut = line_once line (codes "end") (fed lines ++ rest) more (whole line (inl refl))
    (whole' (codes "end") (inl refl)) (sym (append_assoc line (10 ∷ fed lines) rest) ∙ e) in
    none (inl cut.0)
no_end (line ∷ lines) rest whole none feedless (other ∷ others) more whole' e =
    let cut = line_once line other (fed lines ++ rest) (fed (with_end others) ++ more) (whole line (inl refl))
    (whole' other (inl refl))
    (sym (append_assoc line (10 ∷ fed lines) rest) ∙ e ∙ append_assoc other (10 ∷ fed (with_end others)) more) in
    no_end lines rest (λ l h. whole l (inr h)) (λ h. none (inr h)) feedless others more (λ l h. whole' l (inr h)) cut.1

-- the input so far: lines of which none is `end`, and behind them a line that has begun
pub record IsCutSo (input : List ℕ) (start at : ℕ) : Type 0 where
  pub order : start ≤ at
  pub lines : List (List ℕ)
  pub whole : (line : List ℕ) → Has lines line → Has line 10 → ⊥
  pub none : Has lines (codes "end") → ⊥
  pub before : take start input ≡ fed lines
  pub feedless : Has (slice_range input start at) 10 → ⊥

-- at the beginning there are no lines
pub cut_begins : (input : List ℕ) → IsCutSo input 0 0
cut_begins input = record {
  order = omega arith;
  lines = [];
  whole = λ line h. absurd h;
  none = λ h. absurd h;
  before = refl;
  feedless = λ h. absurd h;
}

module _ (input : List ℕ) (start at : ℕ) (within : at < length input) where
  -- the line that has begun, with one byte more
  line_more : start ≤ at → slice_range input start (at + 1) ≡ slice_range input start at ++ get_or input at 0 ∷ []
  line_more order =
      let here : get_or (drop start input) (at - start) 0 ≡ get_or input at 0 = get_or-drop start input (at - start) 0
      ∙ ap (λ i. get_or input i 0) (omega (arith, order)) in
      let there : at - start < length (drop start input) = omega (arith, length-drop start input, within, order) in
      ap (λ n. take n (drop start input)) (omega (arith, order)) ∙ take_more (drop start input) (at - start) 0 there
      ∙ ap (λ b. slice_range input start at ++ b ∷ []) here

  -- what is in front of the next byte is what is in front of the line, and the line so far
  front_is : start ≤ at → take (at + 1) input ≡ take start input ++ slice_range input start (at + 1)
  front_is order = ap (λ n. take n input) (omega (arith, order)) ∙ take-add start (at + 1 - start) input

  -- a byte that is no line feed belongs to the line that has begun
  pub cut_on : (get_or input at 0 ≡ 10 → ⊥) → IsCutSo input start at → IsCutSo input start (at + 1)
  cut_on other c = record {
    order = (let o = c.order in omega (arith, o));
    lines = c.lines;
    whole = c.whole;
    none = c.none;
    before = c.before;
    feedless = λ h. elim (Has-cases (slice_range input start at) (get_or input at 0 ∷ []) 10
        (subst (λ l. Has l 10) (line_more c.order) h)) [
          | inl a ↦ c.feedless a
          | inr b ↦ elim b [ inl e ↦ other e | inr k ↦ k ]
        ];
  }

  module _ (feed : get_or input at 0 ≡ 10) (c : IsCutSo input start at) where
    -- the lines so far, with the one that ends here
    with_line : take (at + 1) input ≡ fed (c.lines ++ slice_range input start at ∷ [])
    with_line =
        front_is c.order ∙ ap (λ l. take start input ++ l)
        (line_more c.order ∙ ap (λ b. slice_range input start at ++ b ∷ []) feed)
        ∙ ap (λ l. l ++ (slice_range input start at ++ 10 ∷ [])) c.before
        ∙ sym (fed_more c.lines (slice_range input start at))

    -- no line feed stands inside those lines
    whole_more : (l : List ℕ) → Has (c.lines ++ slice_range input start at ∷ []) l → Has l 10 → ⊥
    whole_more l h = elim (Has-cases c.lines (slice_range input start at ∷ []) l h) [
      | inl a ↦ c.whole l a
      | inr b ↦ elim b [ inl e ↦ subst (λ z. Has z 10 → ⊥) e c.feedless | inr k ↦ absurd k ]
    ]

    -- a line that isn't `end` has ended
    pub cut_line : (slice_range input start at ≡ codes "end" → ⊥) → IsCutSo input (at + 1) (at + 1)
    cut_line other = record {
      order = omega arith;
      lines = c.lines ++ slice_range input start at ∷ [];
      whole = whole_more;
      none = λ h. elim (Has-cases c.lines (slice_range input start at ∷ []) (codes "end") h) [
        | inl a ↦ c.none a
        | inr b ↦ elim b [ inl e ↦ other e | inr k ↦ k ]
      ];
      before = with_line;
      feedless = λ h. absurd (subst (λ n. Has (take n (drop (at + 1) input)) 10)
          (let e : at + 1 - (at + 1) ≡ 0 = omega arith in e) h);
    }

    -- the line `end` has ended
    pub cut_end : slice_range input start at ≡ codes "end" → IsSplit input (take (at + 1) input) (drop (at + 1) input)
    cut_end e = record {
      joined = sym (take-append-drop (at + 1) input);
      cut = inl (record {
        lines = c.lines;
        all = record {
          whole = subst (λ l. (z : List ℕ) → Has (c.lines ++ l ∷ []) z → Has z 10 → ⊥) e whole_more;
          begins = with_line ∙ ap (λ l. fed (c.lines ++ l ∷ [])) e ∙ sym (append-nil (fed (with_end c.lines)));
        };
        first = c.none;
      });
    }

-- bytes that are no line feed belong to the line that has begun
pub cut_over : (input : List ℕ) (start n : ℕ) → start + n ≤ length input
    → ((k : ℕ) → k < n → get_or (drop start input) k 0 ≡ 10 → ⊥) → IsCutSo input start start
    → IsCutSo input start (start + n)
cut_over input start zero within free c = subst (IsCutSo input start) (omega arith) c
cut_over input start (suc n) within free c =
    let before = cut_over input start n (omega (arith, within)) (λ k h. free k (omega (arith, h))) c in
    let here : get_or (drop start input) n 0 ≡ get_or input (start + n) 0 = get_or-drop start input n 0 in
    subst (IsCutSo input start) (omega arith)
    (cut_on input start (start + n) (omega (arith, within)) (λ e. free n (omega arith) (here ∙ e)) before)

-- a byte that was sought, and was not found before
pub passed_over : (bytes : List ℕ) (k : ℕ) → ((is_byte 10 (get_or bytes k 0) ≡ true) → ⊥) → get_or bytes k 0 ≡ 10 → ⊥
passed_over bytes k none e = none (ap (is_byte 10) e)

-- no line was `end`
pub cut_none : (input : List ℕ) (start at n : ℕ) → n ≡ length input → n ≤ at → at ≤ n → IsCutSo input start at
    → IsSplit input (take n input) (drop n input)
cut_none input start at n is past within c = record {
  joined = sym (take-append-drop n input);
  cut = inr (
    λ h.
        let all : slice_range input start at ≡ drop start input =
        take_all (at - start) (drop start input) (omega (arith, length-drop start input, is, past, c.order)) in
        no_end c.lines (drop start input) c.whole c.none (subst (λ l. Has l 10 → ⊥) all c.feedless) h.lines h.rest
        h.begins.whole
        (ap (λ l. l ++ drop start input) (sym c.before) ∙ take-append-drop start input ∙ h.begins.begins),
    drop_of_length-le input (omega (arith, is)),
  );
}

-- lines that end in their first line `end` are told from what follows
ended_once : (lines others : List (List ℕ)) (x y : List ℕ)
    → ((line : List ℕ) → Has (with_end lines) line → Has line 10 → ⊥)
    → ((line : List ℕ) → Has (with_end others) line → Has line 10 → ⊥)
    → (Has lines (codes "end") → ⊥) → (Has others (codes "end") → ⊥) → fed (with_end lines) ++ x ≡ fed (with_end others)
    ++ y → (fed (with_end lines) ≡ fed (with_end others)) × (x ≡ y)
ended_once [] [] x y whole whole' none none' e = (refl, cc)
ended_once [] (m ∷ others) x y whole whole' none none' e =
    let cut = line_once (codes "end") m x (fed (with_end others) ++ y) (whole (codes "end") (inl refl))
    (whole' m (inl refl)) (e ∙ append_assoc m (10 ∷ fed (with_end others)) y) in
    absurd (none' (inl (sym cut.0)))
ended_once (l ∷ lines) [] x y whole whole' none none' e =
    let cut = line_once l (codes "end") (fed (with_end lines) ++ x) y (whole l (inl refl))
    (whole' (codes "end") (inl refl)) (sym (append_assoc l (10 ∷ fed (with_end lines)) x) ∙ e) in
    absurd (none (inl cut.0))
ended_once (l ∷ lines) (m ∷ others) x y whole whole' none none' e =
    let cut = line_once l m (fed (with_end lines) ++ x) (fed (with_end others) ++ y) (whole l (inl refl))
    (whole' m (inl refl))
    (sym (append_assoc l (10 ∷ fed (with_end lines)) x) ∙ e ∙ append_assoc m (10 ∷ fed (with_end others)) y) in
    let rest = ended_once lines others x y (λ z h. whole z (inr h)) (λ z h. whole' z (inr h)) (λ h. none (inr h))
    (λ h. none' (inr h)) cut.1 in
    (ap (λ z. z ++ 10 ∷ fed (with_end lines)) cut.0 ∙ ap (λ z. m ++ 10 ∷ z) rest.0, rest.1)

-- what begins with a text that ends in its first line `end` has such a line
has_end : (input cert source : List ℕ) → input ≡ cert ++ source → EndsOnce cert → HasEnd input
has_end input cert source joined e = record {
  lines = e.lines;
  rest = source;
  begins = record {
    whole = e.all.whole;
    begins = joined ∙ ap (λ c. c ++ source) (e.all.begins ∙ append-nil (fed (with_end e.lines)));
  };
}

-- an input is split in one way
pub split_once : (input cert source other rest : List ℕ) → IsSplit input cert source → IsSplit input other rest
    → (cert ≡ other) × (source ≡ rest)
split_once input cert source other rest a b = elim a.cut [
  | inl p ↦ elim b.cut [
    | inl q ↦
        let mine : cert ≡ fed (with_end p.lines) = p.all.begins ∙ append-nil (fed (with_end p.lines)) in
        let its : other ≡ fed (with_end q.lines) = q.all.begins ∙ append-nil (fed (with_end q.lines)) in
        let one = ended_once p.lines q.lines source rest p.all.whole q.all.whole p.first q.first
        (ap (λ c. c ++ source) (sym mine) ∙ sym a.joined ∙ b.joined ∙ ap (λ c. c ++ rest) its) in
        (mine ∙ one.0 ∙ sym its, one.1)
    | inr q ↦ absurd (q.0 (has_end input cert source a.joined p))
  ]
  | inr p ↦ elim b.cut [
    | inl q ↦ absurd (p.0 (has_end input other rest b.joined q))
    | inr q ↦
        let mine : input ≡ cert = a.joined ∙ ap (λ s. cert ++ s) p.1 ∙ append-nil cert in
        let its : input ≡ other = b.joined ∙ ap (λ s. other ++ s) q.1 ∙ append-nil other in
        (sym mine ∙ its, p.1 ∙ sym q.1)
  ]
]

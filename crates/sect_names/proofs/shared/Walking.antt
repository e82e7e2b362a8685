-- Walks through texts: they are the traces without numbers, and go on step by step.
use Rattle.std.proofs.Common.{◌≡◌, ◌↔◌, ◌⊎◌, ℕ, zero, suc, ◌+◌, List, [], ◌∷◌, ◌++◌, append_assoc, Some, refl, sym, ap}
use Rattle.std.proofs.Common.{◌∙◌, subst, inl, inr}
use Rattle.std.specs.Prelude.{slice_get}
use Rattle.sect_lemmas.specs.Lists.{Has}
use Rattle.sect_lemmas.proofs.Membership.{Has-cases, Has-left, Has-right, Has-slice_get}
use Rattle.sect_types.specs.Statements.{TextView, Stop, Do, Choose, Loop, Section, joined}
use Rattle.sect_types.specs.{Sections.{SectionView, sections_of}, Traces.{Visit, visit, Rounds, IsTrace, node_count}}
use Rattle.sect_types.specs.{declared.expansion.action.Action.{Action}, declared.expansion.action.Condition.{Condition}}
use Rattle.sect_types.specs.declared.expansion.action.Label.{Label}
use Rattle.sect_types.specs.declared.expansion.action.Label.TheVariants.{Act, Test, Section as WholeSection}
use Rattle.sect_points.specs.Flow.{actions_of}
use Rattle.sect_names.specs.{declared.lock.Lock.{Lock}, Schemes.{SchemeView, IsScheme}, Needed.{IsNeeded}}
use Rattle.sect_names.specs.{Laws.{IsProgramStep}, Walks.{labels_of, Turns, IsWalk, Leads, StandsInThread}}
use Rattle.sect_names.specs.Along.{NeededBefore, NeededAlong, NeededIn, AreProgramSteps, ReadsBeginnings}
use Rattle.sect_names.proofs.shared.{SectionSteps.{section_placed}, Beginning.{reads_along}}
use Rattle.sect_names.proofs.Splitting.{split_along}

labels_append : (xs ys : List Visit) → labels_of (xs ++ ys) ≡ labels_of xs ++ labels_of ys
labels_append [] ys = refl
labels_append (x ∷ xs) ys = ap (λ z. x.label ∷ z) (labels_append xs ys)

-- a trace is a walk
rounds_turns : (n : ℕ) (t : Condition) (IsRound : List Visit → Type 0) (IsTurn : List Label → Type 0)
    → ((steps : List Visit) → IsRound steps → IsTurn (labels_of steps))
    → (rounds : ℕ) (steps : List Visit) → Rounds n t IsRound rounds steps → Turns t IsTurn rounds (labels_of steps)
rounds_turns n t IsRound IsTurn each zero steps is = ap labels_of is
rounds_turns n t IsRound IsTurn each (suc rounds) steps (round, tail, is, one, more) = (
  labels_of round,
  labels_of tail,
  ap labels_of is ∙ ap (λ z. Test t ∷ z) (labels_append round tail),
  each round one,
  rounds_turns n t IsRound IsTurn each rounds tail more,
)

-- a trace is a walk
pub trace_walk : (text : TextView) (n : ℕ) (steps : List Visit) → IsTrace text n steps → IsWalk text (labels_of steps)
trace_walk Stop n steps is = ap labels_of is
trace_walk (Do a r) n steps (tail, is, rest) = (labels_of tail, ap labels_of is, trace_walk r (n + 1) tail rest)
trace_walk (Choose t p q r) n steps (side, tail, is, through, rest) = (
  labels_of side,
  labels_of tail,
  ap labels_of is ∙ ap (λ z. Test t ∷ z) (labels_append side tail),
  elim through [ inl k ↦ inl (trace_walk p (n + 1) side k) | inr k ↦ inr (trace_walk q (n + 1 + node_count p) side k) ],
  trace_walk r (n + 1 + node_count p + node_count q) tail rest,
)
trace_walk (Loop t p r) n steps (rounds, front, tail, is, around, rest) = (
  rounds,
  labels_of front,
  labels_of tail,
  ap labels_of is ∙ labels_append front tail,
  rounds_turns n t (IsTrace p (n + 1)) (IsWalk p) (λ z k. trace_walk p (n + 1) z k) rounds front around,
  trace_walk r (n + 1 + node_count p) tail rest,
)
trace_walk (Section i p r) n steps (tail, is, rest) = (labels_of tail, ap labels_of is, trace_walk r (n + 1) tail rest)

-- and a walk a trace
abbrev Counted : (List Visit → Type 0) → List Label → Type 0
Counted IsTraced ls = (steps : List Visit) × IsTraced steps × (labels_of steps ≡ ls)

turns_rounds : (n : ℕ) (t : Condition) (IsRound : List Visit → Type 0) (IsTurn : List Label → Type 0)
    → ((ls : List Label) → IsTurn ls → Counted IsRound ls)
    → (rounds : ℕ) (ls : List Label) → Turns t IsTurn rounds ls → Counted (Rounds n t IsRound rounds) ls
turns_rounds n t IsRound IsTurn each zero ls is = (visit n (Test t) ∷ [], refl, sym is)
turns_rounds n t IsRound IsTurn each (suc rounds) ls (turn, tail, is, one, more) =
    let a = each turn one in
    let b = turns_rounds n t IsRound IsTurn each rounds tail more in (
      visit n (Test t) ∷ (a.0 ++ b.0),
      (a.0, b.0, refl, a.1, b.1),
      ap (λ z. Test t ∷ z) (labels_append a.0 b.0 ∙ ap (λ z. z ++ labels_of b.0) a.2 ∙ ap (λ z. turn ++ z) b.2)
          ∙ sym is,
    )

-- a walk is a trace, with some numbers
pub walk_trace : (text : TextView) (n : ℕ) (ls : List Label) → IsWalk text ls → Counted (IsTrace text n) ls
walk_trace Stop n ls is = ([], refl, sym is)
walk_trace (Do a r) n ls (tail, is, rest) = let k = walk_trace r (n + 1) tail rest in
    (visit n (Act a) ∷ k.0, (k.0, refl, k.1), ap (λ z. Act a ∷ z) k.2 ∙ sym is)
walk_trace (Choose t p q r) n ls (side, tail, is, through, rest) =
    let b = walk_trace r (n + 1 + node_count p + node_count q) tail rest in
    elim through [
      | inl k ↦ by b (let a = walk_trace p (n + 1) side k in (a.0, inl a.1, a.2))
      | inr k ↦ by b (let a = walk_trace q (n + 1 + node_count p) side k in (a.0, inr a.1, a.2))
    ]
  where
    by : Counted (IsTrace r (n + 1 + node_count p + node_count q)) tail
        → Counted (λ z. IsTrace p (n + 1) z ⊎ IsTrace q (n + 1 + node_count p) z) side
        → Counted (IsTrace (Choose t p q r) n) ls
    by b a = (
      visit n (Test t) ∷ (a.0 ++ b.0),
      (a.0, b.0, refl, a.1, b.1),
      ap (λ z. Test t ∷ z) (labels_append a.0 b.0 ∙ ap (λ z. z ++ labels_of b.0) a.2 ∙ ap (λ z. side ++ z) b.2)
          ∙ sym is,
    )
walk_trace (Loop t p r) n ls (rounds, front, tail, is, around, rest) =
    let a = turns_rounds n t (IsTrace p (n + 1)) (IsWalk p) (λ z k. walk_trace p (n + 1) z k) rounds front around in
    let b = walk_trace r (n + 1 + node_count p) tail rest in (
      a.0 ++ b.0,
      (rounds, a.0, b.0, refl, a.1, b.1),
      labels_append a.0 b.0 ∙ ap (λ z. z ++ labels_of b.0) a.2
          ∙ ap (λ z. front ++ z) b.2 ∙ sym is,
    )
walk_trace (Section i p r) n ls (tail, is, rest) = let k = walk_trace r (n + 1) tail rest in
    (visit n (WholeSection i) ∷ k.0, (k.0, refl, k.1), ap (λ z. WholeSection i ∷ z) k.2 ∙ sym is)

-- each text has a walk
pub some_walk : (text : TextView) → (ls : List Label) × IsWalk text ls
some_walk Stop = ([], refl)
some_walk (Do a r) = let k = some_walk r in (Act a ∷ k.0, (k.0, refl, k.1))
some_walk (Choose t p q r) = let j = some_walk p in let k = some_walk r in
    (Test t ∷ (j.0 ++ k.0), (j.0, k.0, refl, inl j.1, k.1))
some_walk (Loop t p r) = let k = some_walk r in ((Test t ∷ []) ++ k.0, (zero, Test t ∷ [], k.0, refl, refl, k.1))
some_walk (Section i p r) = let k = some_walk r in (WholeSection i ∷ k.0, (k.0, refl, k.1))

-- one text behind another
abbrev Parts : TextView → TextView → List Label → Type 0
Parts p k ls = (xs : List Label) × (ys : List Label) × (ls ≡ xs ++ ys) × IsWalk p xs × IsWalk k ys

joined_walk : (p k : TextView) (ls : List Label) → IsWalk (joined p k) ls → Parts p k ls
joined_walk Stop k ls h = ([], ls, refl, refl, h)
joined_walk (Do a r) k ls (tail, is, rest) = let w = joined_walk r k tail rest in
    (Act a ∷ w.0, w.1, is ∙ ap (λ z. Act a ∷ z) w.2, (w.0, refl, w.3), w.4)
joined_walk (Choose t p q r) k ls (side, tail, is, through, rest) =
    let w = joined_walk r k tail rest in (
      Test t ∷ (side ++ w.0),
      w.1,
      is ∙ ap (λ z. Test t ∷ z) (ap (λ z. side ++ z) w.2 ∙ sym (append_assoc side w.0 w.1)),
      (side, w.0, refl, through, w.3),
      w.4,
    )
joined_walk (Loop t p r) k ls (n, front, tail, is, around, rest) =
    let w = joined_walk r k tail rest in (
      front ++ w.0,
      w.1,
      is ∙ ap (λ z. front ++ z) w.2 ∙ sym (append_assoc front w.0 w.1),
      (n, front, w.0, refl, around, w.3),
      w.4,
    )
joined_walk (Section i p r) k ls (tail, is, rest) = let w = joined_walk r k tail rest in
    (WholeSection i ∷ w.0, w.1, is ∙ ap (λ z. WholeSection i ∷ z) w.2, (w.0, refl, w.3), w.4)

walk_joined : (p k : TextView) (xs ys : List Label) → IsWalk p xs → IsWalk k ys → IsWalk (joined p k) (xs ++ ys)
walk_joined Stop k xs ys is h = subst (λ z. IsWalk k (z ++ ys)) (sym is) h
walk_joined (Do a r) k xs ys (tail, is, rest) h = (tail ++ ys, ap (λ z. z ++ ys) is, walk_joined r k tail ys rest h)
walk_joined (Choose t p q r) k xs ys (side, tail, is, through, rest) h = (
  side,
  tail ++ ys,
  ap (λ z. z ++ ys) is ∙ ap (λ z. Test t ∷ z) (append_assoc side tail ys),
  through,
  walk_joined r k tail ys rest h,
)
walk_joined (Loop t p r) k xs ys (n, front, tail, is, around, rest) h =
    (n, front, tail ++ ys, ap (λ z. z ++ ys) is ∙ append_assoc front tail ys, around, walk_joined r k tail ys rest h)
walk_joined (Section i p r) k xs ys (tail, is, rest) h =
    (tail ++ ys, ap (λ z. z ++ ys) is, walk_joined r k tail ys rest h)

-- a walk through what is left after a step is one through the text, with the step in front
pub leads_walk : (k : TextView) (l : Label) (k' : TextView) (ls : List Label) → Leads k l k' → IsWalk k' ls
    → IsWalk k (l ∷ ls)
leads_walk Stop l k' ls leads w = absurd leads
leads_walk (Do a r) l k' ls (is, then) w = (ls, ap (λ z. z ∷ ls) is, subst (λ z. IsWalk z ls) then w)
leads_walk (Choose t p q r) l k' ls (is, then) w = elim then [
  | inl e ↦ (let j = joined_walk p r ls (subst (λ z. IsWalk z ls) e w) in
      (j.0, j.1, ap (λ z. z ∷ ls) is ∙ ap (λ z. Test t ∷ z) j.2, inl j.3, j.4))
  | inr e ↦ (let j = joined_walk q r ls (subst (λ z. IsWalk z ls) e w) in
      (j.0, j.1, ap (λ z. z ∷ ls) is ∙ ap (λ z. Test t ∷ z) j.2, inr j.3, j.4))
]
leads_walk (Loop t p r) l k' ls (is, then) w = elim then [
  | inl e ↦ around (joined_walk p (Loop t p r) ls (subst (λ z. IsWalk z ls) e w))
  | inr e ↦ (zero, Test t ∷ [], ls, ap (λ z. z ∷ ls) is, refl, subst (λ z. IsWalk z ls) e w)
]
  where
    around : Parts p (Loop t p r) ls → IsWalk (Loop t p r) (l ∷ ls)
    around (xs, ys, e, one, (n, front, tail, f, others, rest)) = (
      suc n,
      Test t ∷ (xs ++ front),
      tail,
      ap (λ z. z ∷ ls) is ∙ ap (λ z. Test t ∷ z) (e ∙ ap (λ z. xs ++ z) f ∙ sym (append_assoc xs front tail)),
      (xs, front, refl, one, others),
      rest,
    )
leads_walk (Section i p r) l k' ls (is, then) w = (ls, ap (λ z. z ∷ ls) is, subst (λ z. IsWalk z ls) then w)

-- and each walk through a text begins with such a step
abbrev pub StepsOn : TextView → List Label → Type 0
StepsOn k ls = (l : Label) × (k' : TextView) × (tail : List Label) × Leads k l k' × (ls ≡ l ∷ tail) × IsWalk k' tail

-- a walk is at its end, or begins with a step and goes on
pub walk_leads : (k : TextView) (ls : List Label) → IsWalk k ls → ((k ≡ Stop) × (ls ≡ [])) ⊎ StepsOn k ls
walk_leads Stop ls is = inl (refl, is)
walk_leads (Do a r) ls (tail, is, rest) = inr (Act a, r, tail, (refl, refl), is, rest)
walk_leads (Choose t p q r) ls (side, tail, is, through, rest) = elim through [
  | inl w ↦ inr (Test t, joined p r, side ++ tail, (refl, inl refl), is, walk_joined p r side tail w rest)
  | inr w ↦ inr (Test t, joined q r, side ++ tail, (refl, inr refl), is, walk_joined q r side tail w rest)
]
walk_leads (Loop t p r) ls (zero, front, tail, is, around, rest) =
    inr (Test t, r, tail, (refl, inr refl), is ∙ ap (λ z. z ++ tail) around, rest)
walk_leads (Loop t p r) ls (suc n, front, tail, is, (turn, more, e, one, others), rest) =
    inr (
      Test t,
      joined p (Loop t p r),
      turn ++ (more ++ tail),
      (refl, inl refl),
      is ∙ ap (λ z. z ++ tail) e ∙ ap (λ z. Test t ∷ z) (append_assoc turn more tail),
      walk_joined p (Loop t p r) turn (more ++ tail) one (n, more, tail, refl, others, rest),
    )
walk_leads (Section i p r) ls (tail, is, rest) = inr (WholeSection i, r, tail, (refl, refl), is, rest)

-- needed before a text: at its end what is needed there, else before its first step
module _ (s : SchemeView) (t : ℕ) (last : List Lock) where
  -- needed at the end, or before the first step
  abbrev pub NeededFirst : TextView → Lock → Type 0
  NeededFirst k l = ((k ≡ Stop) × Has last l)
      ⊎ ((step : Label) × (k' : TextView) × Leads k step k' × NeededBefore s t step (NeededIn s t last k') l)

  first_needed : (k : TextView) (l : Lock) → NeededIn s t last k l → NeededFirst k l
  first_needed k l (ls, walk, needed) = elim (walk_leads k ls walk) [
    | inl (stop, is) ↦ inl (stop, subst (λ z. NeededAlong s t last z l) is needed)
    | inr (step, k', tail, leads, is, rest) ↦
        inr (step, k', leads, by step k' tail rest (subst (λ z. NeededAlong s t last z l) is needed))
  ]
    where
      by : (step : Label) (k' : TextView) (tail : List Label) → IsWalk k' tail
          → NeededBefore s t step (NeededAlong s t last tail) l → NeededBefore s t step (NeededIn s t last k') l
      by step k' tail rest (inl own) = inl own
      by step k' tail rest (inr (m, needs, back)) = inr (m, (tail, rest, needs), back)

  needed_first : (k : TextView) (l : Lock) → NeededFirst k l → NeededIn s t last k l
  needed_first k l (inl (stop, has)) = ([], subst (λ z. IsWalk z []) (sym stop) refl, has)
  needed_first k l (inr (step, k', leads, before)) = elim before [
    | inl own ↦ (let w = some_walk k' in (step ∷ w.0, leads_walk k step k' w.0 leads w.1, inl own))
    | inr (m, (ls, walk, needs), back) ↦ (step ∷ ls, leads_walk k step k' ls leads walk, inr (m, needs, back))
  ]

  -- what a text needs, it needs at its end or before its first step
  pub needed_step : (k : TextView) (l : Lock) → NeededIn s t last k l ↔ NeededFirst k l
  needed_step k l = (first_needed k l, needed_first k l)

-- needed along a trace of the text
pub needed_walk : (s : SchemeView) (t : ℕ) (last : List Lock) (text : TextView) (l : Lock)
    → IsNeeded s t last text l ↔ NeededIn s t last text l
needed_walk s t last text l = (
  λ (steps, trace, needed). (labels_of steps, trace_walk text 0 steps trace, (split_along s t last steps l).0 needed),
  λ (ls, walk, needed). (let w = walk_trace text 0 ls walk in
      (w.0, w.1, (split_along s t last w.0 l).1 (subst (λ z. NeededAlong s t last z l) (sym w.2) needed))),
)

-- the steps along walks are the program's
actions_joined : (p k : TextView) (a : Action) → Has (actions_of (joined p k)) a
    → Has (actions_of p) a ⊎ Has (actions_of k) a
actions_joined Stop k a h = inr h
actions_joined (Do b r) k a h = elim h [
  | inl e ↦ inl (inl e)
  | inr j ↦ elim (actions_joined r k a j) [ inl j ↦ inl (inr j) | inr j ↦ inr j ]
]
actions_joined (Choose t p q r) k a h = elim (Has-cases (actions_of p) (actions_of q ++ actions_of (joined r k)) a h) [
  | inl j ↦ inl (Has-left (actions_of p) (actions_of q ++ actions_of r) a j)
  | inr j ↦ elim (Has-cases (actions_of q) (actions_of (joined r k)) a j) [
    | inl j ↦ inl (Has-right (actions_of p) (actions_of q ++ actions_of r) a
        (Has-left (actions_of q) (actions_of r) a j))
    | inr j ↦ elim (actions_joined r k a j) [
      | inl j ↦ inl (Has-right (actions_of p) (actions_of q ++ actions_of r) a
          (Has-right (actions_of q) (actions_of r) a j))
      | inr j ↦ inr j
    ]
  ]
]
actions_joined (Loop t p r) k a h = elim (Has-cases (actions_of p) (actions_of (joined r k)) a h) [
  | inl j ↦ inl (Has-left (actions_of p) (actions_of r) a j)
  | inr j ↦ elim (actions_joined r k a j) [ inl j ↦ inl (Has-right (actions_of p) (actions_of r) a j) | inr j ↦ inr j ]
]
actions_joined (Section i p r) k a h = elim (Has-cases (actions_of p) (actions_of (joined r k)) a h) [
  | inl j ↦ inl (Has-left (actions_of p) (actions_of r) a j)
  | inr j ↦ elim (actions_joined r k a j) [ inl j ↦ inl (Has-right (actions_of p) (actions_of r) a j) | inr j ↦ inr j ]
]

module _ (s : SchemeView) (t : ℕ) where
  stands_joined : (p k : TextView) → StandsInThread s t p → StandsInThread s t k → StandsInThread s t (joined p k)
  stands_joined p k hp hk a h = elim (actions_joined p k a h) [ inl j ↦ hp a j | inr j ↦ hk a j ]

  -- a step of a text is the program's, and so is what is left
  pub leads_stands : (k : TextView) (l : Label) (k' : TextView) → Leads k l k' → StandsInThread s t k
      → IsProgramStep s t l × StandsInThread s t k'
  leads_stands Stop l k' leads stands = absurd leads
  leads_stands (Do a r) l k' (is, then) stands = (
    subst (IsProgramStep s t) (sym is) (stands a (inl refl)),
    subst (StandsInThread s t) (sym then) (λ b h. stands b (inr h)),
  )
  leads_stands (Choose c p q r) l k' (is, then) stands =
      let rest : StandsInThread s t r =
      λ a h. stands a (Has-right (actions_of p) (actions_of q ++ actions_of r) a
      (Has-right (actions_of q) (actions_of r) a h)) in (
        subst (IsProgramStep s t) (sym is) tt,
        elim then [
          | inl e ↦ subst (StandsInThread s t) (sym e)
              (stands_joined p r (λ a h. stands a (Has-left (actions_of p) (actions_of q ++ actions_of r) a h)) rest)
          | inr e ↦ subst (StandsInThread s t) (sym e)
              (stands_joined q r (λ a h. stands a
              (Has-right (actions_of p) (actions_of q ++ actions_of r) a (Has-left (actions_of q) (actions_of r) a h)))
              rest)
        ],
      )
  leads_stands (Loop c p r) l k' (is, then) stands = (
    subst (IsProgramStep s t) (sym is) tt,
    elim then [
      | inl e ↦ subst (StandsInThread s t) (sym e)
          (stands_joined p (Loop c p r) (λ a h. stands a (Has-left (actions_of p) (actions_of r) a h)) stands)
      | inr e ↦ subst (StandsInThread s t) (sym e) (λ a h. stands a (Has-right (actions_of p) (actions_of r) a h))
    ],
  )
  leads_stands (Section i p r) l k' (is, then) stands = (
    subst (IsProgramStep s t) (sym is) tt,
    subst (StandsInThread s t) (sym then) (λ a h. stands a (Has-right (actions_of p) (actions_of r) a h)),
  )

  -- the steps of a walk through the thread's text are the program's
  pub walk_stands : (ls : List Label) (k : TextView) → StandsInThread s t k → IsWalk k ls → AreProgramSteps s t ls
  walk_stands [] k stands walk = tt
  walk_stands (l ∷ ls) k stands walk = elim (walk_leads k (l ∷ ls) walk) [
    | inl (stop, is) ↦ absurd cc
    | inr (step, k', tail, leads, is, rest) ↦
        let next = leads_stands k step k' leads stands in
        let same : step ≡ l = cc in
        let others : tail ≡ ls = cc in
        (subst (IsProgramStep s t) same next.0, walk_stands ls k' next.1 (subst (IsWalk k') others rest))
  ]

-- where a text needs a path, it needs to read its beginnings
pub reads_in : (s : SchemeView) → IsScheme s → (t : ℕ) (last : List Lock) → ReadsBeginnings s (Has last)
    → (k : TextView) → StandsInThread s t k → ReadsBeginnings s (NeededIn s t last k)
reads_in s scheme t last ends k stands p q f e (ls, walk, needed) goes =
    let m = reads_along s scheme t last ends ls (walk_stands s t ls k stands walk) p q f e needed goes in
    (m.0, (ls, walk, m.1), m.2)

-- the statements of a section are its thread's
pub section_stands : (s : SchemeView) (i : ℕ) (section : SectionView)
    → slice_get (sections_of s.program.texts) i ≡ Some section → StandsInThread s section.thread section.body
section_stands s i section at a h =
    section_placed 0 s.program.texts section (Has-slice_get (sections_of s.program.texts) i section at) a h

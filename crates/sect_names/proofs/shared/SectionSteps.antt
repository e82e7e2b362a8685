-- The steps of a section are the program's, and sound.
use Rattle.std.proofs.Common.{◌≡◌, ℕ, zero, suc, ◌+◌, List, [], ◌∷◌, ◌++◌, map, length, Some, refl, sym, ◌∙◌, subst}
use Rattle.std.proofs.{Common.{inl, inr, arith}, lemmas.Option.{slice_get_within}}
use Rattle.std.specs.Prelude.{⊤, slice_get}
use Rattle.sect_lemmas.specs.Lists.{Has}
use Rattle.sect_types.specs.Statements.{TextView, Stop, Do, Choose, Loop, Section, section_bodies}
use Rattle.sect_types.specs.Sections.{SectionView, sections_from, sections_of}
use Rattle.sect_types.specs.Traces.{Visit, visit, Rounds, IsTrace, node_count}
use Rattle.sect_types.specs.{declared.expansion.action.Action.{Action}, declared.expansion.action.Condition.{Condition}}
use Rattle.sect_types.specs.declared.expansion.action.Label.{Label}
use Rattle.sect_lemmas.proofs.{Membership.{Has-cases, Has-left, Has-right, Has-slice_get, Has-unmap}, Listing.{Has-map}}
use Rattle.sect_graph.specs.{declared.flow.Node.{Node}, Paths.{IsPath}, Graphs.{IsGraphOf}}
use Rattle.sect_graph.proofs.shared.Paths.{path_join}
use Rattle.sect_points.specs.{Flow.{actions_of}, Statements.{thread_action, actions_from}}
use Rattle.sect_names.specs.{Schemes.{SchemeView, IsScheme}, Laws.{IsProgramStep, StandsIn}}
use Rattle.sect_types.specs.declared.expansion.action.Label.TheVariants as label

-- a statement that the visit does is one of these
abbrev pub IsAmong : List Action → Label → Type 0
IsAmong list (label.Act a) = Has list a
IsAmong list (label.Test c) = ⊤
IsAmong list (label.Section i) = ⊤

among_left : (xs ys : List Action) (l : Label) → IsAmong xs l → IsAmong (xs ++ ys) l
among_left xs ys (label.Act a) h = Has-left xs ys a h
among_left xs ys (label.Test c) h = tt
among_left xs ys (label.Section i) h = tt

among_right : (xs ys : List Action) (l : Label) → IsAmong ys l → IsAmong (xs ++ ys) l
among_right xs ys (label.Act a) h = Has-right xs ys a h
among_right xs ys (label.Test c) h = tt
among_right xs ys (label.Section i) h = tt

-- each visit does one of these
abbrev AreAmong : List Action → List Visit → Type 0
AreAmong list steps = (s : Visit) → Has steps s → IsAmong list s.label

joined_among : (list : List Action) (xs ys : List Visit) → AreAmong list xs → AreAmong list ys
    → AreAmong list (xs ++ ys)
joined_among list xs ys a b s h = elim (Has-cases xs ys s h) [ inl k ↦ a s k | inr k ↦ b s k ]

next_among : (list : List Action) (n : ℕ) (l : Label) (steps : List Visit) → IsAmong list l → AreAmong list steps
    → AreAmong list (visit n l ∷ steps)
next_among list n l steps a b s h = elim h [ inl e ↦ subst (λ (x : Visit). IsAmong list x.label) e a | inr k ↦ b s k ]

rounds_among : (list : List Action) (n : ℕ) (t : Condition) (IsRound : List Visit → Type 0)
    → ((steps : List Visit) → IsRound steps → AreAmong list steps)
    → (rounds : ℕ) (steps : List Visit) → Rounds n t IsRound rounds steps → AreAmong list steps
rounds_among list n t IsRound body zero steps is =
    subst (AreAmong list) (sym is) (next_among list n (label.Test t) [] tt (λ s h. absurd h))
rounds_among list n t IsRound body (suc rounds) steps (round, tail, is, one, more) =
    subst (AreAmong list) (sym is)
    (next_among list n (label.Test t) (round ++ tail) tt
    (joined_among list round tail (body round one) (rounds_among list n t IsRound body rounds tail more)))

-- the steps of a trace do statements of the text
trace_among : (text : TextView) (n : ℕ) (steps : List Visit) → IsTrace text n steps → AreAmong (actions_of text) steps
trace_among Stop n steps is = subst (AreAmong []) (sym is) (λ s h. absurd h)
trace_among (Do a r) n steps (tail, is, rest) =
    let more : AreAmong (a ∷ actions_of r) tail =
    λ s h. among_right (a ∷ []) (actions_of r) s.label (trace_among r (n + 1) tail rest s h) in
    subst (AreAmong (a ∷ actions_of r)) (sym is) (next_among (a ∷ actions_of r) n (label.Act a) tail (inl refl) more)
trace_among (Choose t p q r) n steps (side, tail, is, through, rest) =
    let list = actions_of p ++ (actions_of q ++ actions_of r) in
    let first : AreAmong list side = λ s h. elim through [
      | inl k ↦ among_left (actions_of p) (actions_of q ++ actions_of r) s.label (trace_among p (n + 1) side k s h)
      | inr k ↦ among_right (actions_of p) (actions_of q ++ actions_of r) s.label
          (among_left (actions_of q) (actions_of r) s.label (trace_among q (n + 1 + node_count p) side k s h))
    ] in
    let more : AreAmong list tail = λ s h.
    among_right (actions_of p) (actions_of q ++ actions_of r) s.label
    (among_right (actions_of q) (actions_of r) s.label
    (trace_among r (n + 1 + node_count p + node_count q) tail rest s h)) in
    subst (AreAmong list) (sym is)
    (next_among list n (label.Test t) (side ++ tail) tt (joined_among list side tail first more))
trace_among (Loop t p r) n steps (rounds, front, tail, is, around, rest) =
    let list = actions_of p ++ actions_of r in
    let body : (round : List Visit) → IsTrace p (n + 1) round → AreAmong list round = λ round k s h.
    among_left (actions_of p) (actions_of r) s.label (trace_among p (n + 1) round k s h) in
    let more : AreAmong list tail =
    λ s h. among_right (actions_of p) (actions_of r) s.label (trace_among r (n + 1 + node_count p) tail rest s h) in
    subst (AreAmong list) (sym is)
    (joined_among list front tail (rounds_among list n t (IsTrace p (n + 1)) body rounds front around) more)
trace_among (Section i p r) n steps (tail, is, rest) =
    let list = actions_of p ++ actions_of r in
    let more : AreAmong list tail =
    λ s h. among_right (actions_of p) (actions_of r) s.label (trace_among r (n + 1) tail rest s h) in
    subst (AreAmong list) (sym is) (next_among list n (label.Section i) tail tt more)

-- each node of a graph does a statement of the text, since some path from the entry to the exit goes through it
pub node_among : (text : TextView) (g : List Node) → IsGraphOf text g → (j : ℕ) (x : Node) → slice_get g j ≡ Some x
    → IsAmong (actions_of text) x.label
node_among text g graph j x at =
    let within = slice_get_within g j x at in
    let there = graph.connected.reached j within in
    let on = graph.connected.exits j within in
    by there.0 on.0 there.1 on.1
  where
    by : (before rest : List Visit) → IsPath g 0 before j → IsPath g j rest (length g)
        → IsAmong (actions_of text) x.label
    by before [] p q = absurd (omega (arith, q, slice_get_within g j x at))
    by before (s ∷ rest) p q =
        let trace = (graph.paths (before ++ s ∷ rest)).0 (path_join g before (s ∷ rest) 0 j (length g) p q) in
        let among = trace_among text 0 (before ++ s ∷ rest) trace s (Has-right before (s ∷ rest) s (inl refl)) in
        let same : q.0 ≡ x = let e : Some q.0 ≡ Some x = sym q.1 ∙ at in cc in
        subst (λ (y : Node). IsAmong (actions_of text) y.label) same
        (subst (λ (z : Visit). IsAmong (actions_of text) z.label) q.2 among)

-- the statements of a section stand in its text
body_actions : (text body : TextView) → Has (section_bodies text) body → (a : Action) → Has (actions_of body) a
    → Has (actions_of text) a
body_actions Stop body h a k = absurd h
body_actions (Do b r) body h a k = inr (body_actions r body h a k)
body_actions (Choose t p q r) body h a k =
    elim (Has-cases (section_bodies p) (section_bodies q ++ section_bodies r) body h) [
      | inl h ↦ Has-left (actions_of p) (actions_of q ++ actions_of r) a (body_actions p body h a k)
      | inr h ↦ Has-right (actions_of p) (actions_of q ++ actions_of r) a
          (elim (Has-cases (section_bodies q) (section_bodies r) body h) [
            | inl h ↦ Has-left (actions_of q) (actions_of r) a (body_actions q body h a k)
            | inr h ↦ Has-right (actions_of q) (actions_of r) a (body_actions r body h a k)
          ])
    ]
body_actions (Loop t p r) body h a k = elim (Has-cases (section_bodies p) (section_bodies r) body h) [
  | inl h ↦ Has-left (actions_of p) (actions_of r) a (body_actions p body h a k)
  | inr h ↦ Has-right (actions_of p) (actions_of r) a (body_actions r body h a k)
]
body_actions (Section i p r) body h a k = elim h [
  | inl is ↦ Has-left (actions_of p) (actions_of r) a (subst (λ x. Has (actions_of x) a) (sym is) k)
  | inr h ↦ Has-right (actions_of p) (actions_of r) a (body_actions r body h a k)
]

-- those of a program's section are the program's
abbrev section_with : ℕ → TextView → SectionView
section_with t body = record { thread = t; body = body }

pub section_placed : (t : ℕ) (texts : List TextView) (section : SectionView) → Has (sections_from t texts) section
    → (a : Action) → Has (actions_of section.body) a
    → Has (actions_from t texts) (thread_action section.thread a)
section_placed t [] section h a k = absurd h
section_placed t (text ∷ texts) section h a k =
    elim (Has-cases (map (section_with t) (section_bodies text)) (sections_from (t + 1) texts) section h) [
      | inl h ↦
          let from = Has-unmap (section_with t) (section_bodies text) section h in
          let stands = body_actions text from.0 from.1 a
          (subst (λ (x : SectionView). Has (actions_of x.body) a) (sym from.2) k) in
          Has-left (map (thread_action t) (actions_of text)) (actions_from (t + 1) texts)
          (thread_action section.thread a)
          (subst (λ (x : SectionView). Has (map (thread_action t) (actions_of text)) (thread_action x.thread a)) from.2
          (Has-map (thread_action t) (actions_of text) a stands))
      | inr h ↦ Has-right (map (thread_action t) (actions_of text)) (actions_from (t + 1) texts)
          (thread_action section.thread a) (section_placed (t + 1) texts section h a k)
    ]

-- what a node of a section's graph does is the program's
pub section_step : (s : SchemeView) → IsScheme s → (section : SectionView) (x : Node) → StandsIn s section x
    → IsProgramStep s section.thread x.label
section_step s scheme section x (i, g, j, at, graph_at, node_at) =
    by x.label (node_among section.body g (scheme.graphed.sections i section g at graph_at) j x node_at)
  where
    by : (l : Label) → IsAmong (actions_of section.body) l → IsProgramStep s section.thread l
    by (label.Act a) h = section_placed 0 s.program.texts section
        (Has-slice_get (sections_of s.program.texts) i section at) a h
    by (label.Test c) h = tt
    by (label.Section n) h = tt

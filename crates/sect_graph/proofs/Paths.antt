-- The paths of the graph are the traces of the text, and each node is on one.
use Rattle.std.proofs.Common.{◌≡◌, ℕ, zero, suc, ◌+◌, ◌<◌, ◌≤◌, ◌⊎◌, ◌↔◌, List, [], ◌∷◌, ◌++◌, length, Some, None, refl}
use Rattle.std.proofs.Common.{sym, ap, ◌∙◌, subst, inl, inr, arith, append_assoc, length-append}
use Rattle.std.proofs.{Math.Seq.{get_or-append_seam}, lemmas.List.{append-nil}}
use Rattle.std.proofs.{lemmas.Option.{slice_get-get_or, slice_get_past}, lemmas.Bool.{cases_lt, cases_eq}}
use Rattle.std.specs.Prelude.{slice_get}
use Rattle.sect_types.specs.{declared.expansion.action.Condition.{Condition}, declared.expansion.action.Label.{Label}}
use Rattle.sect_types.specs.declared.expansion.action.Label.TheVariants.{Act, Test, Section as WholeSection}
use Rattle.sect_types.specs.Statements.{TextView, Stop, Do, Choose, Loop, Section}
use Rattle.sect_types.specs.Traces.{Visit, visit, IsTrace, Rounds, node_count}
use Rattle.sect_graph.specs.{declared.flow.Node.{Node}, declared.flow.Successors.TheVariants.{Next, Branch}}
use Rattle.sect_graph.specs.{Layout.{entry_of, nodes_of}, Paths.{node, LeadsTo, IsPath, PathsAreTraces, IsConnected}}
use Rattle.sect_graph.proofs.shared.Paths.{path_join}

-- the nodes stand in the graph from this place on
abbrev pub HasAt : List Node → ℕ → List Node → Type 0
HasAt g n [] = Unit {0}
HasAt g n (x ∷ xs) = (slice_get g n ≡ Some x) × HasAt g (n + 1) xs

pub has_front : (g : List Node) (n : ℕ) (a b : List Node) → HasAt g n (a ++ b) → HasAt g n a
has_front g n [] b h = tt
has_front g n (x ∷ a) b h = (h.0, has_front g (n + 1) a b h.1)

has_back : (g : List Node) (n : ℕ) (a b : List Node) → HasAt g n (a ++ b) → HasAt g (n + length a) b
has_back g n [] b h = let e : n ≡ n + 0 = omega arith in subst (λ k. HasAt g k b) e h
has_back g n (x ∷ a) b h =
    let e : n + 1 + length a ≡ n + length (x ∷ a) = omega arith in
    subst (λ k. HasAt g k b) e (has_back g (n + 1) a b h.1)

pub has_all : (xs pre : List Node) → HasAt (pre ++ xs) (length pre) xs
has_all [] pre = tt
has_all (x ∷ xs) pre =
    let within : length pre < length (pre ++ x ∷ xs) = omega (arith, length-append pre (x ∷ xs)) in
    let here = slice_get-get_or (pre ++ x ∷ xs) (length pre) x within ∙ ap Some (get_or-append_seam pre x xs x) in
    let n : length (pre ++ x ∷ []) ≡ length pre + 1 = omega (arith, length-append pre (x ∷ [])) in
    let rest = has_all xs (pre ++ x ∷ []) in
    let rest' = subst (λ l. HasAt l (length (pre ++ x ∷ [])) xs) (append_assoc pre (x ∷ []) xs) rest in
    (here, subst (λ m. HasAt (pre ++ x ∷ xs) m xs) n rest')

pub length-nodes_of : (c : TextView) (n next : ℕ) → length (nodes_of c n next) ≡ node_count c
length-nodes_of Stop n next = refl
length-nodes_of (Do a rest) n next = omega (arith, length-nodes_of rest (n + 1) next)
length-nodes_of (Section k c rest) n next = omega (arith, length-nodes_of rest (n + 1) next)
length-nodes_of (Choose z a b rest) n next =
    let end = n + 1 + node_count a + node_count b in
    let after = entry_of rest end next in
    let xs = nodes_of a (n + 1) after in
    let ys = nodes_of b (n + 1 + node_count a) after in
    let zs = nodes_of rest end next in
    omega (
      arith,
      length-nodes_of a (n + 1) after,
      length-nodes_of b (n + 1 + node_count a) after,
      length-nodes_of rest end next,
      length-append xs (ys ++ zs),
      length-append ys zs,
    )
length-nodes_of (Loop z a rest) n next =
    let end = n + 1 + node_count a in
    let xs = nodes_of a (n + 1) n in
    let zs = nodes_of rest end next in
    omega (arith, length-nodes_of a (n + 1) n, length-nodes_of rest end next, length-append xs zs)

-- the nodes behind a block's
pub behind : (g : List Node) (c : TextView) (n next : ℕ) (zs : List Node) → HasAt g n (nodes_of c n next ++ zs)
    → HasAt g (n + node_count c) zs
behind g c n next zs h = subst (λ k. HasAt g (n + k) zs) (length-nodes_of c n next)
    (has_back g n (nodes_of c n next) zs h)

module _ (g : List Node) where
  -- a trace is a path
  turn_paths : (z : Condition) (a : TextView) (n next turns : ℕ) (steps : List Visit) (x : Node)
      → slice_get g n ≡ Some x → x ≡ node (Test z) (Branch (entry_of a (n + 1) n) next)
      → ((mid : List Visit) → IsTrace a (n + 1) mid → IsPath g (entry_of a (n + 1) n) mid n)
      → Rounds n z (IsTrace a (n + 1)) turns steps → IsPath g n steps next
  turn_paths z a n next zero steps x at is body t =
      subst (λ s. IsPath g n s next) (sym t)
      (node (Test z) (Branch (entry_of a (n + 1) n) next), at ∙ ap Some is, refl, next, inr refl, refl)
  turn_paths z a n next (suc turns) steps x at is body (turn, tail, e, b, t) =
      subst (λ s. IsPath g n s next) (sym e) (
        node (Test z) (Branch (entry_of a (n + 1) n) next),
        at ∙ ap Some is,
        refl,
        entry_of a (n + 1) n,
        inl refl,
        path_join g turn tail _ n next (body turn b) (turn_paths z a n next turns tail x at is body t),
      )

  pub walks : (c : TextView) (n next : ℕ) (steps : List Visit) → HasAt g n (nodes_of c n next) → IsTrace c n steps
      → IsPath g (entry_of c n next) steps next
  walks Stop n next steps has t = subst (λ s. IsPath g next s next) (sym t) refl
  walks (Do a rest) n next steps has (tail, e, t) =
      let after = entry_of rest (n + 1) next in
      subst (λ s. IsPath g n s next) (sym e)
      (node (Act a) (Next after), has.0, refl, after, refl, walks rest (n + 1) next tail has.1 t)
  walks (Section k c rest) n next steps has (tail, e, t) =
      let after = entry_of rest (n + 1) next in
      subst (λ s. IsPath g n s next) (sym e)
      (node (WholeSection k) (Next after), has.0, refl, after, refl, walks rest (n + 1) next tail has.1 t)
  walks (Choose z a b rest) n next steps has (mid, tail, e, side, t) =
      let end = n + 1 + node_count a + node_count b in
      let after = entry_of rest end next in
      let xs = nodes_of a (n + 1) after in
      let ys = nodes_of b (n + 1 + node_count a) after in
      let zs = nodes_of rest end next in
      let at_b = behind g a (n + 1) after (ys ++ zs) has.1 in
      let at_rest = behind g b (n + 1 + node_count a) after zs at_b in
      let on = walks rest end next tail at_rest t in
      let x = node (Test z) (Branch (entry_of a (n + 1) after) (entry_of b (n + 1 + node_count a) after)) in
      subst (λ s. IsPath g n s next) (sym e)
      (elim side [
        | inl p ↦ (
          x,
          has.0,
          refl,
          entry_of a (n + 1) after,
          inl refl,
          path_join g mid tail _ after next (walks a (n + 1) after mid (has_front g (n + 1) xs (ys ++ zs) has.1) p)
              on,
        )
        | inr p ↦ (
          x,
          has.0,
          refl,
          entry_of b (n + 1 + node_count a) after,
          inr refl,
          path_join g mid tail _ after next
              (walks b (n + 1 + node_count a) after mid (has_front g (n + 1 + node_count a) ys zs at_b) p) on,
        )
      ])
  walks (Loop z a rest) n next steps has (turns, mid, tail, e, t, r) =
      let end = n + 1 + node_count a in
      let after = entry_of rest end next in
      let xs = nodes_of a (n + 1) n in
      let zs = nodes_of rest end next in
      let at_rest = behind g a (n + 1) n zs has.1 in
      let body = λ (m : List Visit) (p : IsTrace a (n + 1) m). walks a (n + 1) n m (has_front g (n + 1) xs zs has.1)
      p in
      subst (λ s. IsPath g n s next) (sym e)
      (path_join g mid tail n after next (turn_paths z a n after turns mid _ has.0 refl body t)
      (walks rest end next tail at_rest r))

  -- a list of steps in two parts: the first is such a trace, the second a path from there to the exit
  abbrev Split : ℕ → (List Visit → Type 0) → ℕ → List Visit → Type 0
  Split exit Front next steps =
      (front : List Visit) × (back : List Visit) × (steps ≡ front ++ back) × Front front × IsPath g next back exit

  -- a path to the exit begins with a trace
  abbrev Splits : ℕ → TextView → ℕ → ℕ → Type 0
  Splits exit c n next = (steps : List Visit) → IsPath g (entry_of c n next) steps exit
      → Split exit (IsTrace c n) next steps

  same_node : (i : ℕ) (x y : Node) → slice_get g i ≡ Some x → slice_get g i ≡ Some y → x ≡ y
  same_node i x y e f = cc

  not_end : (exit i : ℕ) (x : Node) → slice_get g exit ≡ None → slice_get g i ≡ Some x → i ≡ exit → ⊥
  not_end exit i x e f same = let h : slice_get g i ≡ None = subst (λ k. slice_get g k ≡ None) (sym same) e in cc

  split_turns : (exit : ℕ) → slice_get g exit ≡ None → (z : Condition) (a : TextView) (n next : ℕ)
      → slice_get g n ≡ Some (node (Test z) (Branch (entry_of a (n + 1) n) next)) → Splits exit a (n + 1) n
      → (fuel : ℕ) (steps : List Visit) → length steps ≤ fuel → IsPath g n steps exit
      → Split exit (λ s. (turns : ℕ) × Rounds n z (IsTrace a (n + 1)) turns s) next steps
  split_turns exit ends z a n next at body fuel [] le p = absurd (not_end exit n _ ends at p)
  split_turns exit ends z a n next at body zero (s ∷ steps) le p = absurd (omega arith)
  split_turns exit ends z a n next at body (suc fuel) (s ∷ steps) le (x, here, is, m, to, p) =
      let same = same_node n x (node (Test z) (Branch (entry_of a (n + 1) n) next)) here at in
      let first : s ≡ visit n (Test z) = is ∙ ap (λ y. visit n y.label) same in
      elim (subst (λ y. LeadsTo y m) same to) [
        | inl e ↦
            let q = body steps (subst (λ k. IsPath g k steps exit) e p) in
            let short : length q.1 ≤ fuel = omega (arith, ap length q.2, length-append q.0 q.1) in
            let r = split_turns exit ends z a n next at body fuel q.1 short q.4 in
            let joined : s ∷ steps ≡ (visit n (Test z) ∷ (q.0 ++ r.0)) ++ r.1 = ap (λ y. y ∷ steps) first
            ∙ ap (λ l. visit n (Test z) ∷ l) (q.2 ∙ ap (λ l. q.0 ++ l) r.2 ∙ sym (append_assoc q.0 r.0 r.1)) in
            (visit n (Test z) ∷ (q.0 ++ r.0), r.1, joined, (suc r.3.0, (q.0, r.0, refl, q.3, r.3.1)), r.4)
        | inr e ↦ (
          visit n (Test z) ∷ [],
          steps,
          ap (λ y. y ∷ steps) first,
          (zero, refl),
          subst (λ k. IsPath g k steps exit) e p,
        )
      ]

  pub splits : (exit : ℕ) → slice_get g exit ≡ None → (c : TextView) (n next : ℕ) → HasAt g n (nodes_of c n next)
      → Splits exit c n next
  splits exit ends Stop n next has steps p = ([], steps, refl, refl, p)
  splits exit ends (Do a rest) n next has [] p = absurd (not_end exit n _ ends has.0 p)
  splits exit ends (Section k c rest) n next has [] p = absurd (not_end exit n _ ends has.0 p)
  splits exit ends (Do a rest) n next has (s ∷ steps) (x, here, is, m, to, p) =
      let after = entry_of rest (n + 1) next in
      let same = same_node n x (node (Act a) (Next after)) here has.0 in
      let first : s ≡ visit n (Act a) = is ∙ ap (λ y. visit n y.label) same in
      let there : m ≡ after = subst (λ y. LeadsTo y m) same to in
      let q = splits exit ends rest (n + 1) next has.1 steps (subst (λ k. IsPath g k steps exit) there p) in
      let joined : s ∷ steps ≡ (visit n (Act a) ∷ q.0) ++ q.1 = ap (λ y. y ∷ steps) first
      ∙ ap (λ l. visit n (Act a) ∷ l) q.2 in
      (visit n (Act a) ∷ q.0, q.1, joined, (q.0, refl, q.3), q.4)
  splits exit ends (Section k c rest) n next has (s ∷ steps) (x, here, is, m, to, p) =
      let after = entry_of rest (n + 1) next in
      let same = same_node n x (node (WholeSection k) (Next after)) here has.0 in
      let first : s ≡ visit n (WholeSection k) = is ∙ ap (λ y. visit n y.label) same in
      let there : m ≡ after = subst (λ y. LeadsTo y m) same to in
      let q = splits exit ends rest (n + 1) next has.1 steps (subst (λ k. IsPath g k steps exit) there p) in
      let joined : s ∷ steps ≡ (visit n (WholeSection k) ∷ q.0) ++ q.1 = ap (λ y. y ∷ steps) first
      ∙ ap (λ l. visit n (WholeSection k) ∷ l) q.2 in
      (visit n (WholeSection k) ∷ q.0, q.1, joined, (q.0, refl, q.3), q.4)
  splits exit ends (Choose z a b rest) n next has [] p = absurd (not_end exit n _ ends has.0 p)
  splits exit ends (Choose z a b rest) n next has (s ∷ steps) (x, here, is, m, to, p) =
      let end = n + 1 + node_count a + node_count b in
      let after = entry_of rest end next in
      let xs = nodes_of a (n + 1) after in
      let ys = nodes_of b (n + 1 + node_count a) after in
      let zs = nodes_of rest end next in
      let at_b = behind g a (n + 1) after (ys ++ zs) has.1 in
      let at_rest = behind g b (n + 1 + node_count a) after zs at_b in
      let here' = node (Test z) (Branch (entry_of a (n + 1) after) (entry_of b (n + 1 + node_count a) after)) in
      let same = same_node n x here' here has.0 in
      let first : s ≡ visit n (Test z) = is ∙ ap (λ y. visit n y.label) same in
      let side : Split exit (λ l. IsTrace a (n + 1) l ⊎ IsTrace b (n + 1 + node_count a) l) after steps =
      elim (subst (λ y. LeadsTo y m) same to) [
        | inl e ↦
            let q = splits exit ends a (n + 1) after (has_front g (n + 1) xs (ys ++ zs) has.1) steps
            (subst (λ k. IsPath g k steps exit) e p) in
            (q.0, q.1, q.2, inl q.3, q.4)
        | inr e ↦
            let q = splits exit ends b (n + 1 + node_count a) after (has_front g (n + 1 + node_count a) ys zs at_b)
            steps (subst (λ k. IsPath g k steps exit) e p) in
            (q.0, q.1, q.2, inr q.3, q.4)
      ] in
      let r = splits exit ends rest end next at_rest side.1 side.4 in
      let joined : s ∷ steps ≡ (visit n (Test z) ∷ (side.0 ++ r.0)) ++ r.1 = ap (λ y. y ∷ steps) first
      ∙ ap (λ l. visit n (Test z) ∷ l) (side.2 ∙ ap (λ l. side.0 ++ l) r.2 ∙ sym (append_assoc side.0 r.0 r.1)) in
      (visit n (Test z) ∷ (side.0 ++ r.0), r.1, joined, (side.0, r.0, refl, side.3, r.3), r.4)
  splits exit ends (Loop z a rest) n next has steps p =
      let end = n + 1 + node_count a in
      let after = entry_of rest end next in
      let xs = nodes_of a (n + 1) n in
      let zs = nodes_of rest end next in
      let at_rest = behind g a (n + 1) n zs has.1 in
      let q = split_turns exit ends z a n after has.0 (splits exit ends a (n + 1) n (has_front g (n + 1) xs zs has.1))
      (length steps) steps (omega arith) p in
      let r = splits exit ends rest end next at_rest q.1 q.4 in
      let joined : steps ≡ (q.0 ++ r.0) ++ r.1 = q.2 ∙ ap (λ l. q.0 ++ l) r.2 ∙ sym (append_assoc q.0 r.0 r.1) in
      (q.0 ++ r.0, r.1, joined, (q.3.0, q.0, r.0, refl, q.3.1, r.3), r.4)

-- along the paths from this node to the exit stand exactly the traces
abbrev PathsFrom : TextView → List Node → ℕ → Type 0
PathsFrom c g entry = (steps : List Visit) → IsPath g entry steps (length g) ↔ IsTrace c 0 steps

paths_are_traces : (c : TextView) (g : List Node) → g ≡ nodes_of c 0 (node_count c)
    → PathsFrom c g (entry_of c 0 (node_count c))
paths_are_traces c g is steps =
    let len : node_count c ≡ length g = omega (arith, ap length is, length-nodes_of c 0 (node_count c)) in
    let has : HasAt g 0 (nodes_of c 0 (node_count c)) =
    subst (λ l. HasAt l 0 (nodes_of c 0 (node_count c))) (sym is) (has_all (nodes_of c 0 (node_count c)) []) in
    let ends : slice_get g (node_count c) ≡ None = slice_get_past g (node_count c) (omega arith) in (
      λ p. of_split c g steps ends (splits g (node_count c) ends c 0 (node_count c) has steps
          (subst (λ k. IsPath g (entry_of c 0 (node_count c)) steps k) (sym len) p)),
      λ t. subst (λ k. IsPath g (entry_of c 0 (node_count c)) steps k) len (walks g c 0 (node_count c) steps has t),
    )
  where
    of_split : (c : TextView) (g : List Node) (steps : List Visit) → slice_get g (node_count c) ≡ None
        → Split g (node_count c) (IsTrace c 0) (node_count c) steps → IsTrace c 0 steps
    of_split c g steps ends (front, [], e, t, p) = subst (IsTrace c 0) (sym (e ∙ append-nil front)) t
    of_split c g steps ends (front, s ∷ back, e, t, p) =
        absurd (not_end g (node_count c) (node_count c) p.0 ends p.1 refl)

entry_zero : (c : TextView) → entry_of c 0 (node_count c) ≡ 0
entry_zero Stop = refl
entry_zero (Do a rest) = refl
entry_zero (Section k c rest) = refl
entry_zero (Choose z a b rest) = refl
entry_zero (Loop z a rest) = refl

pub paths_from_zero : (c : TextView) (g : List Node) → g ≡ nodes_of c 0 (node_count c) → PathsAreTraces c g
paths_from_zero c g is = subst (PathsFrom c g) (entry_zero c) (paths_are_traces c g is)

-- some trace of a block
some_trace : (c : TextView) (n : ℕ) → (steps : List Visit) × IsTrace c n steps
some_trace Stop n = ([], refl)
some_trace (Do a rest) n = let t = some_trace rest (n + 1) in (visit n (Act a) ∷ t.0, (t.0, refl, t.1))
some_trace (Section k c rest) n = let t = some_trace rest (n + 1) in (visit n (WholeSection k) ∷ t.0, (t.0, refl, t.1))
some_trace (Choose z a b rest) n =
    let mid = some_trace a (n + 1) in
    let t = some_trace rest (n + 1 + node_count a + node_count b) in
    (visit n (Test z) ∷ (mid.0 ++ t.0), (mid.0, t.0, refl, inl mid.1, t.1))
some_trace (Loop z a rest) n =
    let t = some_trace rest (n + 1 + node_count a) in
    ((visit n (Test z) ∷ []) ++ t.0, (zero, visit n (Test z) ∷ [], t.0, refl, refl, t.1))

module _ (g : List Node) where
  abbrev Leads : ℕ → ℕ → Type 0
  Leads i j = (steps : List Visit) × IsPath g i steps j

  leads_here : (i : ℕ) → Leads i i
  leads_here i = ([], refl)

  leads_on : (i j k : ℕ) → Leads i j → Leads j k → Leads i k
  leads_on i j k p q = (p.0 ++ q.0, path_join g p.0 q.0 i j k p.1 q.1)

  leads_next : (i : ℕ) (a : Label) (x : ℕ) → slice_get g i ≡ Some (node a (Next x)) → Leads i x
  leads_next i a x h = (visit i a ∷ [], (node a (Next x), h, refl, x, refl, refl))

  leads_first : (i : ℕ) (a : Label) (x y : ℕ) → slice_get g i ≡ Some (node a (Branch x y)) → Leads i x
  leads_first i a x y h = (visit i a ∷ [], (node a (Branch x y), h, refl, x, inl refl, refl))

  leads_second : (i : ℕ) (a : Label) (x y : ℕ) → slice_get g i ≡ Some (node a (Branch x y)) → Leads i y
  leads_second i a x y h = (visit i a ∷ [], (node a (Branch x y), h, refl, y, inr refl, refl))

  through : (c : TextView) (n next : ℕ) → HasAt g n (nodes_of c n next) → Leads (entry_of c n next) next
  through c n next has = let t = some_trace c n in (t.0, walks g c n next t.0 has t.1)

  -- from each node of a block to its end, and to each node from its entry
  abbrev Both : ℕ → ℕ → ℕ → Type 0
  Both entry i next = Leads entry i × Leads i next

  both : (c : TextView) (n next i : ℕ) → HasAt g n (nodes_of c n next) → n ≤ i → i < n + node_count c
      → Both (entry_of c n next) i next
  both Stop n next i has le lt = absurd (omega arith)
  both (Do a rest) n next i has le lt =
      let after = entry_of rest (n + 1) next in
      let first = leads_next n (Act a) after has.0 in
      elim (cases_eq n i) [
        | inl e ↦ subst (λ k. Both n k next) e
            (leads_here n, leads_on n after next first (through rest (n + 1) next has.1))
        | inr ne ↦ (let r = both rest (n + 1) next i has.1 (omega arith) (omega arith) in
            (leads_on n after i first r.0, r.1))
      ]
  both (Section k c rest) n next i has le lt =
      let after = entry_of rest (n + 1) next in
      let first = leads_next n (WholeSection k) after has.0 in
      elim (cases_eq n i) [
        | inl e ↦ subst (λ k. Both n k next) e
            (leads_here n, leads_on n after next first (through rest (n + 1) next has.1))
        | inr ne ↦ (let r = both rest (n + 1) next i has.1 (omega arith) (omega arith) in
            (leads_on n after i first r.0, r.1))
      ]
  both (Choose z a b rest) n next i has le lt =
      let end = n + 1 + node_count a + node_count b in
      let after = entry_of rest end next in
      let xs = nodes_of a (n + 1) after in
      let ys = nodes_of b (n + 1 + node_count a) after in
      let zs = nodes_of rest end next in
      let at_a = has_front g (n + 1) xs (ys ++ zs) has.1 in
      let at_bz = behind g a (n + 1) after (ys ++ zs) has.1 in
      let at_b = has_front g (n + 1 + node_count a) ys zs at_bz in
      let at_rest = behind g b (n + 1 + node_count a) after zs at_bz in
      let to_a = leads_first n (Test z) _ _ has.0 in
      let to_b = leads_second n (Test z) _ _ has.0 in
      let last = through rest end next at_rest in
      let over = leads_on n (entry_of a (n + 1) after) after to_a (through a (n + 1) after at_a) in
      elim (cases_eq n i) [
        | inl e ↦ subst (λ k. Both n k next) e (leads_here n, leads_on n after next over last)
        | inr ne ↦ elim (cases_lt i (n + 1 + node_count a)) [
          | inl in_a ↦ (let r = both a (n + 1) after i at_a (omega arith) in_a in
              (leads_on n _ i to_a r.0, leads_on i after next r.1 last))
          | inr past_a ↦ elim (cases_lt i end) [
            | inl in_b ↦ (let r = both b (n + 1 + node_count a) after i at_b past_a in_b in
                (leads_on n _ i to_b r.0, leads_on i after next r.1 last))
            | inr past_b ↦ (let r = both rest end next i at_rest past_b (omega arith) in
                (leads_on n after i over r.0, r.1))
          ]
        ]
      ]
  both (Loop z a rest) n next i has le lt =
      let end = n + 1 + node_count a in
      let after = entry_of rest end next in
      let xs = nodes_of a (n + 1) n in
      let zs = nodes_of rest end next in
      let at_a = has_front g (n + 1) xs zs has.1 in
      let at_rest = behind g a (n + 1) n zs has.1 in
      let to_a = leads_first n (Test z) _ _ has.0 in
      let over = leads_second n (Test z) _ _ has.0 in
      let last = leads_on n after next over (through rest end next at_rest) in
      elim (cases_eq n i) [
        | inl e ↦ subst (λ k. Both n k next) e (leads_here n, last)
        | inr ne ↦ elim (cases_lt i end) [
          | inl in_a ↦ (let r = both a (n + 1) n i at_a (omega arith) in_a in
              (leads_on n _ i to_a r.0, leads_on i n next r.1 last))
          | inr past ↦ (let r = both rest end next i at_rest past (omega arith) in (leads_on n after i over r.0, r.1))
        ]
      ]

pub is_connected : (c : TextView) (g : List Node) → g ≡ nodes_of c 0 (node_count c) → IsConnected g
is_connected c g is =
    let len : node_count c ≡ length g = omega (arith, ap length is, length-nodes_of c 0 (node_count c)) in
    let has : HasAt g 0 (nodes_of c 0 (node_count c)) =
    subst (λ l. HasAt l 0 (nodes_of c 0 (node_count c))) (sym is) (has_all (nodes_of c 0 (node_count c)) []) in
    let all = λ (i : ℕ) (lt : i < length g). both g c 0 (node_count c) i has (omega arith) (omega arith) in
    record {
      reached = λ i lt. subst (λ k. (steps : List Visit) × IsPath g k steps i) (entry_zero c) (all i lt).0;
      exits = λ i lt. subst (λ k. (steps : List Visit) × IsPath g i steps k) len (all i lt).1;
    }

-- from the entry to the exit
pub leads_over : (c : TextView) (g : List Node) → g ≡ nodes_of c 0 (node_count c)
    → (steps : List Visit) × IsPath g 0 steps (length g)
leads_over c g is = let t = some_trace c 0 in (t.0, (paths_from_zero c g is t.0).1 t.1)

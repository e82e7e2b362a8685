-- What is needed at a node of a graph is what is needed before the statements that are still to run there.
use Rattle.std.proofs.Common.{◌≡◌, ◌↔◌, ◌⊎◌, ◌≤◌, ◌<◌, ℕ, List, [], ◌∷◌, length, Some, refl, sym, ap, ◌∙◌}
use Rattle.std.proofs.{Common.{subst, inl, inr, arith}, lemmas.Bool.{cases_lt}}
use Rattle.std.specs.Prelude.{slice_get}
use Rattle.sect_lemmas.specs.Lists.{Has}
use Rattle.sect_lemmas.proofs.Places.{at_of}
use Rattle.sect_types.specs.Statements.{TextView, Stop, Do, Choose, Loop, Section}
use Rattle.sect_types.specs.{Sections.{SectionView, sections_of}, Traces.{Visit, visit}}
use Rattle.sect_types.specs.declared.expansion.action.Label.{Label}
use Rattle.sect_graph.specs.{declared.flow.Node.{Node}, Paths.{IsSuccessor, LeadsTo, IsPath}, Rests.{rest_at, Begins}}
use Rattle.sect_graph.specs.Graphs.{IsGraphOf}
use Rattle.sect_names.specs.{declared.lock.Lock.{Lock}, Schemes.{SchemeView, IsScheme}, Laws.{IsProgramStep}}
use Rattle.sect_names.specs.{Needed.{IsNeededFrom}, Walks.{labels_of, IsWalk, Leads}}
use Rattle.sect_names.specs.Along.{NeededAlong, NeededIn, AreProgramSteps, ReadsBeginnings}
use Rattle.sect_names.proofs.shared.{SectionSteps.{section_step}, Beginning.{reads_along}}
use Rattle.sect_names.proofs.shared.Walking.{StepsOn, leads_walk, walk_leads}
use Rattle.sect_names.proofs.Splitting.{split_along}
use Rattle.sect_names.specs.declared.lock.Lock.TheVariants as lock

module _ (rest : ℕ → TextView) where
  -- the node does what the text does first, and leads to what may be left
  begins_leads : (k : TextView) (x : Node) (m : ℕ) → Begins rest x k → LeadsTo x m → Leads k x.label (rest m)
  begins_leads Stop x m begins leads = absurd begins
  begins_leads (Do a r) x m (n, is, then) leads =
      let same : m ≡ n = subst (λ y. IsSuccessor y m) (ap (λ (y : Node). y.next) is) leads in
      (ap (λ (y : Node). y.label) is, ap rest same ∙ then)
  begins_leads (Choose t p q r) x m (n, l, is, good, bad) leads = (
    ap (λ (y : Node). y.label) is,
    elim (subst (λ y. IsSuccessor y m) (ap (λ (y : Node). y.next) is) leads)
        [ inl e ↦ inl (ap rest e ∙ good) | inr e ↦ inr (ap rest e ∙ bad) ],
  )
  begins_leads (Loop t p r) x m (n, l, is, good, bad) leads = (
    ap (λ (y : Node). y.label) is,
    elim (subst (λ y. IsSuccessor y m) (ap (λ (y : Node). y.next) is) leads)
        [ inl e ↦ inl (ap rest e ∙ good) | inr e ↦ inr (ap rest e ∙ bad) ],
  )
  begins_leads (Section i p r) x m (n, is, then) leads =
      let same : m ≡ n = subst (λ y. IsSuccessor y m) (ap (λ (y : Node). y.next) is) leads in
      (ap (λ (y : Node). y.label) is, ap rest same ∙ then)

  -- and to each of them
  abbrev Follows : Node → Label → TextView → Type 0
  Follows x l k = (m : ℕ) × LeadsTo x m × (l ≡ x.label) × (rest m ≡ k)

  leads_begins : (k : TextView) (x : Node) (l : Label) (k' : TextView) → Begins rest x k → Leads k l k' → Follows x l k'
  leads_begins Stop x l k' begins leads = absurd begins
  leads_begins (Do a r) x l k' (n, is, then) (first, left) = (
    n,
    subst (λ y. IsSuccessor y n) (sym (ap (λ (y : Node). y.next) is)) refl,
    first
        ∙ sym (ap (λ (y : Node). y.label) is),
    then ∙ sym left,
  )
  leads_begins (Choose t p q r) x l k' (n, m, is, good, bad) (first, left) = elim left [
    | inl e ↦ (
      n,
      subst (λ y. IsSuccessor y n) (sym (ap (λ (y : Node). y.next) is)) (inl refl),
      first
          ∙ sym (ap (λ (y : Node). y.label) is),
      good ∙ sym e,
    )
    | inr e ↦ (
      m,
      subst (λ y. IsSuccessor y m) (sym (ap (λ (y : Node). y.next) is)) (inr refl),
      first
          ∙ sym (ap (λ (y : Node). y.label) is),
      bad ∙ sym e,
    )
  ]
  leads_begins (Loop t p r) x l k' (n, m, is, good, bad) (first, left) = elim left [
    | inl e ↦ (
      n,
      subst (λ y. IsSuccessor y n) (sym (ap (λ (y : Node). y.next) is)) (inl refl),
      first
          ∙ sym (ap (λ (y : Node). y.label) is),
      good ∙ sym e,
    )
    | inr e ↦ (
      m,
      subst (λ y. IsSuccessor y m) (sym (ap (λ (y : Node). y.next) is)) (inr refl),
      first
          ∙ sym (ap (λ (y : Node). y.label) is),
      bad ∙ sym e,
    )
  ]
  leads_begins (Section i p r) x l k' (n, is, then) (first, left) = (
    n,
    subst (λ y. IsSuccessor y n) (sym (ap (λ (y : Node). y.next) is)) refl,
    first
        ∙ sym (ap (λ (y : Node). y.label) is),
    then ∙ sym left,
  )

  not_stop : (k : TextView) (x : Node) → Begins rest x k → k ≡ Stop → ⊥
  not_stop k x begins is = subst (Begins rest x) is begins

module _ (body : TextView) (g : List Node) (graph : IsGraphOf body g) where
  path_walk : (j : ℕ) (steps : List Visit) → IsPath g j steps (length g) → IsWalk (rest_at body j) (labels_of steps)
  path_walk j [] is = subst (λ n. IsWalk (rest_at body n) []) (sym is)
      (subst (λ k. IsWalk k []) (sym graph.running.end) refl)
  path_walk j (s ∷ steps) (x, at, is, m, leads, path) =
      subst (λ (l : Label). IsWalk (rest_at body j) (l ∷ labels_of steps)) (sym (ap (λ (y : Visit). y.label) is))
      (leads_walk (rest_at body j) x.label (rest_at body m) (labels_of steps)
      (begins_leads (rest_at body) (rest_at body j) x m (graph.running.begins j x at) leads)
      (path_walk m steps path))

  abbrev HasPath : ℕ → List Label → Type 0
  HasPath j ls = (steps : List Visit) × IsPath g j steps (length g) × (labels_of steps ≡ ls)

  walk_path : (ls : List Label) (j : ℕ) → j ≤ length g → IsWalk (rest_at body j) ls → HasPath j ls
  walk_path [] j within walk = elim (cases_lt j (length g)) [
    | inr past ↦ (let end : j ≡ length g = omega (arith, within, past) in ([], end, refl))
    | inl lt ↦
        let x = at_of g j lt in
        elim (walk_leads (rest_at body j) [] walk) [
          | inl (stop, is) ↦ absurd (not_stop (rest_at body) (rest_at body j) x.0 (graph.running.begins j x.0 x.1) stop)
          | inr (l, k, tail, leads, is, rest) ↦ absurd cc
        ]
  ]
  walk_path (l ∷ ls) j within walk = by (λ m w. walk_path ls m w) (walk_leads (rest_at body j) (l ∷ ls) walk)
    where
      goes : ((m : ℕ) → m ≤ length g → IsWalk (rest_at body m) ls → HasPath m ls) → (k : TextView)
          → Leads (rest_at body j) l k → IsWalk k ls → (j < length g) ⊎ (length g ≤ j) → HasPath j (l ∷ ls)
      goes later k leads rest (inr past) =
          let end : length g ≡ j = omega (arith, within, past) in
          absurd (subst (λ z. Leads z l k) (ap (rest_at body) (sym end) ∙ graph.running.end) leads)
      goes later k leads rest (inl lt) =
          let x = at_of g j lt in
          let f = leads_begins (rest_at body) (rest_at body j) x.0 l k (graph.running.begins j x.0 x.1) leads in
          let more = later f.0 (graph.within j f.0 x.0 x.1 f.1) (subst (λ z. IsWalk z ls) (sym f.3) rest) in (
            visit j x.0.label ∷ more.0,
            (x.0, x.1, refl, f.0, f.1, more.1),
            ap (λ z. z ∷ labels_of more.0) (sym f.2)
                ∙ ap (λ z. l ∷ z) more.2,
          )

      by : ((m : ℕ) → m ≤ length g → IsWalk (rest_at body m) ls → HasPath m ls)
          → (((rest_at body j) ≡ Stop) × ((l ∷ ls) ≡ [])) ⊎ StepsOn (rest_at body j) (l ∷ ls) → HasPath j (l ∷ ls)
      by later (inl (stop, is)) = absurd cc
      by later (inr (l', k, tail, leads, is, rest)) =
          let same : l' ≡ l = cc in
          let others : tail ≡ ls = cc in
          goes later k (subst (λ z. Leads (rest_at body j) z k) same leads) (subst (IsWalk k) others rest)
          (cases_lt j (length g))

  -- needed at a node
  pub needed_node : (s : SchemeView) (t : ℕ) (last : List Lock) (j : ℕ) (l : Lock) → j ≤ length g
      → IsNeededFrom s t last body g j l ↔ NeededIn s t last (rest_at body j) l
  needed_node s t last j l within = (
    λ (rest, is_rest, needed). (
      labels_of rest,
      path_walk j rest ((graph.rests j within rest).1 is_rest),
      (split_along s t last rest l).0 needed,
    ),
    λ (ls, walk, needed). (let w = walk_path ls j within walk in (
      w.0,
      (graph.rests j within w.0).0 w.1,
      (split_along s t last w.0 l).1 (subst (λ z. NeededAlong s t last z l) (sym w.2) needed),
    )),
  )

-- the steps along the paths of a section's graph are the program's
path_program : (s : SchemeView) → IsScheme s → (i : ℕ) (section : SectionView) (g : List Node)
    → slice_get (sections_of s.program.texts) i ≡ Some section → slice_get s.graphs.sections i ≡ Some g
    → (j e : ℕ) (steps : List Visit) → IsPath g j steps e → AreProgramSteps s section.thread (labels_of steps)
path_program s scheme i section g at graph_at j e [] path = tt
path_program s scheme i section g at graph_at j e (a ∷ steps) (x, node_at, is, m, leads, path) = (
  subst (IsProgramStep s section.thread) (sym (ap (λ (y : Visit). y.label) is))
      (section_step s scheme section x (i, g, j, at, graph_at, node_at)),
  path_program s scheme i section g at graph_at m e steps path,
)

-- where a path is needed at a node, each of its beginnings may be read by another lock that is
pub reads_at_node : (s : SchemeView) → IsScheme s → (last : List Lock) → ReadsBeginnings s (Has last)
    → (i : ℕ) (section : SectionView) (g : List Node) → slice_get (sections_of s.program.texts) i ≡ Some section
    → slice_get s.graphs.sections i ≡ Some g → (j : ℕ) → j ≤ length g
    → ReadsBeginnings s (IsNeededFrom s section.thread last section.body g j)
reads_at_node s scheme last ends i section g at graph_at j within p q f e (rest, is_rest, needed) goes =
    let t = section.thread in
    let path = ((scheme.graphed.sections i section g at graph_at).rests j within rest).1 is_rest in
    let m = reads_along s scheme t last ends (labels_of rest)
    (path_program s scheme i section g at graph_at j (length g) rest path) p q f e
    ((split_along s t last rest (lock.Path p e)).0 needed) goes in
    (m.0, (rest, is_rest, (split_along s t last rest m.0).1 m.1), m.2)

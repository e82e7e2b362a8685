-- The paths from a node to the exit are the rests of traces that begin there.
use Rattle.std.proofs.Common.{◌≡◌, ℕ, ◌≤◌, List, [], ◌∷◌, ◌++◌, length, refl, sym, ap, ◌∙◌, subst, inl, inr, arith}
use Rattle.std.proofs.lemmas.Bool.{cases_lt}
use Rattle.sect_types.specs.{Statements.{TextView}, Traces.{Visit, node_count}}
use Rattle.sect_graph.specs.{declared.flow.Node.{Node}, Layout.{nodes_of}}
use Rattle.sect_graph.specs.Paths.{IsPath, BeginsAt, PathsAreRests, PathsAreTraces}
use Rattle.sect_graph.proofs.shared.Paths.{path_join}
use Rattle.sect_graph.proofs.Paths.{paths_from_zero, is_connected, leads_over}

-- a path in two parts
path_split : (g : List Node) (xs ys : List Visit) (i k : ℕ) → IsPath g i (xs ++ ys) k
    → (m : ℕ) × IsPath g i xs m × IsPath g m ys k
path_split g [] ys i k p = (i, refl, p)
path_split g (s ∷ xs) ys i k (x, here, is, m, to, p) =
    let r = path_split g xs ys m k p in
    (r.0, (x, here, is, m, to, r.1), r.2)

begins : (g : List Node) (i : ℕ) (rest : List Visit) → IsPath g i rest (length g) → BeginsAt g i rest
begins g i [] p = p
begins g i (s ∷ rest) (x, here, is, m, to, p) = sym (ap (λ y. y.at) is)

-- the node at which steps begin
begun_at : (g : List Node) (i m : ℕ) (rest : List Visit) → BeginsAt g i rest → IsPath g m rest (length g)
    → IsPath g i rest (length g)
begun_at g i m [] b p = b
begun_at g i m (s ∷ rest) b p = subst (λ n. IsPath g n (s ∷ rest) (length g)) (sym (b ∙ ap (λ y. y.at) p.2)) p

pub paths_are_rests : (c : TextView) (g : List Node) → g ≡ nodes_of c 0 (node_count c) → PathsAreRests c g
paths_are_rests c g is i le rest = (
  λ p. let before = reach c g is i le in (
    before.0,
    (traces (before.0 ++ rest)).0 (path_join g before.0 rest 0 i (length g) before.1 p),
    begins g i rest p,
  ),
  λ h. let q = path_split g h.0 rest 0 (length g) ((traces (h.0 ++ rest)).1 h.1) in
      begun_at g i q.0 rest h.2 q.2,
)
  where
    traces : PathsAreTraces c g
    traces = paths_from_zero c g is

    reach : (c : TextView) (g : List Node) → g ≡ nodes_of c 0 (node_count c) → (i : ℕ) → i ≤ length g
        → (steps : List Visit) × IsPath g 0 steps i
    reach c g is i le = elim (cases_lt i (length g)) [
      | inl lt ↦ (is_connected c g is).reached i lt
      | inr ge ↦ (let e : length g ≡ i = omega arith in
          subst (λ k. (steps : List Visit) × IsPath g 0 steps k) e (leads_over c g is))
    ]

-- Paths of graphs, put together and taken apart.
use Rattle.std.proofs.Common.{◌≡◌, ℕ, List, [], ◌∷◌, ◌++◌, Some, length, ap, ◌∙◌, subst, sym, arith}
use Rattle.std.proofs.lemmas.Option.{slice_get_within}
use Rattle.std.specs.Prelude.{slice_get}
use Rattle.sect_types.specs.Traces.{Visit, visit}
use Rattle.sect_graph.specs.{declared.flow.Node.{Node}, Paths.{IsPath}}

-- a path from a node begins with what the node does
pub path_begins : (g : List Node) (j : ℕ) (y : Node) (steps : List Visit) → slice_get g j ≡ Some y
    → IsPath g j steps (length g) → (post : List Visit) × (steps ≡ visit j y.label ∷ post)
path_begins g j y [] at p = absurd (let w = slice_get_within g j y at in omega (arith, w, p))
path_begins g j y (a ∷ steps) at p = let same : p.0 ≡ y = (let e = p.1 in cc) in
    (steps, ap (λ b. b ∷ steps) (p.2 ∙ ap (λ z. visit j z.label) same))

pub path_join : (g : List Node) (xs ys : List Visit) (i j k : ℕ) → IsPath g i xs j → IsPath g j ys k
    → IsPath g i (xs ++ ys) k
path_join g [] ys i j k p q = subst (λ n. IsPath g n ys k) (sym p) q
path_join g (s ∷ xs) ys i j k p q = (p.0, p.1, p.2, p.3, p.4, path_join g xs ys p.3 j k p.5 q)

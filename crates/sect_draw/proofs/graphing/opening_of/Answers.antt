use Rattle.std.proofs.Common.{◌≡◌, List, ℕ, [], ◌∷◌, ◌++◌, ap, sym, ◌∙◌, append_assoc}
use Rattle.std.specs.{Prelude.{codes}, Fmt.{decimal}}
use Rattle.sect_draw.proofs.graphing.opening_of.Goals as goal

-- the parts of a node's name, the other way round
named : (d e rest : List ℕ) → d ++ (110 ∷ (e ++ rest)) ≡ ((d ++ 110 ∷ []) ++ e) ++ rest
named d e rest = sym (append_assoc (d ++ 110 ∷ []) e rest ∙ append_assoc d (110 ∷ []) (e ++ rest))

pub returns : goal.returns
returns c =
    c.in_ok-text.ensures.ok ∙ ap (λ t. 32 ∷ 32 ∷ 32 ∷ 32 ∷ 115 ∷ t)
    (named (decimal c.args.section) (decimal c.args.node) (codes " [label=\""))

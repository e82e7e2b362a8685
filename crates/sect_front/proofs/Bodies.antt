-- Lemmas on bodies.
use Rattle.std.proofs.Common.{◌≡◌, List, [], ◌∷◌, ◌++◌, refl, ap}
use Rattle.sect_front.specs.{Syntax.{Then}, declared.tree.Statement.{Statement}}
use Rattle.sect_front.specs.Trees.{statement_of, block_of, append}

pub body_of_push : (ss : List Statement) (s : Statement)
    → block_of (ss ++ s ∷ []) ≡ append (block_of ss) (statement_of s)
body_of_push [] s = refl
body_of_push (t ∷ ss) s = ap (Then (statement_of t)) (body_of_push ss s)

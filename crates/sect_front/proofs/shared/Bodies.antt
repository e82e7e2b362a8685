-- A statement is no larger than the block that it stands in.
use Rattle.std.proofs.Common.{ℕ, zero, suc, ◌<◌, ◌≤◌, List, [], ◌∷◌, length, get_or, arith}
use Rattle.sect_front.specs.Trees.{statement_of, block_of, statement_size, block_size}
use Rattle.sect_front.specs.declared.tree.Statement.{Statement}

pub size_at : (ss : List Statement) (i : ℕ) (d : Statement) → i < length ss
    → statement_size (statement_of (get_or ss i d)) ≤ block_size (block_of ss)
size_at [] i d h = absurd (omega arith)
size_at (s ∷ ss) zero d h = omega arith
size_at (s ∷ ss) (suc i) d h = omega (arith, size_at ss i d (omega arith))

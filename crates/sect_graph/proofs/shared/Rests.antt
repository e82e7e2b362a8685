-- What is left of a text at the nodes of its graph.
use Rattle.std.proofs.Common.{◌≡◌, ℕ, zero, suc, ◌-◌, ◌≤◌, refl, arith}
use Rattle.std.proofs.lemmas.Bool.{le-ltb}
use Rattle.sect_types.specs.{Statements.{TextView, Stop, Do, Choose, Loop, Section}, Traces.{node_count}}
use Rattle.sect_graph.specs.Rests.{rest_before}

-- behind the last node of a text what follows it is left
pub past_end : (text : TextView) (j : ℕ) (k : TextView) → node_count text ≤ j → rest_before text j k ≡ k
past_end Stop j k h = refl
past_end (Do a r) zero k h = absurd (omega arith)
past_end (Do a r) (suc j) k h = past_end r j k (omega arith)
past_end (Choose t p q r) zero k h = absurd (omega arith)
past_end (Choose t p q r) (suc j) k h =
    rw (le-ltb j (node_count p) (omega arith), le-ltb (j - node_count p) (node_count q) (omega arith))
    (past_end r (j - node_count p - node_count q) k (omega arith))
past_end (Loop t p r) zero k h = absurd (omega arith)
past_end (Loop t p r) (suc j) k h =
    rw (le-ltb j (node_count p) (omega arith)) (past_end r (j - node_count p) k (omega arith))
past_end (Section i p r) zero k h = absurd (omega arith)
past_end (Section i p r) (suc j) k h = past_end r j k (omega arith)

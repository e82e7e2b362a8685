-- What is still to run at a node.
use Rattle.std.specs.Prelude.{◌≡◌, ℕ, zero, suc, ◌-◌, List, Some, slice_get, length, nat_lt, if◌then◌else◌}
use Rattle.sect_types.specs.{Statements.{TextView, Stop, Do, Choose, Loop, Section, joined}, Traces.{node_count}}
use Rattle.sect_types.specs.declared.expansion.action.Label.TheVariants.{Act, Test, Section as WholeSection}
use Rattle.sect_graph.specs.{declared.flow.Node.{Node}, declared.flow.Successors.TheVariants.{Next, Branch}}
use Rattle.sect_graph.specs.Paths.{node}

-- what is still to run at node j of the statements, which k follows: within a loop, the loop is to run again
abbrev pub rest_before : TextView → ℕ → TextView → TextView
rest_before Stop j k = k
rest_before (Do a r) zero k = Do a (joined r k)
rest_before (Do a r) (suc j) k = rest_before r j k
rest_before (Choose t p q r) zero k = Choose t p q (joined r k)
rest_before (Choose t p q r) (suc j) k =
    if nat_lt j (node_count p) then rest_before p j (joined r k) else (
    if nat_lt (j - node_count p) (node_count q) then rest_before q (j - node_count p) (joined r k) else
    rest_before r (j - node_count p - node_count q) k)
rest_before (Loop t p r) zero k = Loop t p (joined r k)
rest_before (Loop t p r) (suc j) k =
    if nat_lt j (node_count p) then rest_before p j (Loop t p (joined r k)) else rest_before r (j - node_count p) k
rest_before (Section i p r) zero k = Section i p (joined r k)
rest_before (Section i p r) (suc j) k = rest_before r j k

-- what is still to run at node j of a whole text; nothing at its exit
abbrev pub rest_at : TextView → ℕ → TextView
rest_at text j = rest_before text j Stop

-- the node does the first step of these statements and leads to where the others are still to run; a loop whose test
-- holds runs its body and then itself
abbrev pub Begins : (ℕ → TextView) → Node → TextView → Type 0
Begins rest x Stop = ⊥
Begins rest x (Do a r) = (m : ℕ) × (x ≡ node (Act a) (Next m)) × (rest m ≡ r)
Begins rest x (Choose t p q r) =
    (m : ℕ) × (l : ℕ) × (x ≡ node (Test t) (Branch m l)) × (rest m ≡ joined p r) × (rest l ≡ joined q r)
Begins rest x (Loop t p r) =
    (m : ℕ) × (l : ℕ) × (x ≡ node (Test t) (Branch m l)) × (rest m ≡ joined p (Loop t p r)) × (rest l ≡ r)
Begins rest x (Section i p r) = (m : ℕ) × (x ≡ node (WholeSection i) (Next m)) × (rest m ≡ r)

-- each node of the graph does the first step of what is still to run there
pub record RunsRests (text : TextView) (g : List Node) : Type 0 where
  pub start : rest_at text 0 ≡ text
  pub begins : (j : ℕ) (x : Node) → slice_get g j ≡ Some x → Begins (rest_at text) x (rest_at text j)
  pub end : rest_at text (length g) ≡ Stop

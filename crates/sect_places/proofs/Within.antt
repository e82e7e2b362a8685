-- Each item has tokens, and they are the tree's.
use Rattle.std.proofs.Common.{ℕ, ◌+◌, ◌*◌, ◌<◌, ◌≤◌, List, [], ◌∷◌, length, arith}
use Rattle.sect_front.specs.Syntax.{StatementView, BlockView, Primitive, If, IfElse, While, Atomic, Call, End, Then}
use Rattle.sect_front.specs.{TreeView.{TreeView}, declared.tree.Declaration.{Declaration}}
use Rattle.sect_front.specs.{declared.tree.Record.{Record}, declared.tree.GlobalObject.{GlobalObject}}
use Rattle.sect_front.specs.{declared.tree.Procedure.{Procedure}, declared.tree.Thread.{Thread}}
use Rattle.sect_places.specs.declared.range.TokenRange.{TokenRange}
use Rattle.sect_places.specs.Counts.{primitive_count, locking_count, parameters_count, statement_count, block_count}
use Rattle.sect_places.specs.Counts.{record_count, procedure_count, thread_count, records_count, procedures_count}
use Rattle.sect_places.specs.Counts.{threads_count, tree_count}
use Rattle.sect_places.specs.Ranges.{AreAmong, statement_ranges, block_ranges, declarations_ranges, records_ranges}
use Rattle.sect_places.specs.Ranges.{globals_ranges, procedures_ranges, threads_ranges, item_tokens}
use Rattle.sect_front.specs.declared.tree.Primitive as leaf
use Rattle.sect_front.specs.declared.tree.Primitive.TheVariants as primitive

primitive_some : (p : leaf.Primitive) → 2 < primitive_count p
primitive_some (primitive.Assign x v) = omega arith
primitive_some (primitive.Compute x v o u) = omega arith
primitive_some (primitive.New x r) = omega arith
primitive_some (primitive.Load x y f) = omega arith
primitive_some (primitive.Store y f v) = omega arith
primitive_some (primitive.Print v) = omega arith

mutual
  statement_within : (m n : ℕ) (s : StatementView) (rs : List TokenRange) → n + statement_count s ≤ m → AreAmong m rs
      → AreAmong m (statement_ranges n s rs)
  statement_within m n (Primitive p) rs h k =
      (omega (arith, primitive_some p), omega (arith, primitive_some p, h), k)
  statement_within m n (If t a) rs h k =
      (omega arith, omega (arith, h), block_within m (n + 7) a rs (omega (arith, h)) k)
  statement_within m n (IfElse t a b) rs h k = (
    omega arith,
    omega (arith, h),
    block_within m (n + 7) a _ (omega (arith, h))
        (block_within m (n + 7 + block_count a + 3) b rs (omega (arith, h)) k),
  )
  statement_within m n (While t a) rs h k =
      (omega arith, omega (arith, h), block_within m (n + 7) a rs (omega (arith, h)) k)
  statement_within m n (Atomic l a) rs h k = (
    omega arith,
    omega (arith, h),
    block_within m (n + (1 + locking_count l) + 1) a rs (omega (arith, h)) k,
  )
  statement_within m n (Call f vs) rs h k = (omega arith, omega (arith, h), k)

  block_within : (m n : ℕ) (b : BlockView) (rs : List TokenRange) → n + block_count b ≤ m → AreAmong m rs
      → AreAmong m (block_ranges n b rs)
  block_within m n End rs h k = k
  block_within m n (Then s b) rs h k =
      statement_within m n s _ (omega (arith, h))
      (block_within m (n + statement_count s) b rs (omega (arith, h)) k)

-- a separator or a closing sign stands behind the last
declarations_within : (m n : ℕ) (ds : List Declaration) (rs : List TokenRange) → n + 3 * length ds ≤ m → AreAmong m rs
    → AreAmong m (declarations_ranges n ds rs)
declarations_within m n [] rs h k = k
declarations_within m n (d ∷ ds) rs h k =
    (omega arith, omega (arith, h), declarations_within m (n + 3) ds rs (omega (arith, h)) k)

parameters_most : (ds : List Declaration) → 3 * length ds ≤ parameters_count ds + 1
parameters_most [] = omega arith
parameters_most (d ∷ ds) = omega arith

records_within : (m n : ℕ) (list : List Record) (rs : List TokenRange) → n + records_count list ≤ m → AreAmong m rs
    → AreAmong m (records_ranges n list rs)
records_within m n [] rs h k = k
records_within m n (r ∷ list) rs h k = (
  omega arith,
  omega (arith, h),
  declarations_within m (n + 2 + 2 * length r.hints + 1) r.fields _ (omega (arith, h))
      (records_within m (n + record_count r) list rs (omega (arith, h)) k),
)

globals_within : (m n : ℕ) (list : List GlobalObject) (rs : List TokenRange) → n + 4 * length list ≤ m → AreAmong m rs
    → AreAmong m (globals_ranges n list rs)
globals_within m n [] rs h k = k
globals_within m n (g ∷ list) rs h k =
    (omega arith, omega (arith, h), globals_within m (n + 4) list rs (omega (arith, h)) k)

procedures_within : (m n : ℕ) (list : List Procedure) (rs : List TokenRange) → n + procedures_count list ≤ m
    → AreAmong m rs
    → AreAmong m (procedures_ranges n list rs)
procedures_within m n [] rs h k = k
procedures_within m n (p ∷ list) rs h k = (
  omega arith,
  omega (arith, h),
  declarations_within m (n + 3) p.parameters _ (omega (arith, parameters_most p.parameters, h))
      (declarations_within m (n + 3 + parameters_count p.parameters + 2) p.locals _ (omega (arith, h))
      (block_within m (n + 3 + parameters_count p.parameters + 2 + 3 * length p.locals) p.body _ (omega (arith, h))
      (procedures_within m (n + procedure_count p) list rs (omega (arith, h)) k))),
)

threads_within : (m n : ℕ) (list : List Thread) (rs : List TokenRange) → n + threads_count list ≤ m → AreAmong m rs
    → AreAmong m (threads_ranges n list rs)
threads_within m n [] rs h k = k
threads_within m n (t ∷ list) rs h k = (
  omega arith,
  omega (arith, h),
  declarations_within m (n + 3) t.locals _ (omega (arith, h))
      (block_within m (n + 3 + 3 * length t.locals) t.body _ (omega (arith, h))
      (threads_within m (n + thread_count t) list rs (omega (arith, h)) k)),
)

pub items_within : (t : TreeView) → AreAmong (tree_count t) (item_tokens t)
items_within t =
    records_within _ _ t.records _ (omega arith)
    (globals_within _ _ t.globals _ (omega arith)
    (procedures_within _ _ t.procedures _ (omega arith) (threads_within _ _ t.threads [] (omega arith) tt)))

-- Calls that come to an end.
use Rattle.std.specs.Prelude.{◌≡◌, ⊤, ℕ, zero, suc, ◌+◌, ◌*◌, List, [], ◌∷◌, Option, Some, None, slice_get}
use Rattle.sect_front.specs.Syntax.{StatementView, BlockView, Primitive, If, IfElse, While, Atomic, Call, End, Then}
use Rattle.sect_front.specs.{declared.tree.Procedure.{Procedure}, declared.tree.Thread.{Thread}, Trees.{block_size}}
use Rattle.sect_types.specs.Sums.{number_of}

abbrev mutual
  -- all calls in a statement do
  pub StatementEnds : List Procedure → (Option ℕ → Type 0) → StatementView → Type 0
  StatementEnds ps Ends (Primitive p) = ⊤
  StatementEnds ps Ends (If t a) = BlockEnds ps Ends a
  StatementEnds ps Ends (IfElse t a b) = BlockEnds ps Ends a × BlockEnds ps Ends b
  StatementEnds ps Ends (While t a) = BlockEnds ps Ends a
  StatementEnds ps Ends (Atomic l a) = BlockEnds ps Ends a
  StatementEnds ps Ends (Call f vs) = Ends (number_of ps f)

  pub BlockEnds : List Procedure → (Option ℕ → Type 0) → BlockView → Type 0
  BlockEnds ps Ends End = ⊤
  BlockEnds ps Ends (Then s b) = StatementEnds ps Ends s × BlockEnds ps Ends b

-- the procedure is there, and the calls in it come to an end
abbrev pub CallEnds : List Procedure → (Option ℕ → Type 0) → Option ℕ → Type 0
CallEnds ps Ends None = ⊥
CallEnds ps Ends (Some q) = (p : Procedure) × (slice_get ps q ≡ Some p) × BlockEnds ps Ends p.body

-- a call of that procedure does, where calls stand in one another at most so deep
abbrev pub EndsWithin : List Procedure → ℕ → Option ℕ → Type 0
EndsWithin ps zero q = ⊥
EndsWithin ps (suc n) q = CallEnds ps (EndsWithin ps n) q

-- all calls in threads do
abbrev pub ThreadsEnd : List Procedure → (Option ℕ → Type 0) → List Thread → Type 0
ThreadsEnd ps Ends [] = ⊤
ThreadsEnd ps Ends (t ∷ ts) = BlockEnds ps Ends t.body × ThreadsEnd ps Ends ts

-- more than three times the blocks of any procedure
abbrev pub most_size : List Procedure → ℕ
most_size [] = 3
most_size (p ∷ ps) = most_size ps + 3 * block_size p.body

-- Calls that are expanded to their end. `expand_within` and its like go no deeper than there are procedures; in a typed
-- text nothing stands deeper, so that a call is what its procedure says, and so is each call in that.
use Rattle.std.specs.Prelude.{◌≡◌, ℕ, List, Some, length, slice_get}
use Rattle.sect_front.specs.{declared.tree.Operand.{Operand}, TreeView.{TreeView}, declared.tree.Thread.{Thread}}
use Rattle.sect_types.specs.Statements.{TextView, statement_count, text_depth}
use Rattle.sect_types.specs.Sums.{sums, sums_at, sums_of, block_sums}
use Rattle.sect_types.specs.Expanded.{Scene, NextNumbers, Expander, Freshens, call_of, expand_within, fresh_of}
use Rattle.sect_types.specs.Expanded.{fresh_within, expanded_thread}

-- what stands for a call in the text of a thread
abbrev pub expander : TreeView → Expander
expander t = expand_within (length t.procedures) t.records t.globals t.procedures

-- the fresh locals of a call
abbrev pub freshens : TreeView → Freshens
freshens t = fresh_within (length t.procedures) t.procedures

-- a call comes to what its procedure comes to, the calls in it likewise
abbrev pub SumsUnfold : TreeView → Type 0
SumsUnfold t = (q : ℕ) → sums_at (sums t.procedures) (Some q)
    ≡ sums_of t.procedures (sums t.procedures) (slice_get t.procedures q)

-- a call stands for the assignments and the body of its procedure, the calls in it likewise
abbrev pub TextsUnfold : TreeView → Type 0
TextsUnfold t = (q : ℕ) (v : Scene) (a : NextNumbers) (vs : List Operand)
    → expander t (Some q) v a vs
    ≡ call_of t.records t.globals t.procedures (sums t.procedures) (expander t) (slice_get t.procedures q) (Some q)
    v a vs

-- the text of a thread, where there is one, has as many statements as the sums say, and is as deep
abbrev pub SumsCount : TreeView → Type 0
SumsCount t = (a : NextNumbers) (h : Thread) (text : TextView) → expanded_thread t a h ≡ Some text →
    (statement_count text ≡ (block_sums t.procedures (sums t.procedures) h.body).statements)
    × (text_depth text ≡ (block_sums t.procedures (sums t.procedures) h.body).deep)

-- a call has the fresh locals of its procedure, and then those of the calls in it
abbrev pub FreshUnfold : TreeView → Type 0
FreshUnfold t = (q c : ℕ) → freshens t (Some q) c
    ≡ fresh_of t.procedures (sums t.procedures) (freshens t) (slice_get t.procedures q) c

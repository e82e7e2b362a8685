-- A text that breaks no rule isn't deeper than the limit when it is expanded.
use Rattle.std.specs.Prelude.{Bool, true, false, ◌&&◌, ◌||◌, nat_lt, is_some, max, All}
use Rattle.std.proofs.{Common.{◌≡◌, ℕ, ◌+◌, ◌≤◌, List, [], ◌∷◌, ◌++◌, arith, ap}, Math.Nat.{le-max_left, le-max_right}}
use Rattle.std.proofs.lemmas.List.Elements.{All-nil, All-cons}
use Rattle.std.proofs.lemmas.Bool.{ltb-false, not-false, or_parts}
use Rattle.sect_front.specs.{Depth.{statement_depth, block_depth, threads_depth}, Limits.{most_depth}}
use Rattle.sect_front.specs.{declared.tree.Operand.{Operand}, declared.tree.Declaration.{Declaration}}
use Rattle.sect_front.specs.{declared.tree.Thread.{Thread}, TreeView.{TreeView}}
use Rattle.sect_front.specs.Syntax.{StatementView, Primitive, If, IfElse, While, Atomic, Call, BlockView, End, Then}
use Rattle.sect_types.specs.{declared.rules.place.Place.TheVariants.{InThread}, declared.counting.sums.Sums.{Sums}}
use Rattle.sect_types.specs.{Limits.{most_statements, most_sites, most_calls}, Statements.{TextView, text_depth}}
use Rattle.sect_types.specs.Items.{Item, AThread, AStatement, TestHead, AtomicHead, CallHead, statement_items}
use Rattle.sect_types.specs.Items.{block_items, global_items, local_items, procedure_items, thread_items}
use Rattle.sect_types.specs.Sums.{number_of, statement_sums, block_sums}
use Rattle.sect_types.specs.Rules.{Declared, Counts, seen, after, passes_by, sums_of_call, as_many, procedure_of}
use Rattle.sect_types.specs.{Rules.{knows_operands, declared_in}, First.{none_yet, IsTyped}}
use Rattle.sect_types.specs.Expanded.{NextNumbers, past_thread}
use Rattle.sect_types.specs.steps.Written.{written_thread, written_threads, written_texts}
use Rattle.sect_types.proofs.Walked.{NoneBroken, first_clean, first_few, next_none, statement_after, block_after}
use Rattle.sect_types.proofs.Walked.{statement_walked, block_walked, declared_after, locals_walked, thread_after}
use Rattle.sect_types.proofs.Walked.{records_after, records_walked, globals_walked, procedures_walked}
use Rattle.sect_types.proofs.{Walked.{before_procedures, before_threads}, WithinLimits.{last_false}}
use Rattle.sect_types.proofs.{CountLaws.{primitive_comes}, DepthLaws.{thread_deep}}

both_below : (n a b m : ℕ) → n + a ≤ m → n + b ≤ m → n + max a b ≤ m
both_below n a b m h k = omega (arith, h, k)

-- no limit is passed, the depth not either
passes_shallow : (c : Counts) (depth : ℕ) (s : Sums) → passes_by c depth s ≡ false → depth + s.deep ≤ most_depth
passes_shallow c depth s h =
    let statements = nat_lt most_statements (c.statements + s.statements) in
    let sites = nat_lt most_sites (c.sites + s.sites) in
    let calls = nat_lt most_calls (c.calls + s.calls) in
    let deep = nat_lt most_depth (depth + s.deep) in
    let g = or_parts statements (sites || (calls || deep)) h in
    let i = or_parts sites (calls || deep) g.1 in
    ltb-false most_depth (depth + s.deep) (or_parts calls deep i.1).1

call_shallow : (d : Declared) (ls : List Declaration) (inside : Bool) (depth : ℕ) (c : Counts) (x : List ℕ)
    (vs : List Operand) (w : List Item)
    → NoneBroken d c (AStatement (CallHead x vs) ls (InThread inside depth) ∷ w)
    → depth + (sums_of_call d x).deep ≤ most_depth
call_shallow d ls inside depth c x vs w h =
    let item = AStatement (CallHead x vs) ls (InThread inside depth) in
    let clean = first_clean d c item w h in
    let known = not-false (is_some (number_of d.procedures x) && knows_operands (seen d ls) vs) clean.known in
    passes_shallow c depth (sums_of_call d x)
    (last_false _ inside (as_many (procedure_of d.procedures x) vs) (passes_by c depth (sums_of_call d x)) known
    (not-false inside clean.stands)
    (not-false (as_many (procedure_of d.procedures x) vs) clean.counted) (first_few d c item w h))

-- where a body isn't deeper than the limit and breaks no rule, its expansion isn't either
mutual
  statement_shallow : (d : Declared) (ls : List Declaration) (inside : Bool) (depth : ℕ) (c : Counts)
      (s : StatementView) (w : List Item)
      → NoneBroken d c (statement_items ls (InThread inside depth) s w) → depth + statement_depth s ≤ most_depth
      → depth + (statement_sums d.procedures d.table s).deep ≤ most_depth
  statement_shallow d ls inside depth c (Primitive p) w h k =
      omega (arith, k, ap (λ (s : Sums). s.deep) (primitive_comes p))
  statement_shallow d ls inside depth c (If t a) w h k =
      let item = AStatement (TestHead t) ls (InThread inside depth) in
      let rest = block_items ls (InThread inside (depth + 1)) a w in
      let x = block_shallow d ls inside (depth + 1) (after d c item) a w (next_none d c item rest h)
      (omega (arith, k)) in
      omega (arith, x)
  statement_shallow d ls inside depth c (IfElse t a b) w h k =
      let at = InThread inside (depth + 1) in
      let item = AStatement (TestHead t) ls (InThread inside depth) in
      let more = block_items ls at b w in
      let rest = block_items ls at a more in
      let next = next_none d c item rest h in
      let x = block_shallow d ls inside (depth + 1) (after d c item) a more next
      (omega (arith, k, le-max_left (block_depth a) (block_depth b))) in
      let y = block_shallow d ls inside (depth + 1) (block_after d ls at (after d c item) a) b w
      (block_walked d ls at (after d c item) a more next).1
      (omega (arith, k, le-max_right (block_depth a) (block_depth b))) in
      let z = both_below (depth + 1) (block_sums d.procedures d.table a).deep (block_sums d.procedures d.table b).deep
      most_depth x y in
      omega (arith, z)
  statement_shallow d ls inside depth c (While t a) w h k =
      let item = AStatement (TestHead t) ls (InThread inside depth) in
      let rest = block_items ls (InThread inside (depth + 1)) a w in
      let x = block_shallow d ls inside (depth + 1) (after d c item) a w (next_none d c item rest h)
      (omega (arith, k)) in
      omega (arith, x)
  statement_shallow d ls inside depth c (Atomic lock a) w h k =
      let item = AStatement AtomicHead ls (InThread inside depth) in
      let rest = block_items ls (InThread true (depth + 1)) a w in
      let x = block_shallow d ls true (depth + 1) (after d c item) a w (next_none d c item rest h)
      (omega (arith, k)) in
      omega (arith, x)
  statement_shallow d ls inside depth c (Call x vs) w h k = call_shallow d ls inside depth c x vs w h

  block_shallow : (d : Declared) (ls : List Declaration) (inside : Bool) (depth : ℕ) (c : Counts) (b : BlockView)
      (w : List Item)
      → NoneBroken d c (block_items ls (InThread inside depth) b w) → depth + block_depth b ≤ most_depth
      → depth + (block_sums d.procedures d.table b).deep ≤ most_depth
  block_shallow d ls inside depth c End w h k = omega (arith, k)
  block_shallow d ls inside depth c (Then s b) w h k =
      let at = InThread inside depth in
      let x = statement_shallow d ls inside depth c s (block_items ls at b w) h
      (omega (arith, k, le-max_left (statement_depth s) (block_depth b))) in
      let y = block_shallow d ls inside depth (statement_after d ls at c s) b w
      (statement_walked d ls at c s (block_items ls at b w) h).1
      (omega (arith, k, le-max_right (statement_depth s) (block_depth b))) in
      both_below depth (statement_sums d.procedures d.table s).deep (block_sums d.procedures d.table b).deep
      most_depth x y

-- a text, the braces of its thread counted
abbrev IsShallowText : TextView → Type 0
IsShallowText text = 1 + text_depth text ≤ most_depth

-- so of the threads of a text
threads_shallow : (t : TreeView) (a : NextNumbers) (c : Counts) (before : List (List ℕ)) (hs : List Thread)
    → NoneBroken (declared_in t) c (thread_items before hs []) → threads_depth hs ≤ most_depth
    → All IsShallowText (written_threads t a hs)
threads_shallow t a c before [] h k = All-nil IsShallowText
threads_shallow t a c before (x ∷ hs) h k =
    let d = declared_in t in
    let rest = thread_items (before ++ x.name ∷ []) hs [] in
    let body = block_items x.locals (InThread false 1) x.body rest in
    let item = AThread x.name before in
    let e = after d c item in
    let g = declared_after e x.locals in
    let at_block = locals_walked d e [] x.locals body (next_none d c item (local_items [] x.locals body) h) in
    let deep = block_shallow d x.locals false 1 g x.body rest at_block
    (omega (arith, k, le-max_left (block_depth x.body + 1) (threads_depth hs))) in
    All-cons IsShallowText (written_thread t a x) (written_threads t (past_thread t a x) hs)
    (omega (arith, deep, thread_deep t a x))
    (threads_shallow t (past_thread t a x) (thread_after d c before x) (before ++ x.name ∷ []) hs
    (block_walked d x.locals (InThread false 1) g x.body rest at_block).1
    (omega (arith, k, le-max_right (block_depth x.body + 1) (threads_depth hs))))

-- and of a typed text
pub typed_shallow : (t : TreeView) → IsTyped t → threads_depth t.threads ≤ most_depth
    → All IsShallowText (written_texts t)
typed_shallow t h k =
    let d = declared_in t in
    let of_threads = thread_items [] t.threads [] in
    let of_procedures = procedure_items 0 [] t.procedures of_threads in
    let at_globals = records_walked d none_yet [] t.records (global_items [] t.globals of_procedures) h in
    let c = records_after d none_yet [] t.records in
    let at_procedures = globals_walked d c [] t.globals of_procedures at_globals in
    let at_threads = (procedures_walked d (before_procedures t) 0 [] t.procedures of_threads at_procedures).1 in
    threads_shallow t _ (before_threads t) [] t.threads at_threads k

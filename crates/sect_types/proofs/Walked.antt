-- What breaks no rule is clean, item by item.
use Rattle.std.specs.Prelude.{false}
use Rattle.std.proofs.Common.{◌≡◌, ℕ, suc, ◌+◌, List, [], ◌∷◌, ◌++◌}
use Rattle.std.proofs.lemmas.Bool.{false_from_ne_true}
use Rattle.sect_front.specs.{declared.tree.Declaration.{Declaration}, declared.tree.Record.{Record}}
use Rattle.sect_front.specs.declared.tree.GlobalObject.{GlobalObject}
use Rattle.sect_front.specs.Syntax.{StatementView, Primitive, If, IfElse, While, Atomic, Call, BlockView, End, Then}
use Rattle.sect_front.specs.{declared.tree.Procedure.{Procedure}, declared.tree.Thread.{Thread}, TreeView.{TreeView}}
use Rattle.sect_types.specs.Items.{PrimitiveHead, TestHead, AtomicHead, CallHead, deeper, in_section, Item, AGlobal}
use Rattle.sect_types.specs.Items.{AStatement, statement_items, block_items, field_items, record_items, global_items}
use Rattle.sect_types.specs.Items.{local_items, procedure_items, thread_items, variables}
use Rattle.sect_types.specs.declared.rules.place.Place.{Place}
use Rattle.sect_types.specs.declared.rules.place.Place.TheVariants.{InThread, InProcedure}
use Rattle.sect_types.specs.declared.rules.rule.Rule.TheVariants.{Unknown, Twice, WrongType, SharedOutside, Nested}
use Rattle.sect_types.specs.declared.rules.rule.Rule.TheVariants.{TooMany, Recursion, Arguments}
use Rattle.sect_types.specs.{declared.rules.rule.Rule.{Rule}, Rules.{Declared, Counts, after, after_item, declared_in}}
use Rattle.sect_types.specs.First.{BreaksFrom, none_yet, IsTyped}
use Rattle.sect_types.specs.steps.Judging.{breaks}
use Rattle.sect_types.specs.steps.Clean.{IsClean, IsCleanStatement, IsCleanBlock, AreCleanProcedures, AreCleanThreads}
use Rattle.sect_types.proofs.Ways.{breaks_rule}

-- no rule is broken at any of these items, before which the counts are c
abbrev pub NoneBroken : Declared → Counts → List Item → Type 0
NoneBroken d c list = (i : ℕ) (r : Rule) → BreaksFrom d c list i r → ⊥

-- the first of them is clean
pub first_clean : (d : Declared) (c : Counts) (item : Item) (w : List Item) → NoneBroken d c (item ∷ w) → IsClean d item
first_clean d c item w h = record {
  known = false_from_ne_true (breaks d c item Unknown) (h 0 Unknown);
  once = false_from_ne_true (breaks d c item Twice) (h 0 Twice);
  right = false_from_ne_true (breaks d c item WrongType) (h 0 WrongType);
  stands = false_from_ne_true (breaks d c item SharedOutside) (h 0 SharedOutside);
  flat = false_from_ne_true (breaks d c item Nested) (h 0 Nested);
  ends = false_from_ne_true (breaks d c item Recursion) (λ e. h 0 Recursion (breaks_rule d c item Recursion e));
  counted = false_from_ne_true (breaks d c item Arguments) (h 0 Arguments);
}

-- it is not too many
pub first_few : (d : Declared) (c : Counts) (item : Item) (w : List Item) → NoneBroken d c (item ∷ w)
    → breaks d c item TooMany ≡ false
first_few d c item w h = false_from_ne_true (breaks d c item TooMany) (h 0 TooMany)

-- and those that follow it break none
pub next_none : (d : Declared) (c : Counts) (item : Item) (w : List Item) → NoneBroken d c (item ∷ w)
    → NoneBroken d (after d c item) w
next_none d c item w h = λ i r. h (suc i) r

-- what stands before the item after a statement
abbrev mutual
  pub statement_after : Declared → List Declaration → Place → Counts → StatementView → Counts
  statement_after d ls at c (Primitive p) = after d c (AStatement (PrimitiveHead p) ls at)
  statement_after d ls at c (If t a) = block_after d ls (deeper at) (after d c (AStatement (TestHead t) ls at)) a
  statement_after d ls at c (IfElse t a b) =
      block_after d ls (deeper at) (block_after d ls (deeper at) (after d c (AStatement (TestHead t) ls at)) a) b
  statement_after d ls at c (While t a) = block_after d ls (deeper at) (after d c (AStatement (TestHead t) ls at)) a
  statement_after d ls at c (Atomic lock a) =
      block_after d ls (in_section at) (after d c (AStatement AtomicHead ls at)) a
  statement_after d ls at c (Call f vs) = after d c (AStatement (CallHead f vs) ls at)

  pub block_after : Declared → List Declaration → Place → Counts → BlockView → Counts
  block_after d ls at c End = c
  block_after d ls at c (Then s b) = block_after d ls at (statement_after d ls at c s) b

-- a body that breaks none is clean, and what follows it breaks none
mutual
  pub statement_walked : (d : Declared) (ls : List Declaration) (at : Place) (c : Counts) (s : StatementView)
      (w : List Item)
      → NoneBroken d c (statement_items ls at s w)
      → IsCleanStatement d ls at s × NoneBroken d (statement_after d ls at c s) w
  statement_walked d ls at c (Primitive p) w h = (first_clean d c _ w h, λ i r. h (suc i) r)
  statement_walked d ls at c (If t a) w h =
      let x = block_walked d ls (deeper at) _ a w (λ i r. h (suc i) r) in
      ((first_clean d c _ _ h, x.0), x.1)
  statement_walked d ls at c (IfElse t a b) w h =
      let x = block_walked d ls (deeper at) _ a (block_items ls (deeper at) b w) (λ i r. h (suc i) r) in
      let y = block_walked d ls (deeper at) _ b w x.1 in
      ((first_clean d c _ _ h, x.0, y.0), y.1)
  statement_walked d ls at c (While t a) w h =
      let x = block_walked d ls (deeper at) _ a w (λ i r. h (suc i) r) in
      ((first_clean d c _ _ h, x.0), x.1)
  statement_walked d ls at c (Atomic lock a) w h =
      let x = block_walked d ls (in_section at) _ a w (λ i r. h (suc i) r) in
      ((first_clean d c _ _ h, x.0), x.1)
  statement_walked d ls at c (Call f vs) w h = (first_clean d c _ w h, λ i r. h (suc i) r)

  pub block_walked : (d : Declared) (ls : List Declaration) (at : Place) (c : Counts) (b : BlockView) (w : List Item)
      → NoneBroken d c (block_items ls at b w) → IsCleanBlock d ls at b × NoneBroken d (block_after d ls at c b) w
  block_walked d ls at c End w h = (tt, h)
  block_walked d ls at c (Then s b) w h =
      let x = statement_walked d ls at c s (block_items ls at b w) h in
      let y = block_walked d ls at (statement_after d ls at c s) b w x.1 in
      ((x.0, y.0), y.1)

-- what stands before the item after these declarations, fields or variables
abbrev pub declared_after : Counts → List Declaration → Counts
declared_after c [] = c
declared_after c (l ∷ ls) = declared_after (after_item c) ls

pub locals_walked : (d : Declared) (c : Counts) (before : List (List ℕ)) (ls : List Declaration) (w : List Item)
    → NoneBroken d c (local_items before ls w) → NoneBroken d (declared_after c ls) w
locals_walked d c before [] w h = h
locals_walked d c before (l ∷ ls) w h =
    locals_walked d (after_item c) (before ++ l.name ∷ []) ls w (λ i r. h (suc i) r)

pub fields_walked : (d : Declared) (c : Counts) (before : List (List ℕ)) (ls : List Declaration) (w : List Item)
    → NoneBroken d c (field_items before ls w) → NoneBroken d (declared_after c ls) w
fields_walked d c before [] w h = h
fields_walked d c before (l ∷ ls) w h =
    fields_walked d (after_item c) (before ++ l.name ∷ []) ls w (λ i r. h (suc i) r)

abbrev pub records_after : Declared → Counts → List (List ℕ) → List Record → Counts
records_after d c before [] = c
records_after d c before (x ∷ rs) =
    records_after d (declared_after (after_item c) x.fields) (before ++ x.name ∷ []) rs

pub records_walked : (d : Declared) (c : Counts) (before : List (List ℕ)) (rs : List Record) (w : List Item)
    → NoneBroken d c (record_items before rs w) → NoneBroken d (records_after d c before rs) w
records_walked d c before [] w h = h
records_walked d c before (x ∷ rs) w h =
    records_walked d (declared_after (after_item c) x.fields) (before ++ x.name ∷ []) rs w
    (fields_walked d _ [] x.fields (record_items (before ++ x.name ∷ []) rs w) (λ i r. h (suc i) r))

abbrev pub globals_after : Declared → Counts → List (List ℕ) → List GlobalObject → Counts
globals_after d c before [] = c
globals_after d c before (g ∷ gs) =
    globals_after d (after d c (AGlobal g.of g.name before)) (before ++ g.name ∷ []) gs

pub globals_walked : (d : Declared) (c : Counts) (before : List (List ℕ)) (gs : List GlobalObject) (w : List Item)
    → NoneBroken d c (global_items before gs w) → NoneBroken d (globals_after d c before gs) w
globals_walked d c before [] w h = h
globals_walked d c before (g ∷ gs) w h =
    globals_walked d (after d c (AGlobal g.of g.name before)) (before ++ g.name ∷ []) gs w (λ i r. h (suc i) r)

-- before the variables of a procedure, before its body, and behind it
abbrev pub procedure_after : Declared → Counts → ℕ → List (List ℕ) → Procedure → Counts
procedure_after d c i before p =
    block_after d (variables p) (InProcedure i)
    (declared_after (after_item c) (variables p)) p.body

abbrev pub procedures_after : Declared → Counts → ℕ → List (List ℕ) → List Procedure → Counts
procedures_after d c i before [] = c
procedures_after d c i before (p ∷ ps) =
    procedures_after d (procedure_after d c i before p) (i + 1) (before ++ p.name ∷ []) ps

pub procedures_walked : (d : Declared) (c : Counts) (i : ℕ) (before : List (List ℕ)) (ps : List Procedure)
    (w : List Item)
    → NoneBroken d c (procedure_items i before ps w)
    → AreCleanProcedures d i ps × NoneBroken d (procedures_after d c i before ps) w
procedures_walked d c i before [] w h = (tt, h)
procedures_walked d c i before (p ∷ ps) w h =
    let v = variables p in
    let rest = procedure_items (i + 1) (before ++ p.name ∷ []) ps w in
    let x = block_walked d v (InProcedure i) _ p.body rest
    (locals_walked d _ [] v (block_items v (InProcedure i) p.body rest) (λ j r. h (suc j) r)) in
    let y = procedures_walked d (procedure_after d c i before p) (i + 1) (before ++ p.name ∷ []) ps w x.1 in
    ((x.0, y.0), y.1)

abbrev pub thread_after : Declared → Counts → List (List ℕ) → Thread → Counts
thread_after d c before t =
    block_after d t.locals (InThread false 1) (declared_after (after_item c) t.locals) t.body

abbrev pub threads_after : Declared → Counts → List (List ℕ) → List Thread → Counts
threads_after d c before [] = c
threads_after d c before (t ∷ ts) = threads_after d (thread_after d c before t) (before ++ t.name ∷ []) ts

pub threads_walked : (d : Declared) (c : Counts) (before : List (List ℕ)) (ts : List Thread) (w : List Item)
    → NoneBroken d c (thread_items before ts w)
    → AreCleanThreads d ts × NoneBroken d (threads_after d c before ts) w
threads_walked d c before [] w h = (tt, h)
threads_walked d c before (t ∷ ts) w h =
    let rest = thread_items (before ++ t.name ∷ []) ts w in
    let x = block_walked d t.locals (InThread false 1) _ t.body rest
    (locals_walked d _ [] t.locals (block_items t.locals (InThread false 1) t.body rest) (λ j r. h (suc j) r)) in
    let y = threads_walked d (thread_after d c before t) (before ++ t.name ∷ []) ts w x.1 in
    ((x.0, y.0), y.1)

-- before the procedures, and before the threads
abbrev pub before_procedures : TreeView → Counts
before_procedures t = globals_after (declared_in t) (records_after (declared_in t) none_yet [] t.records) [] t.globals

abbrev pub before_threads : TreeView → Counts
before_threads t = procedures_after (declared_in t) (before_procedures t) 0 [] t.procedures

-- the bodies of a typed text are clean
pub text_clean : (t : TreeView) → IsTyped t
    → AreCleanProcedures (declared_in t) 0 t.procedures × AreCleanThreads (declared_in t) t.threads
text_clean t h =
    let d = declared_in t in
    let of_threads = thread_items [] t.threads [] in
    let of_procedures = procedure_items 0 [] t.procedures of_threads in
    let r = records_walked d none_yet [] t.records (global_items [] t.globals of_procedures) h in
    let g = globals_walked d _ [] t.globals of_procedures r in
    let p = procedures_walked d _ 0 [] t.procedures of_threads g in
    (p.0, (threads_walked d (before_threads t) [] t.threads [] p.1).0)

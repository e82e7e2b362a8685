-- The counts at the end of a text that breaks no rule.
use Rattle.std.specs.Prelude.{Bool, true, false, if◌then◌else◌}
use Rattle.std.proofs.Common.{◌≡◌, ℕ, zero, suc, ◌+◌, List, [], ◌∷◌, ◌++◌, Option, Some, None, refl, sym, ◌∙◌, arith}
use Rattle.std.proofs.Common.{subst, length, length-append}
use Rattle.sect_front.specs.{declared.tree.Declaration.{Declaration}, declared.tree.Record.{Record}}
use Rattle.sect_front.specs.declared.tree.GlobalObject.{GlobalObject}
use Rattle.sect_front.specs.Syntax.{StatementView, Primitive, If, IfElse, While, Atomic, Call, BlockView, End, Then}
use Rattle.sect_front.specs.{declared.tree.Procedure.{Procedure}, declared.tree.Thread.{Thread}, TreeView.{TreeView}}
use Rattle.sect_types.specs.{Statements.{made_in}, Sections.{sections_of}, Programs.{total_statements, all_made}}
use Rattle.sect_types.specs.declared.rules.place.Place.{Place}
use Rattle.sect_types.specs.declared.rules.place.Place.TheVariants.{InThread, InProcedure}
use Rattle.sect_types.specs.Items.{deeper, in_section, Item, AGlobal, AStatement, PrimitiveHead, TestHead, AtomicHead}
use Rattle.sect_types.specs.Items.{statement_items, block_items, field_items, record_items, global_items, local_items}
use Rattle.sect_types.specs.Items.{procedure_items, thread_items, variables, items}
use Rattle.sect_types.specs.declared.counting.sums.Sums.{Sums}
use Rattle.sect_types.specs.Sums.{nothing, both, around, statement_sums, block_sums, primitive_sums}
use Rattle.sect_types.specs.declared.rules.rule.Rule.{Rule}
use Rattle.sect_types.specs.declared.rules.rule.Rule.TheVariants.{Unknown, Twice, WrongType, SharedOutside, Nested}
use Rattle.sect_types.specs.declared.rules.rule.Rule.TheVariants.{TooMany, Recursion, Arguments}
use Rattle.sect_types.specs.{Rules.{Declared, Counts, after, declared_in, after_item}, First.{none_yet, IsTyped}}
use Rattle.sect_types.specs.Expanded.{NextNumbers, statement_sections, block_sections, past_thread}
use Rattle.sect_types.specs.steps.Judging.{breaks, rule_of, Verdict, Fine, fault_or, judge, least}
use Rattle.sect_types.specs.steps.{Clean.{AreCleanThreads}, Written.{written_thread, written_threads, written_texts}}
use Rattle.sect_types.proofs.CountLaws.{thread_counts}
use Rattle.sect_types.proofs.Walked.{NoneBroken, statement_after, block_after, declared_after, records_after}
use Rattle.sect_types.proofs.Walked.{globals_after, procedure_after, procedures_after, thread_after, threads_after}
use Rattle.sect_types.proofs.{Walked.{before_procedures, before_threads, text_clean}, Ways.{rule_breaks}}
use Rattle.sect_types.proofs.SiteLaws.{AreClean, typed_clean, thread_makes}
use Rattle.sect_types.proofs.SectionLaws.{sections_in, typed_section_count}
use Rattle.sect_front.specs.declared.tree.Primitive as leaf
use Rattle.sect_front.specs.declared.tree.Primitive.TheVariants as primitive

-- what stands behind all these items
abbrev pub after_all : Declared → Counts → List Item → Counts
after_all d c [] = c
after_all d c (item ∷ w) = after_all d (after d c item) w

none_of : (b : Bool) (r : Rule) (o : Option Rule) → (if b then Some r else o) ≡ None → (b ≡ false) × (o ≡ None)
none_of true r o h = absurd (cc)
none_of false r o h = (refl, h)

-- an item without a least rule breaks none
none_least : (b : Rule → Bool) → least b ≡ None → (r : Rule) → b r ≡ false
none_least b h =
    let a = none_of (b Unknown) Unknown _ h in
    let c = none_of (b Twice) Twice _ a.1 in
    let e = none_of (b WrongType) WrongType _ c.1 in
    let f = none_of (b SharedOutside) SharedOutside _ e.1 in
    let g = none_of (b Nested) Nested _ f.1 in
    let i = none_of (b TooMany) TooMany _ g.1 in
    let j = none_of (b Recursion) Recursion _ i.1 in
    let k = none_of (b Arguments) Arguments None j.1 in
    all_rules b (a.0, c.0, e.0, f.0, g.0, i.0, j.0, k.0)
  where
    all_rules : (b : Rule → Bool) → (b Unknown ≡ false) × (b Twice ≡ false) × (b WrongType ≡ false)
        × (b SharedOutside ≡ false) × (b Nested ≡ false) × (b TooMany ≡ false) × (b Recursion ≡ false)
        × (b Arguments ≡ false) → (r : Rule) → b r ≡ false
    all_rules b h Unknown = h.0
    all_rules b h Twice = h.1
    all_rules b h WrongType = h.2
    all_rules b h SharedOutside = h.3
    all_rules b h Nested = h.4
    all_rules b h TooMany = h.5
    all_rules b h Recursion = h.6
    all_rules b h Arguments = h.7

fine_first : (o : Option Rule) (i : ℕ) (rest : Verdict) (e : Counts) → fault_or o i rest ≡ Fine e
    → (o ≡ None) × (rest ≡ Fine e)
fine_first None i rest e h = (refl, h)
fine_first (Some r) i rest e h = absurd (cc)

-- a fine list breaks no rule
pub fine_none : (d : Declared) (c e : Counts) (w : List Item) → judge d c w ≡ Fine e → NoneBroken d c w
fine_none d c e [] h i r b = b
fine_none d c e (item ∷ w) h zero r b =
    let f = fine_first (rule_of d c item) c.items (judge d (after d c item) w) e h in
    let off : true ≡ false = sym (rule_breaks d c item r b) ∙ none_least (breaks d c item) f.0 r in cc
fine_none d c e (item ∷ w) h (suc i) r b =
    fine_none d (after d c item) e w (fine_first (rule_of d c item) c.items (judge d (after d c item) w) e h).1 i r b

-- and its verdict has the counts behind it
pub fine_after : (d : Declared) (c e : Counts) (w : List Item) → judge d c w ≡ Fine e → e ≡ after_all d c w
fine_after d c e [] h = let same : c ≡ e = cc in sym same
fine_after d c e (item ∷ w) h =
    fine_after d (after d c item) e w (fine_first (rule_of d c item) c.items (judge d (after d c item) w) e h).1

-- behind a body stand the counts after it
mutual
  statement_behind : (d : Declared) (ls : List Declaration) (at : Place) (c : Counts) (s : StatementView)
      (w : List Item)
      → after_all d c (statement_items ls at s w) ≡ after_all d (statement_after d ls at c s) w
  statement_behind d ls at c (Primitive p) w = refl
  statement_behind d ls at c (If t a) w = block_behind d ls (deeper at) _ a w
  statement_behind d ls at c (IfElse t a b) w =
      block_behind d ls (deeper at) _ a (block_items ls (deeper at) b w) ∙ block_behind d ls (deeper at) _ b w
  statement_behind d ls at c (While t a) w = block_behind d ls (deeper at) _ a w
  statement_behind d ls at c (Atomic lock a) w = block_behind d ls (in_section at) _ a w
  statement_behind d ls at c (Call f vs) w = refl

  block_behind : (d : Declared) (ls : List Declaration) (at : Place) (c : Counts) (b : BlockView) (w : List Item)
      → after_all d c (block_items ls at b w) ≡ after_all d (block_after d ls at c b) w
  block_behind d ls at c End w = refl
  block_behind d ls at c (Then s b) w =
      statement_behind d ls at c s (block_items ls at b w) ∙ block_behind d ls at (statement_after d ls at c s) b w

locals_behind : (d : Declared) (c : Counts) (before : List (List ℕ)) (ls : List Declaration) (w : List Item)
    → after_all d c (local_items before ls w) ≡ after_all d (declared_after c ls) w
locals_behind d c before [] w = refl
locals_behind d c before (l ∷ ls) w = locals_behind d (after_item c) (before ++ l.name ∷ []) ls w

fields_behind : (d : Declared) (c : Counts) (before : List (List ℕ)) (ls : List Declaration) (w : List Item)
    → after_all d c (field_items before ls w) ≡ after_all d (declared_after c ls) w
fields_behind d c before [] w = refl
fields_behind d c before (l ∷ ls) w = fields_behind d (after_item c) (before ++ l.name ∷ []) ls w

records_behind : (d : Declared) (c : Counts) (before : List (List ℕ)) (rs : List Record) (w : List Item)
    → after_all d c (record_items before rs w) ≡ after_all d (records_after d c before rs) w
records_behind d c before [] w = refl
records_behind d c before (x ∷ rs) w =
    fields_behind d (after_item c) [] x.fields (record_items (before ++ x.name ∷ []) rs w)
    ∙ records_behind d (declared_after (after_item c) x.fields) (before ++ x.name ∷ []) rs w

globals_behind : (d : Declared) (c : Counts) (before : List (List ℕ)) (gs : List GlobalObject) (w : List Item)
    → after_all d c (global_items before gs w) ≡ after_all d (globals_after d c before gs) w
globals_behind d c before [] w = refl
globals_behind d c before (g ∷ gs) w =
    globals_behind d (after d c (AGlobal g.of g.name before)) (before ++ g.name ∷ []) gs w

procedures_behind : (d : Declared) (c : Counts) (i : ℕ) (before : List (List ℕ)) (ps : List Procedure) (w : List Item)
    → after_all d c (procedure_items i before ps w) ≡ after_all d (procedures_after d c i before ps) w
procedures_behind d c i before [] w = refl
procedures_behind d c i before (p ∷ ps) w =
    let v = variables p in
    let rest = procedure_items (i + 1) (before ++ p.name ∷ []) ps w in
    locals_behind d _ [] v (block_items v (InProcedure i) p.body rest) ∙ block_behind d v (InProcedure i) _ p.body rest
    ∙ procedures_behind d (procedure_after d c i before p) (i + 1) (before ++ p.name ∷ []) ps w

threads_behind : (d : Declared) (c : Counts) (before : List (List ℕ)) (ts : List Thread) (w : List Item)
    → after_all d c (thread_items before ts w) ≡ after_all d (threads_after d c before ts) w
threads_behind d c before [] w = refl
threads_behind d c before (t ∷ ts) w =
    let at = InThread false 1 in
    let rest = thread_items (before ++ t.name ∷ []) ts w in
    locals_behind d _ [] t.locals (block_items t.locals at t.body rest) ∙ block_behind d t.locals at _ t.body rest
    ∙ threads_behind d (thread_after d c before t) (before ++ t.name ∷ []) ts w

-- the counts at the end of a text
abbrev pub end_of : TreeView → Counts
end_of t = threads_after (declared_in t) (before_threads t) [] t.threads

text_behind : (t : TreeView) → after_all (declared_in t) none_yet (items t) ≡ end_of t
text_behind t =
    let d = declared_in t in
    let of_threads = thread_items [] t.threads [] in
    let of_procedures = procedure_items 0 [] t.procedures of_threads in
    records_behind d none_yet [] t.records (global_items [] t.globals of_procedures)
    ∙ globals_behind d (records_after d none_yet [] t.records) [] t.globals of_procedures
    ∙ procedures_behind d (before_procedures t) 0 [] t.procedures of_threads
    ∙ threads_behind d (before_threads t) [] t.threads []

-- a fine text is typed, and its verdict has those counts
pub fine_typed : (t : TreeView) (e : Counts) → judge (declared_in t) none_yet (items t) ≡ Fine e
    → IsTyped t × (e ≡ end_of t)
fine_typed t e h = (
  fine_none (declared_in t) none_yet e (items t) h,
  fine_after (declared_in t) none_yet e (items t) h ∙ text_behind t,
)

-- between two counts stand statements that come to these sums, and so many sections
pub record Adds (c e : Counts) (s : Sums) (sections : ℕ) : Type 0 where
  pub statements_add : e.statements ≡ c.statements + s.statements
  pub sites_add : e.sites ≡ c.sites + s.sites
  pub calls_add : e.calls ≡ c.calls + s.calls
  pub sections_add : e.sections ≡ c.sections + sections

primitive_adds : (d : Declared) (ls : List Declaration) (inside : Bool) (depth : ℕ) (c : Counts) (p : leaf.Primitive)
    → Adds c (after d c (AStatement (PrimitiveHead p) ls (InThread inside depth))) (primitive_sums p) 0
primitive_adds d ls inside depth c (primitive.Assign x v) =
    record { statements_add = refl; sites_add = omega arith; calls_add = omega arith; sections_add = omega arith }
primitive_adds d ls inside depth c (primitive.Compute x v o w) =
    record { statements_add = refl; sites_add = omega arith; calls_add = omega arith; sections_add = omega arith }
primitive_adds d ls inside depth c (primitive.New x r) =
    record { statements_add = refl; sites_add = refl; calls_add = omega arith; sections_add = omega arith }
primitive_adds d ls inside depth c (primitive.Load x y f) =
    record { statements_add = refl; sites_add = omega arith; calls_add = omega arith; sections_add = omega arith }
primitive_adds d ls inside depth c (primitive.Store y f v) =
    record { statements_add = refl; sites_add = omega arith; calls_add = omega arith; sections_add = omega arith }
primitive_adds d ls inside depth c (primitive.Print v) =
    record { statements_add = refl; sites_add = omega arith; calls_add = omega arith; sections_add = omega arith }

-- one after another
then_adds : {c e f : Counts} {s r : Sums} {n m : ℕ} → Adds c e s n → Adds e f r m → Adds c f (both s r) (n + m)
then_adds x y = record {
  statements_add = omega (arith, x.statements_add, y.statements_add);
  sites_add = omega (arith, x.sites_add, y.sites_add);
  calls_add = omega (arith, x.calls_add, y.calls_add);
  sections_add = omega (arith, x.sections_add, y.sections_add);
}

-- a test, and the blocks that follow it
test_adds : (c e : Counts) (s : Sums) (n : ℕ)
    → Adds (record c { items = c.items + 1; statements = c.statements + 1 }) e s n → Adds c e (around s) n
test_adds c e s n x = record {
  statements_add = omega (arith, x.statements_add);
  sites_add = x.sites_add;
  calls_add = x.calls_add;
  sections_add = x.sections_add;
}

-- declarations of variables, and what stands in procedures, add nothing
abbrev pub AddsNothing : Counts → Counts → Type 0
AddsNothing c e = Adds c e nothing 0

nothing_adds : (c : Counts) → AddsNothing c c
nothing_adds c = record {
  statements_add = omega arith;
  sites_add = omega arith;
  calls_add = omega arith;
  sections_add = omega arith;
}

item_then : (c : Counts) {e : Counts} {s : Sums} {n : ℕ} → Adds (after_item c) e s n → Adds c e s n
item_then c x = record {
  statements_add = x.statements_add;
  sites_add = x.sites_add;
  calls_add = x.calls_add;
  sections_add = x.sections_add;
}

nothing_then : {c e f : Counts} {s : Sums} {n : ℕ} → AddsNothing c e → Adds e f s n → Adds c f s n
nothing_then x y = record {
  statements_add = omega (arith, x.statements_add, y.statements_add);
  sites_add = omega (arith, x.sites_add, y.sites_add);
  calls_add = omega (arith, x.calls_add, y.calls_add);
  sections_add = omega (arith, x.sections_add, y.sections_add);
}

-- a body of a thread adds what its sums say
mutual
  pub statement_adds : (d : Declared) (ls : List Declaration) (inside : Bool) (depth : ℕ) (c : Counts)
      (s : StatementView)
      → Adds c (statement_after d ls (InThread inside depth) c s) (statement_sums d.procedures d.table s)
      (statement_sections s)
  statement_adds d ls inside depth c (Primitive p) = primitive_adds d ls inside depth c p
  statement_adds d ls inside depth c (If t a) =
      let e = after d c (AStatement (TestHead t) ls (InThread inside depth)) in
      test_adds c _ _ _ (block_adds d ls inside (depth + 1) e a)
  statement_adds d ls inside depth c (IfElse t a b) =
      let e = after d c (AStatement (TestHead t) ls (InThread inside depth)) in
      let f = block_after d ls (InThread inside (depth + 1)) e a in
      test_adds c _ _ _
      (then_adds (block_adds d ls inside (depth + 1) e a) (block_adds d ls inside (depth + 1) f b))
  statement_adds d ls inside depth c (While t a) =
      let e = after d c (AStatement (TestHead t) ls (InThread inside depth)) in
      test_adds c _ _ _ (block_adds d ls inside (depth + 1) e a)
  statement_adds d ls inside depth c (Atomic lock a) =
      let x = block_adds d ls true (depth + 1) (after d c (AStatement AtomicHead ls (InThread inside depth))) a in
      record {
        statements_add = omega (arith, x.statements_add);
        sites_add = x.sites_add;
        calls_add = x.calls_add;
        sections_add = omega (arith, x.sections_add);
      }
  statement_adds d ls inside depth c (Call f vs) =
      record { statements_add = refl; sites_add = refl; calls_add = refl; sections_add = omega arith }

  pub block_adds : (d : Declared) (ls : List Declaration) (inside : Bool) (depth : ℕ) (c : Counts) (b : BlockView)
      → Adds c (block_after d ls (InThread inside depth) c b) (block_sums d.procedures d.table b) (block_sections b)
  block_adds d ls inside depth c End = nothing_adds c
  block_adds d ls inside depth c (Then s b) =
      then_adds (statement_adds d ls inside depth c s)
      (block_adds d ls inside depth (statement_after d ls (InThread inside depth) c s) b)

declared_adds : (c : Counts) (ls : List Declaration) → AddsNothing c (declared_after c ls)
declared_adds c [] = nothing_adds c
declared_adds c (l ∷ ls) = item_then c (declared_adds (after_item c) ls)

records_add : (d : Declared) (c : Counts) (before : List (List ℕ)) (rs : List Record)
    → AddsNothing c (records_after d c before rs)
records_add d c before [] = nothing_adds c
records_add d c before (x ∷ rs) =
    let e = after_item c in
    item_then c
    (nothing_then (declared_adds e x.fields) (records_add d (declared_after e x.fields) (before ++ x.name ∷ []) rs))

-- in a procedure
mutual
  statement_adds_none : (d : Declared) (ls : List Declaration) (i : ℕ) (c : Counts) (s : StatementView)
      → AddsNothing c (statement_after d ls (InProcedure i) c s)
  statement_adds_none d ls i c (Primitive p) = item_then c (nothing_adds (after_item c))
  statement_adds_none d ls i c (If t a) = item_then c (block_adds_none d ls i (after_item c) a)
  statement_adds_none d ls i c (IfElse t a b) =
      let e = after_item c in
      item_then c
      (nothing_then (block_adds_none d ls i e a) (block_adds_none d ls i (block_after d ls (InProcedure i) e a) b))
  statement_adds_none d ls i c (While t a) = item_then c (block_adds_none d ls i (after_item c) a)
  statement_adds_none d ls i c (Atomic lock a) = item_then c (block_adds_none d ls i (after_item c) a)
  statement_adds_none d ls i c (Call f vs) = item_then c (nothing_adds (after_item c))

  block_adds_none : (d : Declared) (ls : List Declaration) (i : ℕ) (c : Counts) (b : BlockView)
      → AddsNothing c (block_after d ls (InProcedure i) c b)
  block_adds_none d ls i c End = nothing_adds c
  block_adds_none d ls i c (Then s b) =
      nothing_then (statement_adds_none d ls i c s)
      (block_adds_none d ls i (statement_after d ls (InProcedure i) c s) b)

procedures_add : (d : Declared) (c : Counts) (i : ℕ) (before : List (List ℕ)) (ps : List Procedure)
    → AddsNothing c (procedures_after d c i before ps)
procedures_add d c i before [] = nothing_adds c
procedures_add d c i before (p ∷ ps) =
    let e = after_item c in
    let f = declared_after e (variables p) in
    item_then c
    (nothing_then (declared_adds e (variables p))
    (nothing_then (block_adds_none d (variables p) i f p.body)
    (procedures_add d (procedure_after d c i before p) (i + 1) (before ++ p.name ∷ []) ps)))

-- each global is a site
globals_add : (d : Declared) (c : Counts) (before : List (List ℕ)) (gs : List GlobalObject)
    → Adds c (globals_after d c before gs) (record nothing { sites = length gs }) 0
globals_add d c before [] = nothing_adds c
globals_add d c before (g ∷ gs) =
    let x = globals_add d (after d c (AGlobal g.of g.name before)) (before ++ g.name ∷ []) gs in
    record {
      statements_add = x.statements_add;
      sites_add = omega (arith, x.sites_add);
      calls_add = x.calls_add;
      sections_add = x.sections_add;
    }

-- what the bodies of threads come to
abbrev pub thread_sums : Declared → List Thread → Sums
thread_sums d [] = nothing
thread_sums d (h ∷ hs) = both (block_sums d.procedures d.table h.body) (thread_sums d hs)

pub threads_add : (d : Declared) (c : Counts) (before : List (List ℕ)) (hs : List Thread)
    → Adds c (threads_after d c before hs) (thread_sums d hs) (sections_in hs)
threads_add d c before [] = nothing_adds c
threads_add d c before (h ∷ hs) =
    let e = after_item c in
    item_then c
    (nothing_then (declared_adds e h.locals)
    (then_adds (block_adds d h.locals false 1 (declared_after e h.locals) h.body)
    (threads_add d (thread_after d c before h) (before ++ h.name ∷ []) hs)))

-- what stands before the threads: the globals alone are counted
pub before_add : (t : TreeView) → Adds none_yet (before_threads t) (record nothing { sites = length t.globals }) 0
before_add t =
    let d = declared_in t in
    let x = records_add d none_yet [] t.records in
    let y = globals_add d (records_after d none_yet [] t.records) [] t.globals in
    let z = procedures_add d (before_procedures t) 0 [] t.procedures in
    record {
      statements_add = omega (arith, x.statements_add, y.statements_add, z.statements_add);
      sites_add = omega (arith, x.sites_add, y.sites_add, z.sites_add);
      calls_add = omega (arith, x.calls_add, y.calls_add, z.calls_add);
      sections_add = omega (arith, x.sections_add, y.sections_add, z.sections_add);
    }

-- the texts have as many statements, and as many sites, as the sums of their bodies
threads_count : (t : TreeView) (a : NextNumbers) (hs : List Thread)
    → total_statements (written_threads t a hs) ≡ (thread_sums (declared_in t) hs).statements
threads_count t a [] = refl
threads_count t a (h ∷ hs) = omega (arith, thread_counts t a h, threads_count t (past_thread t a h) hs)

threads_make : (t : TreeView) → AreClean (declared_in t) t.procedures → (a : NextNumbers) (hs : List Thread)
    → AreCleanThreads (declared_in t) hs
    → length (all_made (written_threads t a hs)) ≡ (thread_sums (declared_in t) hs).sites
threads_make t c a [] g = refl
threads_make t c a (h ∷ hs) g =
    omega (
      arith,
      length-append (made_in (written_thread t a h)) (all_made (written_threads t (past_thread t a h) hs)),
      thread_makes t c a h g.0,
      threads_make t c (past_thread t a h) hs g.1,
    )

-- the counts at the end are those of the texts
pub record AreCounted (t : TreeView) (c : Counts) : Type 0 where
  pub statements_are : c.statements ≡ total_statements (written_texts t)
  pub sites_are : c.sites ≡ length t.globals + length (all_made (written_texts t))
  pub sections_are : c.sections ≡ length (sections_of (written_texts t))
  pub calls_are : c.calls ≡ (thread_sums (declared_in t) t.threads).calls

pub typed_counts : (t : TreeView) → IsTyped t → AreCounted t (end_of t)
typed_counts t h =
    let a : NextNumbers = record { sites = length t.globals; sections = 0; fresh = 0 } in
    let x = before_add t in
    let y = threads_add (declared_in t) (before_threads t) [] t.threads in
    record {
      statements_are = omega (arith, x.statements_add, y.statements_add, threads_count t a t.threads);
      sites_are =
          omega (arith, x.sites_add, y.sites_add, threads_make t (typed_clean t h) a t.threads (text_clean t h).1);
      sections_are = omega (arith, x.sections_add, y.sections_add, typed_section_count t h);
      calls_are = omega (arith, x.calls_add, y.calls_add);
    }

-- and so are those of a fine verdict
pub fine_counts : (t : TreeView) (e : Counts) → judge (declared_in t) none_yet (items t) ≡ Fine e → AreCounted t e
fine_counts t e h = let x = fine_typed t e h in subst (AreCounted t) (sym x.1) (typed_counts t x.0)

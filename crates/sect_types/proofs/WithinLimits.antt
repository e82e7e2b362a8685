-- A text that breaks no rule stays within the limits.
use Rattle.std.specs.Prelude.{Bool, true, false, ◌&&◌, ◌||◌, nat_le, is_some, ⊤}
use Rattle.std.proofs.Common.{◌≡◌, ℕ, zero, suc, ◌+◌, ◌≤◌, List, [], ◌∷◌, ◌++◌, map, Option, Some, None, refl, sym}
use Rattle.std.proofs.{Common.{◌∙◌, arith, subst, length, length-append, ap}, lemmas.List.{length-map}}
use Rattle.std.proofs.lemmas.Bool.{ltb-false, leb-false, not-false, or_parts}
use Rattle.sect_front.specs.{declared.tree.Operand.{Operand}, declared.tree.Declaration.{Declaration}}
use Rattle.sect_front.specs.declared.tree.GlobalObject.{GlobalObject}
use Rattle.sect_front.specs.Syntax.{StatementView, Primitive, If, IfElse, While, Atomic, Call, BlockView, End, Then}
use Rattle.sect_front.specs.{declared.tree.Procedure.{Procedure}, declared.tree.Thread.{Thread}, TreeView.{TreeView}}
use Rattle.sect_types.specs.{declared.declarations.types.ValueType.{ValueType}, Sight.{names_of_records}}
use Rattle.sect_types.specs.{Environments.{type_of, types_of}, Sections.{sections_of}}
use Rattle.sect_types.specs.Programs.{total_statements, all_made, calls_met}
use Rattle.sect_types.specs.declared.rules.place.Place.TheVariants.{InThread}
use Rattle.sect_types.specs.Items.{Item, AGlobal, AThread, ALocal, AStatement, PrimitiveHead, TestHead, AtomicHead}
use Rattle.sect_types.specs.Items.{CallHead, statement_items, block_items, global_items, local_items, procedure_items}
use Rattle.sect_types.specs.{Items.{thread_items}, declared.counting.sums.Sums.{Sums}}
use Rattle.sect_types.specs.Sums.{sums, sums_at, sums_within, number_of, primitive_sums, statement_sums, block_sums}
use Rattle.sect_types.specs.Sums.{sums_of}
use Rattle.sect_types.specs.Rules.{Declared, Counts, seen, after, too_many, passes_by, sums_of_call, as_many}
use Rattle.sect_types.specs.{Rules.{after_item, procedure_of, knows_operands, declared_in}, First.{none_yet, IsTyped}}
use Rattle.sect_types.specs.declared.expansion.expand.Fresh.{Fresh}
use Rattle.sect_types.specs.Expanded.{procedure_numbered, fresh_in, local_types_of}
use Rattle.sect_types.specs.Limits.{most_all_locals, most_calls, most_globals, most_locals, most_sections, most_sites}
use Rattle.sect_types.specs.Limits.{most_statements}
use Rattle.sect_types.specs.steps.{Clean.{IsClean}, Written.{written_texts}}
use Rattle.sect_types.proofs.Walked.{NoneBroken, first_clean, first_few, next_none, statement_after, block_after}
use Rattle.sect_types.proofs.Walked.{statement_walked, block_walked, declared_after, locals_walked, thread_after}
use Rattle.sect_types.proofs.Walked.{threads_after, records_after, records_walked, globals_walked, procedures_walked}
use Rattle.sect_types.proofs.{Walked.{before_procedures, before_threads}, CountLaws.{looked, thread_freshens}}
use Rattle.sect_types.proofs.EndCounts.{end_of, before_add, typed_counts, thread_sums, threads_add}
use Rattle.sect_front.specs.declared.tree.Primitive as leaf
use Rattle.sect_front.specs.declared.tree.Primitive.TheVariants as primitive

-- the counts of the expanded text so far
pub record IsFew (c : Counts) : Type 0 where
  pub few_statements : c.statements ≤ most_statements
  pub few_sites : c.sites ≤ most_sites
  pub few_sections : c.sections ≤ most_sections
  pub few_calls : c.calls ≤ most_calls

one_statement : (c : Counts) → nat_le most_statements c.statements ≡ false → IsFew c
    → IsFew (record c { items = c.items + 1; statements = c.statements + 1 })
one_statement c h f = record {
  few_statements = omega (arith, leb-false most_statements c.statements h);
  few_sites = f.few_sites;
  few_sections = f.few_sections;
  few_calls = f.few_calls;
}

primitive_few : (d : Declared) (ls : List Declaration) (inside : Bool) (depth : ℕ) (c : Counts) (p : leaf.Primitive)
    → too_many d c (AStatement (PrimitiveHead p) ls (InThread inside depth)) ≡ false → IsFew c
    → IsFew (after d c (AStatement (PrimitiveHead p) ls (InThread inside depth)))
primitive_few d ls inside depth c (primitive.Assign x v) h f = one_statement c h f
primitive_few d ls inside depth c (primitive.Compute x v o w) h f = one_statement c h f
primitive_few d ls inside depth c (primitive.New x r) h f =
    let g = or_parts (nat_le most_statements c.statements) (nat_le most_sites c.sites) h in
    record {
      few_statements = omega (arith, leb-false most_statements c.statements g.0);
      few_sites = omega (arith, leb-false most_sites c.sites g.1);
      few_sections = f.few_sections;
      few_calls = f.few_calls;
    }
primitive_few d ls inside depth c (primitive.Load x y g) h f = one_statement c h f
primitive_few d ls inside depth c (primitive.Store y g v) h f = one_statement c h f
primitive_few d ls inside depth c (primitive.Print v) h f = one_statement c h f

section_few : (c : Counts) → (nat_le most_statements c.statements || nat_le most_sections c.sections) ≡ false → IsFew c
    → IsFew (record c { items = c.items + 1; statements = c.statements + 1; sections = c.sections + 1 })
section_few c h f =
    let g = or_parts (nat_le most_statements c.statements) (nat_le most_sections c.sections) h in
    record {
      few_statements = omega (arith, leb-false most_statements c.statements g.0);
      few_sites = f.few_sites;
      few_sections = omega (arith, leb-false most_sections c.sections g.1);
      few_calls = f.few_calls;
    }

pub last_false : (a b c e : Bool) → a ≡ true → b ≡ true → c ≡ true → ((a && (b && c)) && e) ≡ false → e ≡ false
last_false true true true e h i j k = k
last_false false b c e h i j k = absurd (let off : false ≡ true = h in cc)
last_false true false c e h i j k = absurd (let off : false ≡ true = i in cc)
last_false true true false e h i j k = absurd (let off : false ≡ true = j in cc)

-- a call whose expansion passes_by no limit
passes_few : (c : Counts) (depth : ℕ) (s : Sums) → passes_by c depth s ≡ false → IsFew c
    → IsFew (record c {
      items = c.items + 1;
      statements = c.statements + s.statements;
      sites =
          c.sites + s.sites;
      calls = c.calls + s.calls;
    })
passes_few c depth s h f =
    let g = or_parts _ _ h in
    let i = or_parts _ _ g.1 in
    let j = or_parts _ _ i.1 in
    record {
      few_statements = ltb-false most_statements (c.statements + s.statements) g.0;
      few_sites = ltb-false most_sites (c.sites + s.sites) i.0;
      few_sections = f.few_sections;
      few_calls = ltb-false most_calls (c.calls + s.calls) j.0;
    }

call_few : (d : Declared) (ls : List Declaration) (inside : Bool) (depth : ℕ) (c : Counts) (x : List ℕ)
    (vs : List Operand)
    → IsClean d (AStatement (CallHead x vs) ls (InThread inside depth))
    → too_many d c (AStatement (CallHead x vs) ls (InThread inside depth)) ≡ false → IsFew c
    → IsFew (after d c (AStatement (CallHead x vs) ls (InThread inside depth)))
call_few d ls inside depth c x vs clean h f =
    let known = not-false (is_some (number_of d.procedures x) && knows_operands (seen d ls) vs) clean.known in
    let of_call = sums_of_call d x in
    passes_few c depth of_call
    (last_false _ inside (as_many (procedure_of d.procedures x) vs) (passes_by c depth of_call) known
    (not-false inside clean.stands)
    (not-false (as_many (procedure_of d.procedures x) vs) clean.counted) h) f

-- a body of a thread stays within the limits
mutual
  pub statement_few : (d : Declared) (ls : List Declaration) (inside : Bool) (depth : ℕ) (c : Counts)
      (s : StatementView)
      (w : List Item)
      → NoneBroken d c (statement_items ls (InThread inside depth) s w) → IsFew c
      → IsFew (statement_after d ls (InThread inside depth) c s)
  statement_few d ls inside depth c (Primitive p) w h f =
      let item = AStatement (PrimitiveHead p) ls (InThread inside depth) in
      primitive_few d ls inside depth c p (first_few d c item w h) f
  statement_few d ls inside depth c (If t a) w h f =
      let item = AStatement (TestHead t) ls (InThread inside depth) in
      let rest = block_items ls (InThread inside (depth + 1)) a w in
      block_few d ls inside (depth + 1) (after d c item) a w (next_none d c item rest h)
      (one_statement c (first_few d c item rest h) f)
  statement_few d ls inside depth c (IfElse t a b) w h f =
      let at = InThread inside (depth + 1) in
      let item = AStatement (TestHead t) ls (InThread inside depth) in
      let more = block_items ls at b w in
      let rest = block_items ls at a more in
      let next = next_none d c item rest h in
      let x = block_few d ls inside (depth + 1) (after d c item) a more next
      (one_statement c (first_few d c item rest h) f) in
      block_few d ls inside (depth + 1) (block_after d ls at (after d c item) a) b w
      (block_walked d ls at (after d c item) a more next).1 x
  statement_few d ls inside depth c (While t a) w h f =
      let item = AStatement (TestHead t) ls (InThread inside depth) in
      let rest = block_items ls (InThread inside (depth + 1)) a w in
      block_few d ls inside (depth + 1) (after d c item) a w (next_none d c item rest h)
      (one_statement c (first_few d c item rest h) f)
  statement_few d ls inside depth c (Atomic lock a) w h f =
      let item = AStatement AtomicHead ls (InThread inside depth) in
      let rest = block_items ls (InThread true (depth + 1)) a w in
      block_few d ls true (depth + 1) (after d c item) a w (next_none d c item rest h)
      (section_few c (first_few d c item rest h) f)
  statement_few d ls inside depth c (Call x vs) w h f =
      let item = AStatement (CallHead x vs) ls (InThread inside depth) in
      call_few d ls inside depth c x vs (first_clean d c item w h) (first_few d c item w h) f

  pub block_few : (d : Declared) (ls : List Declaration) (inside : Bool) (depth : ℕ) (c : Counts) (b : BlockView)
      (w : List Item)
      → NoneBroken d c (block_items ls (InThread inside depth) b w) → IsFew c
      → IsFew (block_after d ls (InThread inside depth) c b)
  block_few d ls inside depth c End w h f = f
  block_few d ls inside depth c (Then s b) w h f =
      let at = InThread inside depth in
      let x = statement_few d ls inside depth c s (block_items ls at b w) h f in
      block_few d ls inside depth (statement_after d ls at c s) b w
      (statement_walked d ls at c s (block_items ls at b w) h).1 x

-- what is named one after another, each where fewer than the most stand before it
named_few : {X : Type 0} (most : ℕ) (item : X → List (List ℕ) → Item) (name : X → List ℕ)
    (items : List (List ℕ) → List X → List Item → List Item) (d : Declared)
    → ((before : List (List ℕ)) (x : X) (xs : List X) (w : List Item)
    → items before (x ∷ xs) w ≡ item x before ∷ items (before ++ name x ∷ []) xs w)
    → ((c : Counts) (before : List (List ℕ)) (x : X) → too_many d c (item x before) ≡ nat_le most (length before))
    → (c : Counts) (before : List (List ℕ)) (xs : List X) (w : List Item)
    → NoneBroken d c (items before xs w) → length before ≤ most → length before + length xs ≤ most
named_few most item name items d step bound c before [] w h f = omega (arith, f)
named_few most item name items d step bound c before (x ∷ xs) w h f =
    let first = item x before in
    let rest = items (before ++ name x ∷ []) xs w in
    let none : NoneBroken d c (first ∷ rest) = subst (NoneBroken d c) (step before x xs w) h in
    let one = length-append before (name x ∷ []) in
    let here = leb-false most (length before) (sym (bound c before x) ∙ first_few d c first rest none) in
    let more = named_few most item name items d step bound (after d c first) (before ++ name x ∷ []) xs w
    (next_none d c first rest none) (omega (arith, one, here)) in
    omega (arith, one, more)

-- a variable is one of at most `most_locals`
locals_few : (d : Declared) (c : Counts) (before : List (List ℕ)) (ls : List Declaration) (w : List Item)
    → NoneBroken d c (local_items before ls w) → length before ≤ most_locals → length before + length ls ≤ most_locals
locals_few d =
    named_few most_locals (λ l before. ALocal l.kind l.name before) (λ l. l.name) local_items d (λ before l ls w. refl)
    (λ c before l. refl)

item_keeps : (c : Counts) → IsFew c → IsFew (after_item c)
item_keeps c f = record {
  few_statements = f.few_statements;
  few_sites = f.few_sites;
  few_sections = f.few_sections;
  few_calls = f.few_calls;
}

-- where variables are declared nothing is counted
declared_keep : (c : Counts) (ls : List Declaration) → IsFew c → IsFew (declared_after c ls)
declared_keep c [] f = f
declared_keep c (l ∷ ls) f = declared_keep (after_item c) ls (item_keeps c f)

-- each thread has at most `most_locals` locals of its own
abbrev pub HaveFewLocals : List Thread → Type 0
HaveFewLocals [] = ⊤
HaveFewLocals (t ∷ ts) = (length t.locals ≤ most_locals) × HaveFewLocals ts

-- the threads of a text stay within the limits
pub threads_few : (d : Declared) (c : Counts) (before : List (List ℕ)) (ts : List Thread) (w : List Item)
    → NoneBroken d c (thread_items before ts w) → IsFew c
    → IsFew (threads_after d c before ts) × HaveFewLocals ts
threads_few d c before [] w h f = (f, tt)
threads_few d c before (t ∷ ts) w h f =
    let rest = thread_items (before ++ t.name ∷ []) ts w in
    let body = block_items t.locals (InThread false 1) t.body rest in
    let item = AThread t.name before in
    let e = after d c item in
    let g = declared_after e t.locals in
    let at_locals = next_none d c item (local_items [] t.locals body) h in
    let at_block = locals_walked d e [] t.locals body at_locals in
    let x = block_few d t.locals false 1 g t.body rest at_block (declared_keep e t.locals (item_keeps c f)) in
    let y = threads_few d (thread_after d c before t) (before ++ t.name ∷ []) ts w
    (block_walked d t.locals (InThread false 1) g t.body rest at_block).1 x in
    (y.0, (omega (arith, locals_few d e [] t.locals body at_locals (omega arith)), y.1))

globals_few : (d : Declared) (c : Counts) (before : List (List ℕ)) (gs : List GlobalObject) (w : List Item)
    → NoneBroken d c (global_items before gs w) → length before ≤ most_globals
    → length before + length gs ≤ most_globals
globals_few d =
    named_few most_globals (λ g before. AGlobal g.of g.name before) (λ g. g.name) global_items d (λ before g gs w. refl)
    (λ c before g. refl)

-- the counts at the end of a typed text, and the locals of its threads
pub typed_few : (t : TreeView) → IsTyped t → IsFew (end_of t) × HaveFewLocals t.threads
typed_few t h =
    let d = declared_in t in
    let of_threads = thread_items [] t.threads [] in
    let of_procedures = procedure_items 0 [] t.procedures of_threads in
    let at_globals = records_walked d none_yet [] t.records (global_items [] t.globals of_procedures) h in
    let c = records_after d none_yet [] t.records in
    let at_procedures = globals_walked d c [] t.globals of_procedures at_globals in
    let at_threads = (procedures_walked d (before_procedures t) 0 [] t.procedures of_threads at_procedures).1 in
    let few = globals_few d c [] t.globals of_procedures at_globals (omega arith) in
    let x = before_add t in
    threads_few d (before_threads t) [] t.threads [] at_threads
    (record {
      few_statements = omega (arith, x.statements_add);
      few_sites = omega (arith, x.sites_add, few);
      few_sections = omega (arith, x.sections_add);
      few_calls = omega (arith, x.calls_add);
    })

-- the expanded texts of a typed text are within the limits
pub record AreWithinLimits (t : TreeView) : Type 0 where
  pub statements_within : total_statements (written_texts t) ≤ most_statements
  pub sites_within : length t.globals + length (all_made (written_texts t)) ≤ most_sites
  pub sections_within : length (sections_of (written_texts t)) ≤ most_sections

pub typed_within : (t : TreeView) → IsTyped t → AreWithinLimits t
typed_within t h =
    let c = typed_counts t h in
    let f = (typed_few t h).0 in
    record {
      statements_within = omega (arith, c.statements_are, f.few_statements);
      sites_within = omega (arith, c.sites_are, f.few_sites);
      sections_within = omega (arith, c.sections_are, f.few_sections);
    }

calls_are : (d : Declared) (hs : List Thread) → d.table ≡ sums d.procedures
    → calls_met d.procedures hs ≡ (thread_sums d hs).calls
calls_are d [] e = refl
calls_are d (h ∷ hs) e =
    omega (arith, calls_are d hs e, ap (λ u. (block_sums d.procedures u h.body).calls) e)

-- the calls that are met in expanding them too
pub typed_calls : (t : TreeView) → IsTyped t → calls_met t.procedures t.threads ≤ most_calls
typed_calls t h =
    let x = threads_add (declared_in t) (before_threads t) [] t.threads in
    let y = before_add t in
    omega (arith, x.calls_add, y.calls_add, (typed_few t h).0.few_calls, calls_are (declared_in t) t.threads refl)

-- each fresh local takes a statement, where calls do so
abbrev TakesStatements : List Sums → Type 0
TakesStatements table = (q : Option ℕ) → (sums_at table q).fresh ≤ (sums_at table q).statements

primitive_takes : (p : leaf.Primitive) → (primitive_sums p).fresh ≤ (primitive_sums p).statements
primitive_takes (primitive.Assign x v) = omega arith
primitive_takes (primitive.Compute x v o w) = omega arith
primitive_takes (primitive.New x r) = omega arith
primitive_takes (primitive.Load x y f) = omega arith
primitive_takes (primitive.Store y f v) = omega arith
primitive_takes (primitive.Print v) = omega arith

mutual
  statement_takes : (ps : List Procedure) (table : List Sums) → TakesStatements table → (s : StatementView)
      → (statement_sums ps table s).fresh ≤ (statement_sums ps table s).statements
  statement_takes ps table h (Primitive p) = primitive_takes p
  statement_takes ps table h (If t a) = omega (arith, block_takes ps table h a)
  statement_takes ps table h (IfElse t a b) = omega (arith, block_takes ps table h a, block_takes ps table h b)
  statement_takes ps table h (While t a) = omega (arith, block_takes ps table h a)
  statement_takes ps table h (Atomic lock a) = omega (arith, block_takes ps table h a)
  statement_takes ps table h (Call f vs) = h (number_of ps f)

  pub block_takes : (ps : List Procedure) (table : List Sums) → TakesStatements table → (b : BlockView)
      → (block_sums ps table b).fresh ≤ (block_sums ps table b).statements
  block_takes ps table h End = omega arith
  block_takes ps table h (Then s b) = omega (arith, statement_takes ps table h s, block_takes ps table h b)

call_takes : (ps : List Procedure) (table : List Sums) → TakesStatements table → (o : Option Procedure)
    → (sums_of ps table o).fresh ≤ (sums_of ps table o).statements
call_takes ps table h None = omega arith
call_takes ps table h (Some p) = omega (arith, block_takes ps table h p.body)

pub calls_take : (n : ℕ) (ps : List Procedure) → TakesStatements (sums_within n ps)
calls_take zero ps None = omega arith
calls_take zero ps (Some q) = omega arith
calls_take (suc n) ps q =
    subst (λ (s : Sums). s.fresh ≤ s.statements) (sym (looked ps (sums_within n ps) q))
    (call_takes ps (sums_within n ps) (calls_take n ps) (procedure_numbered ps q))

-- each expanded thread has at most `most_all_locals` locals
abbrev pub AreFewTypes : List (List ValueType) → Type 0
AreFewTypes [] = ⊤
AreFewTypes (ls ∷ more) = (length ls ≤ most_all_locals) × AreFewTypes more

types_few : (t : TreeView) (hs : List Thread) → HaveFewLocals hs
    → (thread_sums (declared_in t) hs).statements ≤ most_statements
    → AreFewTypes (map (local_types_of t) hs)
types_few t [] f s = tt
types_few t (h ∷ hs) f s =
    let names = names_of_records t.records in
    let n = length t.procedures in
    let g : Fresh → ValueType = λ x. type_of names x.declared.kind in (
      omega (
        arith,
        f.0,
        s,
        length-append (types_of names h.locals) (map g (fresh_in t h)),
        length-map {B = ValueType} h.locals (λ (x : Declaration). type_of names x.kind),
        length-map {B = ValueType} (fresh_in t h) g,
        thread_freshens t h,
        block_takes t.procedures (sums t.procedures) (calls_take n t.procedures) h.body,
      ),
      types_few t hs f.1 (omega (arith, s)),
    )

-- so in a typed text
pub typed_few_types : (t : TreeView) → IsTyped t → AreFewTypes (map (local_types_of t) t.threads)
typed_few_types t h =
    let f = typed_few t h in
    let x = before_add t in
    let y = threads_add (declared_in t) (before_threads t) [] t.threads in
    types_few t t.threads f.1 (omega (arith, f.0.few_statements, x.statements_add, y.statements_add))

-- What the sums say of the expansion.
use Rattle.std.proofs.Common.{◌≡◌, ℕ, zero, suc, ◌+◌, List, [], ◌∷◌, Option, Some, None, refl, sym, ◌∙◌, ap, arith, map}
use Rattle.std.proofs.{Common.{length, slice_get}, lemmas.List.{length-append}}
use Rattle.sect_front.specs.{declared.tree.Operand.{Operand}, declared.tree.Declaration.{Declaration}}
use Rattle.sect_front.specs.{declared.tree.Record.{Record}, declared.tree.GlobalObject.{GlobalObject}}
use Rattle.sect_front.specs.Syntax.{StatementView, Primitive, If, IfElse, While, Atomic, Call, BlockView, End, Then}
use Rattle.sect_front.specs.{declared.tree.Procedure.{Procedure}, declared.tree.Thread.{Thread}, TreeView.{TreeView}}
use Rattle.sect_types.specs.Statements.{TextView, Stop, Do, Choose, Loop, Section, joined, statement_count}
use Rattle.sect_types.specs.{Rules.{sight}, Items.{variables}, declared.counting.sums.Sums.{Sums}}
use Rattle.sect_types.specs.Sums.{nothing, sums, sums_at, or_nothing, sums_within, procedure_sums, statement_sums}
use Rattle.sect_types.specs.Sums.{block_sums, primitive_sums, number_of, sums_of}
use Rattle.sect_types.specs.Expanded.{Scene, NextNumbers, Freshens, of_call, past_statement, past_block}
use Rattle.sect_types.specs.Expanded.{procedure_numbered, after_call, statement_fresh, block_fresh, fresh_of}
use Rattle.sect_types.specs.Expanded.{fresh_within, fresh_in}
use Rattle.sect_types.specs.steps.Written.{Writer, written_statement, written_block, written_within, written_call}
use Rattle.sect_types.specs.steps.Written.{write_parameters, write_locals, written_thread}
use Rattle.sect_front.specs.declared.tree.Primitive as leaf
use Rattle.sect_front.specs.declared.tree.Primitive.TheVariants as primitive

-- a primitive statement is one statement, with a site at most, and nothing else
pub primitive_comes : (p : leaf.Primitive)
    → primitive_sums p ≡ record nothing { statements = 1; sites = (primitive_sums p).sites }
primitive_comes (primitive.Assign x v) = refl
primitive_comes (primitive.Compute x v o w) = refl
primitive_comes (primitive.New x r) = refl
primitive_comes (primitive.Load x y f) = refl
primitive_comes (primitive.Store y f v) = refl
primitive_comes (primitive.Print v) = refl

joined_count : (a k : TextView) → statement_count (joined a k) ≡ statement_count a + statement_count k
joined_count Stop k = omega arith
joined_count (Do a r) k = omega (arith, joined_count r k)
joined_count (Choose t p q r) k = omega (arith, joined_count r k)
joined_count (Loop t p r) k = omega (arith, joined_count r k)
joined_count (Section i p r) k = omega (arith, joined_count r k)

-- each call comes to what the table says
abbrev CountsCalls : List Sums → Writer → Type 0
CountsCalls table call = (q : Option ℕ) (v : Scene) (a : NextNumbers) (vs : List Operand) (k : TextView) →
    statement_count (call q v a vs k) ≡ (sums_at table q).statements + statement_count k

mutual
  statement_comes : (ps : List Procedure) (table : List Sums) (call : Writer) → CountsCalls table call
      → (v : Scene) (a : NextNumbers) (s : StatementView) (k : TextView) →
      statement_count (written_statement ps table call v a s k) ≡ (statement_sums ps table s).statements +
      statement_count k
  statement_comes ps table call h v a (Primitive p) k =
      omega (arith, ap (λ (s : Sums). s.statements) (primitive_comes p))
  statement_comes ps table call h v a (If t b) k = omega (arith, block_count ps table call h v a b)
  statement_comes ps table call h v a (IfElse t b c) k =
      omega (arith, block_count ps table call h v a b, block_count ps table call h v (past_block ps table a b) c)
  statement_comes ps table call h v a (While t b) k = omega (arith, block_count ps table call h v a b)
  statement_comes ps table call h v a (Atomic lock b) k =
      omega (arith, block_count ps table call h v (record a { sections = a.sections + 1 }) b)
  statement_comes ps table call h v a (Call f vs) k = h (number_of ps f) v a vs k

  pub block_count : (ps : List Procedure) (table : List Sums) (call : Writer) → CountsCalls table call
      → (v : Scene) (a : NextNumbers) (b : BlockView) →
      statement_count (written_block ps table call v a b) ≡ (block_sums ps table b).statements
  block_count ps table call h v a End = refl
  block_count ps table call h v a (Then s b) =
      omega (
        arith,
        statement_comes ps table call h v a s (written_block ps table call v (past_statement ps table a s) b),
        block_count ps table call h v (past_statement ps table a s) b,
      )

cleared_count : (x : ℕ) (ds : List Declaration) (k : TextView)
    → statement_count (write_locals x ds k) ≡ length ds + statement_count k
cleared_count x [] k = omega arith
cleared_count x (d ∷ ds) k = omega (arith, cleared_count (x + 1) ds k)

set_count : (v : Scene) (x : ℕ) (ds : List Declaration) (vs : List Operand) (k : TextView)
    → statement_count (write_parameters v x ds vs k) ≡ length ds + statement_count k
set_count v x [] vs k = omega arith
set_count v x (d ∷ ds) [] k = omega (arith, set_count v (x + 1) ds [] k)
set_count v x (d ∷ ds) (u ∷ us) k = omega (arith, set_count v (x + 1) ds us k)

mapped : (ps qs : List Procedure) (table : List Sums) (q : ℕ)
    → or_nothing (slice_get (map (procedure_sums ps table) qs) q) ≡ sums_of ps table (slice_get qs q)
mapped ps [] table q = refl
mapped ps (p ∷ qs) table zero = refl
mapped ps (p ∷ qs) table (suc q) = mapped ps qs table q

-- the table says what one more call deep comes to
pub looked : (ps : List Procedure) (table : List Sums) (q : Option ℕ)
    → sums_at (map (procedure_sums ps table) ps) q ≡ sums_of ps table (procedure_numbered ps q)
looked ps table None = refl
looked ps table (Some q) = mapped ps ps table q

call_count : (rs : List Record) (gs : List GlobalObject) (ps : List Procedure) (table : List Sums) (call : Writer)
    → CountsCalls table call →
    (o : Option Procedure) (q : Option ℕ) (v : Scene) (a : NextNumbers) (vs : List Operand) (k : TextView) →
    statement_count (written_call rs gs ps table call o q v a vs k) ≡ (sums_of ps table o).statements +
    statement_count k
call_count rs gs ps table call h None q v a vs k = omega arith
call_count rs gs ps table call h (Some p) q v a vs k =
    let inner : Scene = record { sight = sight rs gs (variables p); first = a.fresh } in
    let text = written_block ps table call inner (after_call a p) p.body in
    omega (
      arith,
      set_count v a.fresh p.parameters vs (write_locals (a.fresh + length p.parameters) p.locals (joined text k)),
      cleared_count (a.fresh + length p.parameters) p.locals (joined text k),
      joined_count text k,
      block_count ps table call h inner (after_call a p) p.body,
    )

-- the expansion of a call has as many statements as the sums say
pub call_counts : (n : ℕ) (rs : List Record) (gs : List GlobalObject) (ps : List Procedure)
    → CountsCalls (sums_within n ps) (written_within n rs gs ps)
call_counts zero rs gs ps None v a vs k = omega arith
call_counts zero rs gs ps (Some q) v a vs k = omega arith
call_counts (suc n) rs gs ps q v a vs k =
    call_count rs gs ps (sums_within n ps) (written_within n rs gs ps) (call_counts n rs gs ps)
    (procedure_numbered ps q) q v a vs k
    ∙ ap (λ (s : Sums). s.statements + statement_count k) (sym (looked ps (sums_within n ps) q))

-- the text of a thread has as many statements as the sums say
pub thread_counts : (t : TreeView) (a : NextNumbers) (h : Thread)
    → statement_count (written_thread t a h) ≡ (block_sums t.procedures (sums t.procedures) h.body).statements
thread_counts t a h =
    block_count t.procedures (sums t.procedures) (written_within (length t.procedures) t.records t.globals t.procedures)
    (call_counts (length t.procedures) t.records t.globals t.procedures) (record {
      sight =
          sight t.records t.globals h.locals;
      first = 0;
    })
    (record a { fresh = length h.locals }) h.body

-- each call has as many fresh locals as the table says
abbrev pub CountsFresh : List Sums → Freshens → Type 0
CountsFresh table call = (q : Option ℕ) (c : ℕ) → length (call q c) ≡ (sums_at table q).fresh

mutual
  pub statement_freshens : (ps : List Procedure) (table : List Sums) (call : Freshens) → CountsFresh table call
      → (c : ℕ) (s : StatementView) →
      length (statement_fresh ps table call c s) ≡ (statement_sums ps table s).fresh
  statement_freshens ps table call h c (Primitive p) = sym (ap (λ (x : Sums). x.fresh) (primitive_comes p))
  statement_freshens ps table call h c (If t a) = block_freshens ps table call h c a
  statement_freshens ps table call h c (IfElse t a b) =
      omega (
        arith,
        length-append (block_fresh ps table call c a) (block_fresh ps table call (c + (block_sums ps table a).calls) b),
        block_freshens ps table call h c a,
        block_freshens ps table call h (c + (block_sums ps table a).calls) b,
      )
  statement_freshens ps table call h c (While t a) = block_freshens ps table call h c a
  statement_freshens ps table call h c (Atomic lock a) = block_freshens ps table call h c a
  statement_freshens ps table call h c (Call f vs) = h (number_of ps f) c

  pub block_freshens : (ps : List Procedure) (table : List Sums) (call : Freshens) → CountsFresh table call
      → (c : ℕ) (b : BlockView) →
      length (block_fresh ps table call c b) ≡ (block_sums ps table b).fresh
  block_freshens ps table call h c End = refl
  block_freshens ps table call h c (Then s b) =
      omega (
        arith,
        length-append (statement_fresh ps table call c s)
            (block_fresh ps table call (c + (statement_sums ps table s).calls) b),
        statement_freshens ps table call h c s,
        block_freshens ps table call h (c + (statement_sums ps table s).calls) b,
      )

pub of_call_long : (c : ℕ) (ds : List Declaration) → length (of_call c ds) ≡ length ds
of_call_long c [] = refl
of_call_long c (d ∷ ds) = omega (arith, of_call_long c ds)

call_freshen : (ps : List Procedure) (table : List Sums) (call : Freshens) → CountsFresh table call
    → (o : Option Procedure) (c : ℕ) →
    length (fresh_of ps table call o c) ≡ (sums_of ps table o).fresh
call_freshen ps table call h None c = refl
call_freshen ps table call h (Some p) c =
    omega (
      arith,
      length-append (of_call c (variables p)) (block_fresh ps table call (c + 1) p.body),
      of_call_long c (variables p),
      length-append p.parameters p.locals,
      block_freshens ps table call h (c + 1) p.body,
    )

pub call_freshens : (n : ℕ) (ps : List Procedure) → CountsFresh (sums_within n ps) (fresh_within n ps)
call_freshens zero ps None c = refl
call_freshens zero ps (Some q) c = refl
call_freshens (suc n) ps q c =
    call_freshen ps (sums_within n ps) (fresh_within n ps) (call_freshens n ps) (procedure_numbered ps q) c
    ∙ ap (λ (s : Sums). s.fresh) (sym (looked ps (sums_within n ps) q))

-- a thread has as many fresh locals as the sums say
pub thread_freshens : (t : TreeView) (h : Thread)
    → length (fresh_in t h) ≡ (block_sums t.procedures (sums t.procedures) h.body).fresh
thread_freshens t h =
    block_freshens t.procedures (sums t.procedures) (fresh_within (length t.procedures) t.procedures)
    (call_freshens (length t.procedures) t.procedures) 0 h.body

-- The sites of the expansion.
use Rattle.std.specs.Prelude.{false}
use Rattle.std.proofs.Common.{◌≡◌, ℕ, zero, suc, ◌+◌, List, [], ◌∷◌, ◌++◌, Option, Some, None, refl, sym, ◌∙◌, ap}
use Rattle.std.proofs.Common.{arith, subst, length, slice_get, length-append, append_assoc}
use Rattle.sect_front.specs.{declared.tree.Operand.{Operand}, declared.tree.Declaration.{Declaration}}
use Rattle.sect_front.specs.Syntax.{StatementView, Primitive, If, IfElse, While, Atomic, Call, BlockView, End, Then}
use Rattle.sect_front.specs.{declared.tree.Procedure.{Procedure}, declared.tree.Thread.{Thread}, TreeView.{TreeView}}
use Rattle.sect_types.specs.Statements.{TextView, Stop, Do, Choose, Loop, Section, joined, made_by, made_in}
use Rattle.sect_types.specs.{Sections.{AreSited, AllSited}, declared.rules.place.Place.{Place}}
use Rattle.sect_types.specs.declared.rules.place.Place.TheVariants.{InThread, InProcedure}
use Rattle.sect_types.specs.Items.{deeper, in_section, AStatement, PrimitiveHead, variables}
use Rattle.sect_types.specs.declared.counting.sums.Sums.{Sums}
use Rattle.sect_types.specs.Sums.{sums, sums_at, sums_within, statement_sums, block_sums, primitive_sums, number_of}
use Rattle.sect_types.specs.{Sums.{sums_of}, Rules.{Declared, seen, declared_in}, First.{IsTyped}}
use Rattle.sect_types.specs.Expanded.{Scene, NextNumbers, past_statement, past_block, after_call, procedure_numbered}
use Rattle.sect_types.specs.Expanded.{past_thread}
use Rattle.sect_types.specs.steps.Clean.{IsClean, IsCleanStatement, IsCleanBlock, AreCleanProcedures, AreCleanThreads}
use Rattle.sect_types.specs.steps.Written.{Writer, written_action, written_statement, written_block, write_parameters}
use Rattle.sect_types.specs.steps.Written.{write_locals, written_call, written_within, written_thread, written_threads}
use Rattle.sect_types.specs.steps.Written.{written_texts}
use Rattle.sect_types.proofs.{CountLaws.{looked}, Walked.{text_clean}, Resolved.{resolved, moved_made, moved_site}}
use Rattle.sect_front.specs.declared.tree.Primitive as leaf

-- what the statements of a body with these variables see, where the first of these has that number
abbrev pub view : Declared → List Declaration → ℕ → Scene
view d ls n = record { sight = seen d ls; first = n }

-- the bodies of all procedures are clean
abbrev pub AreClean : Declared → List Procedure → Type 0
AreClean d ps = (q : ℕ) (p : Procedure) → slice_get ps q ≡ Some p → IsCleanBlock d (variables p) (InProcedure q) p.body

clean_from : (d : Declared) (i : ℕ) (ps : List Procedure) (q : ℕ) (p : Procedure) → AreCleanProcedures d i ps
    → slice_get ps q ≡ Some p → IsCleanBlock d (variables p) (InProcedure (i + q)) p.body
clean_from d i [] q p h e = absurd (cc)
clean_from d i (x ∷ ps) zero p h e =
    let same : x ≡ p = cc in
    subst (λ n. IsCleanBlock d (variables p) (InProcedure n) p.body) (omega arith)
    (subst (λ y. IsCleanBlock d (variables y) (InProcedure i) y.body) same h.0)
clean_from d i (x ∷ ps) (suc q) p h e =
    subst (λ n. IsCleanBlock d (variables p) (InProcedure n) p.body) (omega arith) (clean_from d (i + 1) ps q p h.1 e)

-- those of a typed text are
pub typed_clean : (t : TreeView) → IsTyped t → AreClean (declared_in t) t.procedures
typed_clean t h q p e =
    subst (λ n. IsCleanBlock (declared_in t) (variables p) (InProcedure n) p.body) (omega arith)
    (clean_from (declared_in t) 0 t.procedures q p (text_clean t h).0 e)

-- the body of a procedure that is called
pub called_clean : (d : Declared) (ps : List Procedure) → AreClean d ps → (q : Option ℕ) (p : Procedure)
    → procedure_numbered ps q ≡ Some p → (i : ℕ) × IsCleanBlock d (variables p) (InProcedure i) p.body
called_clean d ps h None p e = absurd (cc)
called_clean d ps h (Some q) p e = (q, h q p e)

joined_made : (a k : TextView) → made_in (joined a k) ≡ made_in a ++ made_in k
joined_made Stop k = refl
joined_made (Do a r) k = ap (λ l. made_by a ++ l) (joined_made r k)
    ∙ sym (append_assoc (made_by a) (made_in r) (made_in k))
joined_made (Choose t p q r) k =
    ap (λ l. made_in p ++ (made_in q ++ l)) (joined_made r k)
    ∙ ap (λ l. made_in p ++ l) (sym (append_assoc (made_in q) (made_in r) (made_in k)))
    ∙ sym (append_assoc (made_in p) (made_in q ++ made_in r) (made_in k))
joined_made (Loop t p r) k =
    ap (λ l. made_in p ++ l) (joined_made r k) ∙ sym (append_assoc (made_in p) (made_in r) (made_in k))
joined_made (Section i p r) k =
    ap (λ l. made_in p ++ l) (joined_made r k) ∙ sym (append_assoc (made_in p) (made_in r) (made_in k))

-- sites behind one another
pub joined_sites : (a k : TextView) → length (made_in (joined a k)) ≡ length (made_in a) + length (made_in k)
joined_sites a k = ap length (joined_made a k) ∙ length-append (made_in a) (made_in k)

-- each call makes what the table says
abbrev pub MakesCalls : List Sums → Writer → Type 0
MakesCalls table call = (q : Option ℕ) (v : Scene) (a : NextNumbers) (vs : List Operand) (k : TextView)
    → length (made_in (call q v a vs k)) ≡ (sums_at table q).sites + length (made_in k)

action_makes : (d : Declared) (ls : List Declaration) (at : Place) (n : ℕ) (a : NextNumbers) (p : leaf.Primitive)
    → IsClean d (AStatement (PrimitiveHead p) ls at)
    → length (made_by (written_action (view d ls n) a p)) ≡ (primitive_sums p).sites
action_makes d ls at n a p h = ap length (moved_made n _) ∙ (resolved d ls at a.sites p h).makes

-- a clean body has as many sites as its sums say
mutual
  pub statement_makes : (d : Declared) (ps : List Procedure) (table : List Sums) (call : Writer)
      → MakesCalls table call
      → (ls : List Declaration) (at : Place) (n : ℕ) (a : NextNumbers) (s : StatementView) (k : TextView)
      → IsCleanStatement d ls at s
      → length (made_in (written_statement ps table call (view d ls n) a s k))
      ≡ (statement_sums ps table s).sites + length (made_in k)
  statement_makes d ps table call m ls at n a (Primitive p) k h =
      omega (
        arith,
        length-append (made_by (written_action (view d ls n) a p)) (made_in k),
        action_makes d ls
            at n a p h,
      )
  statement_makes d ps table call m ls at n a (If t b) k h =
      let x = written_block ps table call (view d ls n) a b in
      omega (arith, length-append (made_in x) (made_in k), block_makes d ps table call m ls (deeper at) n a b h.1)
  statement_makes d ps table call m ls at n a (IfElse t b c) k h =
      let x = written_block ps table call (view d ls n) a b in
      let y = written_block ps table call (view d ls n) (past_block ps table a b) c in
      omega (
        arith,
        length-append (made_in x) (made_in y ++ made_in k),
        length-append (made_in y) (made_in k),
        block_makes d ps table call m ls (deeper at) n a b h.1,
        block_makes d ps table call m ls (deeper at) n (past_block ps table a b) c h.2,
      )
  statement_makes d ps table call m ls at n a (While t b) k h =
      let x = written_block ps table call (view d ls n) a b in
      omega (arith, length-append (made_in x) (made_in k), block_makes d ps table call m ls (deeper at) n a b h.1)
  statement_makes d ps table call m ls at n a (Atomic lock b) k h =
      let c : NextNumbers = record a { sections = a.sections + 1 } in
      let x = written_block ps table call (view d ls n) c b in
      omega (arith, length-append (made_in x) (made_in k), block_makes d ps table call m ls (in_section at) n c b h.1)
  statement_makes d ps table call m ls at n a (Call f vs) k h = m (number_of ps f) (view d ls n) a vs k

  pub block_makes : (d : Declared) (ps : List Procedure) (table : List Sums) (call : Writer) → MakesCalls table call
      → (ls : List Declaration) (at : Place) (n : ℕ) (a : NextNumbers) (b : BlockView) → IsCleanBlock d ls at b
      → length (made_in (written_block ps table call (view d ls n) a b)) ≡ (block_sums ps table b).sites
  block_makes d ps table call m ls at n a End h = refl
  block_makes d ps table call m ls at n a (Then s b) h =
      let c = past_statement ps table a s in
      omega (
        arith,
        statement_makes d ps table call m ls at n a s (written_block ps table call (view d ls n) c b) h.0,
        block_makes d ps table call m ls at n c b h.1,
      )

set_made : (v : Scene) (x : ℕ) (ds : List Declaration) (vs : List Operand) (k : TextView)
    → made_in (write_parameters v x ds vs k) ≡ made_in k
set_made v x [] vs k = refl
set_made v x (d ∷ ds) [] k = set_made v (x + 1) ds [] k
set_made v x (d ∷ ds) (u ∷ us) k = set_made v (x + 1) ds us k

cleared_made : (x : ℕ) (ds : List Declaration) (k : TextView) → made_in (write_locals x ds k) ≡ made_in k
cleared_made x [] k = refl
cleared_made x (d ∷ ds) k = cleared_made (x + 1) ds k

call_makes : (d : Declared) (ps : List Procedure) → AreClean d ps → (table : List Sums) (call : Writer)
    → MakesCalls table call
    → (o : Option Procedure) (q : Option ℕ) → procedure_numbered ps q ≡ o
    → (r : Option ℕ) (v : Scene) (a : NextNumbers) (vs : List Operand) (k : TextView)
    → length (made_in (written_call d.records d.globals ps table call o r v a vs k))
    ≡ (sums_of ps table o).sites + length (made_in k)
call_makes d ps c table call m None q e r v a vs k = omega arith
call_makes d ps c table call m (Some p) q e r v a vs k =
    let text = written_block ps table call (view d (variables p) a.fresh) (after_call a p) p.body in
    let clean = called_clean d ps c q p e in
    let rest = write_locals (a.fresh + length p.parameters) p.locals (joined text k) in
    omega (
      arith,
      ap length (set_made v a.fresh p.parameters vs rest),
      ap length (cleared_made (a.fresh + length p.parameters) p.locals (joined text k)),
      joined_sites text k,
      block_makes d ps table call m (variables p) (InProcedure clean.0) a.fresh (after_call a p) p.body clean.1,
    )

-- the expansion of a call has as many sites as the sums say
pub calls_make : (n : ℕ) (d : Declared) (ps : List Procedure) → AreClean d ps
    → MakesCalls (sums_within n ps) (written_within n d.records d.globals ps)
calls_make zero d ps c None v a vs k = omega arith
calls_make zero d ps c (Some q) v a vs k = omega arith
calls_make (suc n) d ps c q v a vs k =
    call_makes d ps c (sums_within n ps) (written_within n d.records d.globals ps) (calls_make n d ps c)
    (procedure_numbered ps q) q refl q v a vs k
    ∙ ap (λ (s : Sums). s.sites + length (made_in k)) (sym (looked ps (sums_within n ps) q))

joined_sited : (n : ℕ) (a k : TextView) → AreSited n a → AreSited (n + length (made_in a)) k → AreSited n (joined a k)
joined_sited n Stop k h g = subst (λ m. AreSited m k) (omega arith) g
joined_sited n (Do a r) k h g = (
  h.0,
  joined_sited (n + length (made_by a)) r k h.1
      (subst (λ m. AreSited m k) (omega (arith, length-append (made_by a) (made_in r))) g),
)
joined_sited n (Choose t p q r) k h g = (
  h.0,
  h.1,
  joined_sited (n + length (made_in p) + length (made_in q)) r k h.2
      (subst (λ m. AreSited m k)
      (omega (arith, length-append (made_in p) (made_in q ++ made_in r), length-append (made_in q) (made_in r))) g),
)
joined_sited n (Loop t p r) k h g = (
  h.0,
  joined_sited (n + length (made_in p)) r k h.1
      (subst (λ m. AreSited m k) (omega (arith, length-append (made_in p) (made_in r))) g),
)
joined_sited n (Section i p r) k h g = (
  h.0,
  joined_sited (n + length (made_in p)) r k h.1
      (subst (λ m. AreSited m k) (omega (arith, length-append (made_in p) (made_in r))) g),
)

-- the sites of each call are those from the next one on
abbrev pub SitesCalls : List Sums → Writer → Type 0
SitesCalls table call = (q : Option ℕ) (v : Scene) (a : NextNumbers) (vs : List Operand) (k : TextView)
    → AreSited (a.sites + (sums_at table q).sites) k → AreSited a.sites (call q v a vs k)

-- the sites of a clean body are those from the next one on, in text order
mutual
  pub statement_sites : (d : Declared) (ps : List Procedure) (table : List Sums) (call : Writer)
      → MakesCalls table call
      → SitesCalls table call → (ls : List Declaration) (at : Place) (n : ℕ) (a : NextNumbers) (s : StatementView)
      (k : TextView)
      → IsCleanStatement d ls at s → AreSited (a.sites + (statement_sums ps table s).sites) k
      → AreSited a.sites (written_statement ps table call (view d ls n) a s k)
  statement_sites d ps table call m f ls at n a (Primitive p) k h g = (
    moved_site n a.sites _ (resolved d ls at a.sites p h).sited,
    subst (λ i. AreSited (a.sites + i) k) (sym (action_makes d ls at n a p h)) g,
  )
  statement_sites d ps table call m f ls at n a (If t b) k h g = (
    block_sites d ps table call m f ls (deeper at) n a b h.1,
    tt,
    subst (λ i. AreSited i k) (omega (arith, block_makes d ps table call m ls (deeper at) n a b h.1)) g,
  )
  statement_sites d ps table call m f ls at n a (IfElse t b c) k h g =
      let e = past_block ps table a b in
      let x = block_makes d ps table call m ls (deeper at) n a b h.1 in
      let y = block_makes d ps table call m ls (deeper at) n e c h.2 in (
        block_sites d ps table call m f ls (deeper at) n a b h.1,
        subst (λ i. AreSited i (written_block ps table call (view d ls n) e c)) (omega (arith, x))
            (block_sites d ps table call m f ls (deeper at) n e c h.2),
        subst (λ i. AreSited i k) (omega (arith, x, y)) g,
      )
  statement_sites d ps table call m f ls at n a (While t b) k h g = (
    block_sites d ps table call m f ls (deeper at) n a b h.1,
    subst (λ i. AreSited (a.sites + i) k) (sym (block_makes d ps table call m ls (deeper at) n a b h.1)) g,
  )
  statement_sites d ps table call m f ls at n a (Atomic lock b) k h g =
      let c : NextNumbers = record a { sections = a.sections + 1 } in (
        block_sites d ps table call m f ls (in_section at) n c b h.1,
        subst (λ i. AreSited (a.sites + i) k) (sym (block_makes d ps table call m ls (in_section at) n c b h.1)) g,
      )
  statement_sites d ps table call m f ls at n a (Call x vs) k h g = f (number_of ps x) (view d ls n) a vs k g

  pub block_sites : (d : Declared) (ps : List Procedure) (table : List Sums) (call : Writer) → MakesCalls table call
      → SitesCalls table call → (ls : List Declaration) (at : Place) (n : ℕ) (a : NextNumbers) (b : BlockView)
      → IsCleanBlock d ls at b
      → AreSited a.sites (written_block ps table call (view d ls n) a b)
  block_sites d ps table call m f ls at n a End h = tt
  block_sites d ps table call m f ls at n a (Then s b) h =
      let c = past_statement ps table a s in
      statement_sites d ps table call m f ls at n a s (written_block ps table call (view d ls n) c b) h.0
      (block_sites d ps table call m f ls at n c b h.1)

set_sited : (i : ℕ) (v : Scene) (x : ℕ) (ds : List Declaration) (vs : List Operand) (k : TextView) → AreSited i k
    → AreSited i (write_parameters v x ds vs k)
set_sited i v x [] vs k h = h
set_sited i v x (d ∷ ds) [] k h =
    (tt, subst (λ j. AreSited j (write_parameters v (x + 1) ds [] k)) (omega arith) (set_sited i v (x + 1) ds [] k h))
set_sited i v x (d ∷ ds) (u ∷ us) k h =
    (tt, subst (λ j. AreSited j (write_parameters v (x + 1) ds us k)) (omega arith) (set_sited i v (x + 1) ds us k h))

cleared_sited : (i x : ℕ) (ds : List Declaration) (k : TextView) → AreSited i k → AreSited i (write_locals x ds k)
cleared_sited i x [] k h = h
cleared_sited i x (d ∷ ds) k h =
    (tt, subst (λ j. AreSited j (write_locals (x + 1) ds k)) (omega arith) (cleared_sited i (x + 1) ds k h))

call_sites : (d : Declared) (ps : List Procedure) → AreClean d ps → (table : List Sums) (call : Writer)
    → MakesCalls table call → SitesCalls table call
    → (o : Option Procedure) (q : Option ℕ) → procedure_numbered ps q ≡ o
    → (r : Option ℕ) (v : Scene) (a : NextNumbers) (vs : List Operand) (k : TextView)
    → AreSited (a.sites + (sums_of ps table o).sites) k
    → AreSited a.sites (written_call d.records d.globals ps table call o r v a vs k)
call_sites d ps c table call m f None q e r v a vs k g = subst (λ i. AreSited i k) (omega arith) g
call_sites d ps c table call m f (Some p) q e r v a vs k g =
    let ls = variables p in
    let text = written_block ps table call (view d ls a.fresh) (after_call a p) p.body in
    let x = called_clean d ps c q p e in
    let makes = block_makes d ps table call m ls (InProcedure x.0) a.fresh (after_call a p) p.body x.1 in
    set_sited a.sites v a.fresh p.parameters vs _
    (cleared_sited a.sites (a.fresh + length p.parameters) p.locals (joined text k)
    (joined_sited a.sites text k (block_sites d ps table call m f ls (InProcedure x.0) a.fresh
    (after_call a p) p.body x.1)
    (subst (λ i. AreSited (a.sites + i) k) (sym makes) g)))

-- the sites of the expansion of a call are those from the next one on
pub calls_site : (n : ℕ) (d : Declared) (ps : List Procedure) → AreClean d ps
    → SitesCalls (sums_within n ps) (written_within n d.records d.globals ps)
calls_site zero d ps c None v a vs k g = subst (λ i. AreSited i k) (omega arith) g
calls_site zero d ps c (Some q) v a vs k g = subst (λ i. AreSited i k) (omega arith) g
calls_site (suc n) d ps c q v a vs k g =
    call_sites d ps c (sums_within n ps) (written_within n d.records d.globals ps) (calls_make n d ps c)
    (calls_site n d ps c)
    (procedure_numbered ps q) q refl q v a vs k
    (subst (λ (s : Sums). AreSited (a.sites + s.sites) k) (looked ps (sums_within n ps) q) g)

-- the text of a thread has as many sites as the sums say
pub thread_makes : (t : TreeView) → AreClean (declared_in t) t.procedures → (a : NextNumbers) (h : Thread)
    → IsCleanBlock (declared_in t) h.locals (InThread false 1) h.body
    → length (made_in (written_thread t a h)) ≡ (block_sums t.procedures (sums t.procedures) h.body).sites
thread_makes t c a h clean =
    let n = length t.procedures in
    block_makes (declared_in t) t.procedures (sums t.procedures) (written_within n t.records t.globals t.procedures)
    (calls_make n (declared_in t) t.procedures c) h.locals (InThread false 1) 0 (record a {
      fresh =
          length h.locals;
    }) h.body clean

-- and they are those from the next one on
pub thread_sites : (t : TreeView) → AreClean (declared_in t) t.procedures → (a : NextNumbers) (h : Thread)
    → IsCleanBlock (declared_in t) h.locals (InThread false 1) h.body → AreSited a.sites (written_thread t a h)
thread_sites t c a h clean =
    let n = length t.procedures in
    block_sites (declared_in t) t.procedures (sums t.procedures) (written_within n t.records t.globals t.procedures)
    (calls_make n (declared_in t) t.procedures c) (calls_site n (declared_in t) t.procedures c)
    h.locals (InThread false 1) 0 (record a { fresh = length h.locals }) h.body clean

pub threads_sites : (t : TreeView) → AreClean (declared_in t) t.procedures → (a : NextNumbers) (hs : List Thread)
    → AreCleanThreads (declared_in t) hs → AllSited a.sites (written_threads t a hs)
threads_sites t c a [] g = tt
threads_sites t c a (h ∷ hs) g = (
  thread_sites t c a h g.0,
  subst (λ i. AllSited (a.sites + i) (written_threads t (past_thread t a h) hs)) (sym (thread_makes t c a h g.0))
      (threads_sites t c (past_thread t a h) hs g.1),
)

-- the sites of a typed text are numbered behind its globals
pub typed_sites : (t : TreeView) → IsTyped t → AllSited (length t.globals) (written_texts t)
typed_sites t h =
    threads_sites t (typed_clean t h) (record {
      sites = length t.globals;
      sections = 0;
      fresh =
          0;
    }) t.threads (text_clean t h).1

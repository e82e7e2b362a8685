-- The sections of the expansion: an expanded call has none.
use Rattle.std.specs.Prelude.{true, false}
use Rattle.std.proofs.Common.{◌≡◌, ℕ, zero, suc, ◌+◌, List, [], ◌∷◌, ◌++◌, map, Option, Some, None, refl, sym, ◌∙◌, ap}
use Rattle.std.proofs.{Common.{arith, subst, length, length-append, append_assoc}, lemmas.List.{length-map}}
use Rattle.sect_front.specs.{declared.tree.Operand.{Operand}, declared.tree.Declaration.{Declaration}}
use Rattle.sect_front.specs.Syntax.{StatementView, Primitive, If, IfElse, While, Atomic, Call, BlockView, End, Then}
use Rattle.sect_front.specs.{declared.tree.Procedure.{Procedure}, declared.tree.Thread.{Thread}, TreeView.{TreeView}}
use Rattle.sect_types.specs.Statements.{TextView, Stop, Do, Choose, Loop, Section, joined, section_bodies}
use Rattle.sect_types.specs.Sections.{AreNumbered, AllNumbered, SectionView, sections_from, sections_of}
use Rattle.sect_types.specs.declared.rules.place.Place.{Place}
use Rattle.sect_types.specs.declared.rules.place.Place.TheVariants.{InThread, InProcedure}
use Rattle.sect_types.specs.{Items.{deeper, in_section, is_inside, variables}, declared.counting.sums.Sums.{Sums}}
use Rattle.sect_types.specs.{Sums.{sums, sums_within, number_of}, Rules.{Declared, declared_in}, First.{IsTyped}}
use Rattle.sect_types.specs.Expanded.{Scene, NextNumbers, past_statement, past_block, statement_sections}
use Rattle.sect_types.specs.Expanded.{block_sections, after_call, procedure_numbered, past_thread}
use Rattle.sect_types.specs.steps.Clean.{IsCleanStatement, IsCleanBlock, AreCleanThreads}
use Rattle.sect_types.specs.steps.Written.{Writer, written_statement, written_block, write_parameters, write_locals}
use Rattle.sect_types.specs.steps.Written.{written_call, written_within, written_thread, written_threads, written_texts}
use Rattle.sect_types.proofs.{Walked.{text_clean}, SiteLaws.{AreClean, called_clean, typed_clean, view}}

inside_deeper : (at : Place) → is_inside at ≡ true → is_inside (deeper at) ≡ true
inside_deeper (InThread inside depth) h = h
inside_deeper (InProcedure p) h = refl

-- what stands in a section stands inside
pub inside_section : (at : Place) → is_inside (in_section at) ≡ true
inside_section (InThread inside depth) = refl
inside_section (InProcedure p) = refl

-- a clean body in a section or in a procedure has no section
mutual
  pub statement_flat : (d : Declared) (ls : List Declaration) (at : Place) (s : StatementView) → is_inside at ≡ true
      → IsCleanStatement d ls at s → statement_sections s ≡ 0
  statement_flat d ls at (Primitive p) i h = refl
  statement_flat d ls at (If t b) i h = block_flat d ls (deeper at) b (inside_deeper at i) h.1
  statement_flat d ls at (IfElse t b c) i h =
      omega (
        arith,
        block_flat d ls (deeper at) b (inside_deeper at i) h.1,
        block_flat d ls (deeper at) c (inside_deeper at i) h.2,
      )
  statement_flat d ls at (While t b) i h = block_flat d ls (deeper at) b (inside_deeper at i) h.1
  statement_flat d ls at (Atomic lock b) i h = absurd (let off : true ≡ false = sym i ∙ h.0.flat in cc)
  statement_flat d ls at (Call f vs) i h = refl

  pub block_flat : (d : Declared) (ls : List Declaration) (at : Place) (b : BlockView) → is_inside at ≡ true
      → IsCleanBlock d ls at b → block_sections b ≡ 0
  block_flat d ls at End i h = refl
  block_flat d ls at (Then s b) i h = omega (arith, statement_flat d ls at s i h.0, block_flat d ls at b i h.1)

joined_bodies : (a k : TextView) → section_bodies (joined a k) ≡ section_bodies a ++ section_bodies k
joined_bodies Stop k = refl
joined_bodies (Do a r) k = joined_bodies r k
joined_bodies (Choose t p q r) k =
    let x = section_bodies p in
    let y = section_bodies q in
    ap (λ l. x ++ (y ++ l)) (joined_bodies r k)
    ∙ ap (λ l. x ++ l) (sym (append_assoc y (section_bodies r) (section_bodies k)))
    ∙ sym (append_assoc x (y ++ section_bodies r) (section_bodies k))
joined_bodies (Loop t p r) k =
    ap (λ l. section_bodies p ++ l) (joined_bodies r k)
    ∙ sym (append_assoc (section_bodies p) (section_bodies r) (section_bodies k))
joined_bodies (Section i p r) k = ap (λ l. p ∷ l) (joined_bodies r k)

-- sections behind one another
pub joined_sections : (a k : TextView)
    → length (section_bodies (joined a k)) ≡ length (section_bodies a) + length (section_bodies k)
joined_sections a k = ap length (joined_bodies a k) ∙ length-append (section_bodies a) (section_bodies k)

-- a call has none, and those behind it keep their numbers
abbrev pub CallsFlat : Writer → Type 0
CallsFlat call = (q : Option ℕ) (v : Scene) (a : NextNumbers) (vs : List Operand) (k : TextView)
    → length (section_bodies (call q v a vs k)) ≡ length (section_bodies k)

abbrev pub CallsKeep : Writer → Type 0
CallsKeep call = (q : Option ℕ) (v : Scene) (a : NextNumbers) (vs : List Operand) (k : TextView) (n : ℕ)
    → AreNumbered n k → AreNumbered n (call q v a vs k)

-- a body has as many sections as the tree says, where none stands in another
mutual
  pub statement_sectioned : (d : Declared) (ps : List Procedure) (table : List Sums) (call : Writer) → CallsFlat call
      → (ls : List Declaration) (at : Place) (v : Scene) (a : NextNumbers) (s : StatementView) (k : TextView)
      → IsCleanStatement d ls at s
      → length (section_bodies (written_statement ps table call v a s k)) ≡ statement_sections s + length
      (section_bodies k)
  statement_sectioned d ps table call f ls at v a (Primitive p) k h = omega arith
  statement_sectioned d ps table call f ls at v a (If t b) k h =
      let x = section_bodies (written_block ps table call v a b) in
      omega (arith, length-append x (section_bodies k), block_sectioned d ps table call f ls (deeper at) v a b h.1)
  statement_sectioned d ps table call f ls at v a (IfElse t b c) k h =
      let e = past_block ps table a b in
      let x = section_bodies (written_block ps table call v a b) in
      let y = section_bodies (written_block ps table call v e c) in
      let z = section_bodies k in
      omega (
        arith,
        length-append x (y ++ z),
        length-append y z,
        block_sectioned d ps table call f ls (deeper at) v a b h.1,
        block_sectioned d ps table call f ls (deeper at) v e c h.2,
      )
  statement_sectioned d ps table call f ls at v a (While t b) k h =
      let x = section_bodies (written_block ps table call v a b) in
      omega (arith, length-append x (section_bodies k), block_sectioned d ps table call f ls (deeper at) v a b h.1)
  statement_sectioned d ps table call f ls at v a (Atomic lock b) k h =
      omega (arith, block_flat d ls (in_section at) b (inside_section at) h.1)
  statement_sectioned d ps table call f ls at v a (Call x vs) k h = omega (arith, f (number_of ps x) v a vs k)

  pub block_sectioned : (d : Declared) (ps : List Procedure) (table : List Sums) (call : Writer) → CallsFlat call
      → (ls : List Declaration) (at : Place) (v : Scene) (a : NextNumbers) (b : BlockView) → IsCleanBlock d ls at b
      → length (section_bodies (written_block ps table call v a b)) ≡ block_sections b
  block_sectioned d ps table call f ls at v a End h = refl
  block_sectioned d ps table call f ls at v a (Then s b) h =
      let c = past_statement ps table a s in
      omega (
        arith,
        statement_sectioned d ps table call f ls at v a s (written_block ps table call v c b) h.0,
        block_sectioned d ps table call f ls at v c b h.1,
      )

-- the sections of a body are numbered from the next one on
mutual
  pub statement_numbers : (d : Declared) (ps : List Procedure) (table : List Sums) (call : Writer) → CallsFlat call
      → CallsKeep call → (ls : List Declaration) (at : Place) (v : Scene) (a : NextNumbers) (s : StatementView)
      (k : TextView)
      → IsCleanStatement d ls at s → AreNumbered (a.sections + statement_sections s) k
      → AreNumbered a.sections (written_statement ps table call v a s k)
  statement_numbers d ps table call f n ls at v a (Primitive p) k h g = subst (λ i. AreNumbered i k) (omega arith) g
  statement_numbers d ps table call f n ls at v a (If t b) k h g =
      let x = block_sectioned d ps table call f ls (deeper at) v a b h.1 in (
        block_numbers d ps table call f n ls (deeper at) v a b h.1,
        tt,
        subst (λ i. AreNumbered i k) (omega (arith, x)) g,
      )
  statement_numbers d ps table call f n ls at v a (IfElse t b c) k h g =
      let e = past_block ps table a b in
      let x = block_sectioned d ps table call f ls (deeper at) v a b h.1 in
      let y = block_sectioned d ps table call f ls (deeper at) v e c h.2 in (
        block_numbers d ps table call f n ls (deeper at) v a b h.1,
        subst (λ i. AreNumbered i (written_block ps table call v e c)) (omega (arith, x))
            (block_numbers d ps table call f n ls (deeper at) v e c h.2),
        subst (λ i. AreNumbered i k) (omega (arith, x, y)) g,
      )
  statement_numbers d ps table call f n ls at v a (While t b) k h g =
      let x = block_sectioned d ps table call f ls (deeper at) v a b h.1 in (
        block_numbers d ps table call f n ls (deeper at) v a b h.1,
        subst (λ i. AreNumbered (a.sections + i) k) (sym x) g,
      )
  statement_numbers d ps table call f n ls at v a (Atomic lock b) k h g =
      (refl, subst (λ i. AreNumbered i k) (omega (arith, block_flat d ls (in_section at) b (inside_section at) h.1)) g)
  statement_numbers d ps table call f n ls at v a (Call x vs) k h g =
      n (number_of ps x) v a vs k a.sections (subst (λ i. AreNumbered i k) (omega arith) g)

  pub block_numbers : (d : Declared) (ps : List Procedure) (table : List Sums) (call : Writer) → CallsFlat call
      → CallsKeep call → (ls : List Declaration) (at : Place) (v : Scene) (a : NextNumbers) (b : BlockView)
      → IsCleanBlock d ls at b
      → AreNumbered a.sections (written_block ps table call v a b)
  block_numbers d ps table call f n ls at v a End h = tt
  block_numbers d ps table call f n ls at v a (Then s b) h =
      let c = past_statement ps table a s in
      statement_numbers d ps table call f n ls at v a s (written_block ps table call v c b) h.0
      (block_numbers d ps table call f n ls at v c b h.1)

set_sections : (v : Scene) (x : ℕ) (ds : List Declaration) (vs : List Operand) (k : TextView)
    → section_bodies (write_parameters v x ds vs k) ≡ section_bodies k
set_sections v x [] vs k = refl
set_sections v x (d ∷ ds) [] k = set_sections v (x + 1) ds [] k
set_sections v x (d ∷ ds) (u ∷ us) k = set_sections v (x + 1) ds us k

cleared_sections : (x : ℕ) (ds : List Declaration) (k : TextView)
    → section_bodies (write_locals x ds k) ≡ section_bodies k
cleared_sections x [] k = refl
cleared_sections x (d ∷ ds) k = cleared_sections (x + 1) ds k

call_flat : (d : Declared) (ps : List Procedure) → AreClean d ps → (table : List Sums) (call : Writer)
    → CallsFlat call
    → (o : Option Procedure) (q : Option ℕ) → procedure_numbered ps q ≡ o
    → (r : Option ℕ) (v : Scene) (a : NextNumbers) (vs : List Operand) (k : TextView)
    → length (section_bodies (written_call d.records d.globals ps table call o r v a vs k)) ≡ length (section_bodies k)
call_flat d ps c table call f None q e r v a vs k = refl
call_flat d ps c table call f (Some p) q e r v a vs k =
    let inner = view d (variables p) a.fresh in
    let text = written_block ps table call inner (after_call a p) p.body in
    let x = called_clean d ps c q p e in
    let at = InProcedure x.0 in
    let rest = write_locals (a.fresh + length p.parameters) p.locals (joined text k) in
    omega (
      arith,
      ap length (set_sections v a.fresh p.parameters vs rest),
      ap length (cleared_sections (a.fresh + length p.parameters) p.locals (joined text k)),
      joined_sections text k,
      block_sectioned d ps table call f (variables p) at inner (after_call a p) p.body x.1,
      block_flat d (variables p) at p.body refl x.1,
    )

-- the expansion of a call has no section
pub calls_flat : (n : ℕ) (d : Declared) (ps : List Procedure) → AreClean d ps
    → CallsFlat (written_within n d.records d.globals ps)
calls_flat zero d ps c q v a vs k = refl
calls_flat (suc n) d ps c q v a vs k =
    call_flat d ps c (sums_within n ps) (written_within n d.records d.globals ps) (calls_flat n d ps c)
    (procedure_numbered ps q) q refl q v a vs k

-- so many sections numbered on any way
joined_numbers : (n : ℕ) (a k : TextView) → AreNumbered n a → AreNumbered (n + length (section_bodies a)) k
    → AreNumbered n (joined a k)
joined_numbers n Stop k h g = subst (λ i. AreNumbered i k) (omega arith) g
joined_numbers n (Do a r) k h g = joined_numbers n r k h g
joined_numbers n (Choose t p q r) k h g =
    let x = section_bodies p in
    let y = section_bodies q in (
      h.0,
      h.1,
      joined_numbers (n + length x + length y) r k h.2
          (subst (λ i. AreNumbered i k)
          (omega (arith, length-append x (y ++ section_bodies r), length-append y (section_bodies r))) g),
    )
joined_numbers n (Loop t p r) k h g = (
  h.0,
  joined_numbers (n + length (section_bodies p)) r k h.1
      (subst (λ i. AreNumbered i k) (omega (arith, length-append (section_bodies p) (section_bodies r))) g),
)
joined_numbers n (Section i p r) k h g =
    (h.0, joined_numbers (n + 1) r k h.1 (subst (λ j. AreNumbered j k) (omega arith) g))

-- a text without sections is numbered from anywhere
numbered_anywhere : (a : TextView) → length (section_bodies a) ≡ 0 → (m n : ℕ) → AreNumbered m a → AreNumbered n a
numbered_anywhere Stop e m n h = tt
numbered_anywhere (Do a r) e m n h = numbered_anywhere r e m n h
numbered_anywhere (Choose t p q r) e m n h =
    let x = length-append (section_bodies p) (section_bodies q ++ section_bodies r) in
    let y = length-append (section_bodies q) (section_bodies r) in (
      numbered_anywhere p (omega (arith, e, x, y)) _ _ h.0,
      numbered_anywhere q (omega (arith, e, x, y)) _ _ h.1,
      numbered_anywhere r (omega (arith, e, x, y)) _ _ h.2,
    )
numbered_anywhere (Loop t p r) e m n h =
    let x = length-append (section_bodies p) (section_bodies r) in
    (numbered_anywhere p (omega (arith, e, x)) _ _ h.0, numbered_anywhere r (omega (arith, e, x)) _ _ h.1)
numbered_anywhere (Section i p r) e m n h = absurd (omega (arith, e))

set_numbers : (n : ℕ) (v : Scene) (x : ℕ) (ds : List Declaration) (vs : List Operand) (k : TextView) → AreNumbered n k
    → AreNumbered n (write_parameters v x ds vs k)
set_numbers n v x [] vs k h = h
set_numbers n v x (d ∷ ds) [] k h = set_numbers n v (x + 1) ds [] k h
set_numbers n v x (d ∷ ds) (u ∷ us) k h = set_numbers n v (x + 1) ds us k h

cleared_numbers : (n x : ℕ) (ds : List Declaration) (k : TextView) → AreNumbered n k
    → AreNumbered n (write_locals x ds k)
cleared_numbers n x [] k h = h
cleared_numbers n x (d ∷ ds) k h = cleared_numbers n (x + 1) ds k h

call_keeps : (d : Declared) (ps : List Procedure) → AreClean d ps → (table : List Sums) (call : Writer)
    → CallsFlat call → CallsKeep call → (o : Option Procedure) (q : Option ℕ) → procedure_numbered ps q ≡ o
    → (r : Option ℕ) (v : Scene) (a : NextNumbers) (vs : List Operand) (k : TextView) (n : ℕ) → AreNumbered n k
    → AreNumbered n (written_call d.records d.globals ps table call o r v a vs k)
call_keeps d ps c table call f m None q e r v a vs k n g = g
call_keeps d ps c table call f m (Some p) q e r v a vs k n g =
    let inner = view d (variables p) a.fresh in
    let b = after_call a p in
    let text = written_block ps table call inner b p.body in
    let x = called_clean d ps c q p e in
    let at = InProcedure x.0 in
    let none : length (section_bodies text) ≡ 0 =
    block_sectioned d ps table call f (variables p) at inner b p.body x.1
    ∙ block_flat d (variables p) at p.body refl x.1 in
    set_numbers n v a.fresh p.parameters vs _
    (cleared_numbers n (a.fresh + length p.parameters) p.locals (joined text k)
    (joined_numbers n text k
    (numbered_anywhere text none b.sections n (block_numbers d ps table call f m (variables p) at inner b p.body x.1))
    (subst (λ i. AreNumbered i k) (omega (arith, none)) g)))

-- what follows a call keeps its sections' numbers
pub calls_keep : (n : ℕ) (d : Declared) (ps : List Procedure) → AreClean d ps
    → CallsKeep (written_within n d.records d.globals ps)
calls_keep zero d ps c q v a vs k i g = g
calls_keep (suc n) d ps c q v a vs k i g =
    call_keeps d ps c (sums_within n ps) (written_within n d.records d.globals ps) (calls_flat n d ps c)
    (calls_keep n d ps c)
    (procedure_numbered ps q) q refl q v a vs k i g

-- the text of a thread has as many sections as its tree
pub thread_sectioned : (t : TreeView) → AreClean (declared_in t) t.procedures → (a : NextNumbers) (h : Thread)
    → IsCleanBlock (declared_in t) h.locals (InThread false 1) h.body
    → length (section_bodies (written_thread t a h)) ≡ block_sections h.body
thread_sectioned t c a h clean =
    let n = length t.procedures in
    let d = declared_in t in
    block_sectioned d t.procedures (sums t.procedures) (written_within n t.records t.globals t.procedures)
    (calls_flat n d t.procedures c) h.locals (InThread false 1) (view d h.locals 0) (record a {
      fresh =
          length h.locals;
    })
    h.body clean

pub thread_numbers : (t : TreeView) → AreClean (declared_in t) t.procedures → (a : NextNumbers) (h : Thread)
    → IsCleanBlock (declared_in t) h.locals (InThread false 1) h.body → AreNumbered a.sections (written_thread t a h)
thread_numbers t c a h clean =
    let n = length t.procedures in
    let d = declared_in t in
    block_numbers d t.procedures (sums t.procedures) (written_within n t.records t.globals t.procedures)
    (calls_flat n d t.procedures c) (calls_keep n d t.procedures c) h.locals (InThread false 1) (view d h.locals 0)
    (record a { fresh = length h.locals }) h.body clean

pub threads_number : (t : TreeView) → AreClean (declared_in t) t.procedures → (a : NextNumbers) (hs : List Thread)
    → AreCleanThreads (declared_in t) hs → AllNumbered a.sections (written_threads t a hs)
threads_number t c a [] g = tt
threads_number t c a (h ∷ hs) g = (
  thread_numbers t c a h g.0,
  subst (λ i. AllNumbered (a.sections + i) (written_threads t (past_thread t a h) hs))
      (sym (thread_sectioned t c a h g.0)) (threads_number t c (past_thread t a h) hs g.1),
)

-- the sections of a typed text are numbered from 0, in text order
pub typed_sections : (t : TreeView) → IsTyped t → AllNumbered 0 (written_texts t)
typed_sections t h =
    threads_number t (typed_clean t h) (record { sites = length t.globals; sections = 0; fresh = 0 }) t.threads
    (text_clean t h).1

-- so many sections stand in the trees of the threads
abbrev pub sections_in : List Thread → ℕ
sections_in [] = 0
sections_in (h ∷ hs) = block_sections h.body + sections_in hs

pub threads_sectioned : (t : TreeView) → AreClean (declared_in t) t.procedures
    → (a : NextNumbers) (i : ℕ) (hs : List Thread)
    → AreCleanThreads (declared_in t) hs → length (sections_from i (written_threads t a hs)) ≡ sections_in hs
threads_sectioned t c a i [] g = refl
threads_sectioned t c a i (h ∷ hs) g =
    let text = section_bodies (written_thread t a h) in
    let f : TextView → SectionView = λ b. record { thread = i; body = b } in
    omega (
      arith,
      length-append (map f text) (sections_from (i + 1) (written_threads t (past_thread t a h) hs)),
      length-map {B = SectionView} text f,
      thread_sectioned t c a h g.0,
      threads_sectioned t c (past_thread t a h) (i + 1) hs g.1,
    )

-- a typed program has as many sections as its threads' trees
pub typed_section_count : (t : TreeView) → IsTyped t → length (sections_of (written_texts t)) ≡ sections_in t.threads
typed_section_count t h =
    threads_sectioned t (typed_clean t h) (record { sites = length t.globals; sections = 0; fresh = 0 }) 0 t.threads
    (text_clean t h).1

-- The expanded texts of all threads.
use Rattle.std.proofs.Common.{◌≡◌, ℕ, ◌+◌, ◌<◌, ◌≤◌, List, [], ◌∷◌, ◌++◌, drop, get_or, refl, sym, ◌∙◌, ap, arith}
use Rattle.std.proofs.Common.{subst, length, append_assoc}
use Rattle.sect_front.specs.{declared.tree.Thread.{Thread}, TreeView.{TreeView}}
use Rattle.sect_types.specs.Limits.{most_locals, most_sections, most_sites, most_statements}
use Rattle.sect_types.specs.{Rules.{declared_in, sight}, Sums.{sums, block_sums}, Statements.{TextView}}
use Rattle.sect_types.specs.First.{IsTyped}
use Rattle.sect_types.specs.Expanded.{NextNumbers, block_sections, past_thread, expanded_block, expand_within}
use Rattle.sect_types.specs.{Expanded.{expanded_thread, expanded_threads}, Numbered.{of_both}}
use Rattle.sect_types.specs.steps.Written.{written_thread, written_threads}
use Rattle.sect_types.specs.steps.Expansion.{IsPast, HasRoom, block_by, at_thread, RoomFor, AreExpanded}
use Rattle.sect_lemmas.proofs.Elements.{drop_next}
use Rattle.sect_types.proofs.{SectionLaws.{sections_in}, Walked.{before_threads}}
use Rattle.sect_types.proofs.EndCounts.{thread_sums, before_add, threads_add}
use Rattle.sect_types.proofs.WithinLimits.{HaveFewLocals, typed_few, block_takes, calls_take}

-- only sites and sections count before a thread
pub record SamePlace (a b : NextNumbers) : Type 0 where
  pub same_sites : a.sites ≡ b.sites
  pub same_sections : a.sections ≡ b.sections

same_thread : (t : TreeView) (a b : NextNumbers) (h : Thread) → SamePlace a b → SamePlace (past_thread t a h)
    (past_thread t b h)
same_thread t a b h e = record {
  same_sites = ap (λ n. n + (block_sums t.procedures (sums t.procedures) h.body).sites) e.same_sites;
  same_sections = ap (λ n. n + block_sections h.body) e.same_sections;
}

at_same : (a b : NextNumbers) (h : Thread) → SamePlace a b → at_thread a h ≡ at_thread b h
at_same a b h e = λ i. record { sites = e.same_sites i; sections = e.same_sections i; fresh = length h.locals }

one_same : (t : TreeView) (a b : NextNumbers) (h : Thread) → SamePlace a b → written_thread t a h ≡ written_thread t b h
one_same t a b h e =
    ap (λ x. block_by t (length t.procedures) (sight t.records t.globals h.locals) 0 x h.body) (at_same a b h e)

pub same_texts : (t : TreeView) (a b : NextNumbers) (hs : List Thread) → SamePlace a b
    → written_threads t a hs ≡ written_threads t b hs
same_texts t a b [] e = refl
same_texts t a b (h ∷ hs) e =
    let more = same_texts t (past_thread t a h) (past_thread t b h) hs (same_thread t a b h e) in
    λ i. one_same t a b h e i ∷ more i

-- the same by numbers
one_numbered : (t : TreeView) (a b : NextNumbers) (h : Thread) → SamePlace a b
    → expanded_thread t a h ≡ expanded_thread t b h
one_numbered t a b h e =
    ap (λ (x : NextNumbers). expanded_block t.procedures (sums t.procedures)
    (expand_within (length t.procedures) t.records t.globals t.procedures)
    (record { sight = sight t.records t.globals h.locals; first = 0 }) x h.body) (at_same a b h e)

pub same_numbered : (t : TreeView) (a b : NextNumbers) (hs : List Thread) → SamePlace a b
    → expanded_threads t a hs ≡ expanded_threads t b hs
same_numbered t a b [] e = refl
same_numbered t a b (h ∷ hs) e =
    let more = same_numbered t (past_thread t a h) (past_thread t b h) hs (same_thread t a b h e) in
    λ i. of_both (λ x xs. x ∷ xs) (one_numbered t a b h e i) (more i)

same_room : (t : TreeView) (a b : NextNumbers) (hs : List Thread) → SamePlace a b → RoomFor t a hs → RoomFor t b hs
same_room t a b [] e r = tt
same_room t a b (h ∷ hs) e r = (
  r.0,
  subst (λ x. HasRoom x (block_sums t.procedures (sums t.procedures) h.body) (block_sections h.body))
      (at_same a b h e) r.1,
  same_room t (past_thread t a h) (past_thread t b h) hs (same_thread t a b h e) r.2,
)

-- the position behind a thread
behind : (t : TreeView) (a next : NextNumbers) (h : Thread)
    → IsPast (at_thread a h) next (block_sums t.procedures (sums t.procedures) h.body) (block_sections h.body)
    → SamePlace (past_thread t a h) next
behind t a next h p = record { same_sites = sym p.of_sites; same_sections = sym p.of_sections }

-- one thread more
goes_on : (t : TreeView) (now next : NextNumbers) (h : Thread) (rest : List Thread) (texts : List TextView)
    (text : TextView)
    → AreExpanded t now (h ∷ rest) texts → text ≡ written_thread t now h
    → IsPast (at_thread now h) next (block_sums t.procedures (sums t.procedures) h.body) (block_sections h.body)
    → AreExpanded t next rest (texts ++ text ∷ [])
goes_on t now next h rest texts text e is p =
    let place = behind t now next h p in
    let same = sym (same_texts t (past_thread t now h) next rest place) in
    record {
      written = append_assoc texts (text ∷ []) (written_threads t next rest) ∙ (λ i. texts ++ (is i ∷ same i))
          ∙ e.written;
      room = same_room t (past_thread t now h) next rest place e.room.2;
    }

-- the thread at an index is the next
next_thread : (t : TreeView) (now : NextNumbers) (hs : List Thread) (i : ℕ) (h : Thread) (texts : List TextView)
    → i < length hs
    → h ≡ get_or hs i h → AreExpanded t now (drop i hs) texts → AreExpanded t now (h ∷ drop (i + 1) hs) texts
next_thread t now hs i h texts lt is e = subst (λ l. AreExpanded t now l texts) (drop_next hs i h lt is) e

pub one_thread : (t : TreeView) (now next : NextNumbers) (hs : List Thread) (i : ℕ) (h : Thread) (texts : List TextView)
    (text : TextView) → i < length hs → h ≡ get_or hs i h → AreExpanded t now (drop i hs) texts
    → text ≡ written_thread t now h
    → IsPast (at_thread now h) next (block_sums t.procedures (sums t.procedures) h.body) (block_sections h.body)
    → AreExpanded t next (drop (i + 1) hs) (texts ++ text ∷ [])
one_thread t now next hs i h texts text lt is e w p =
    goes_on t now next h (drop (i + 1) hs) texts text (next_thread t now hs i h texts lt is e) w p

-- there is room for it
pub thread_few : (t : TreeView) (now : NextNumbers) (hs : List Thread) (i : ℕ) (h : Thread) (texts : List TextView)
    → i < length hs
    → h ≡ get_or hs i h → AreExpanded t now (drop i hs) texts → length h.locals ≤ most_locals
thread_few t now hs i h texts lt is e = (next_thread t now hs i h texts lt is e).room.0

room_for : (t : TreeView) (a : NextNumbers) (hs : List Thread)
    → a.sites + (thread_sums (declared_in t) hs).sites ≤ most_sites
    → a.sections + sections_in hs ≤ most_sections → HaveFewLocals hs
    → (thread_sums (declared_in t) hs).statements ≤ most_statements
    → RoomFor t a hs
room_for t a [] sites sections locals statements = tt
room_for t a (h ∷ hs) sites sections locals statements =
    let n = length t.procedures in
    let fresh = block_takes t.procedures (sums t.procedures) (calls_take n t.procedures) h.body in (
      locals.0,
      record {
        for_sites = omega (arith, sites);
        for_sections = omega (arith, sections);
        for_fresh = omega (arith, locals.0, statements, fresh);
      },
      room_for t (past_thread t a h) hs (omega (arith, sites)) (omega (arith, sections)) locals.1
          (omega (arith, statements)),
    )

-- at the start
pub at_start : (t : TreeView) (a : NextNumbers) → a ≡ record { sites = length t.globals; sections = 0; fresh = 0 }
    → IsTyped t
    → AreExpanded t a t.threads []
at_start t a e h =
    let few = typed_few t h in
    let x = before_add t in
    let y = threads_add (declared_in t) (before_threads t) [] t.threads in
    let sites_are : a.sites ≡ length t.globals = ap (λ (z : NextNumbers). z.sites) e in
    let none : a.sections ≡ 0 = ap (λ (z : NextNumbers). z.sections) e in
    record {
      written = ap (λ z. written_threads t z t.threads) e;
      room = room_for t a t.threads (omega (arith, sites_are, few.0.few_sites, x.sites_add, y.sites_add))
          (omega (arith, none, few.0.few_sections, x.sections_add, y.sections_add)) few.1
          (omega (arith, few.0.few_statements, x.statements_add, y.statements_add));
    }

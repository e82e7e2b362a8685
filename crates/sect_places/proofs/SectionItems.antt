-- The items of sections are `atomic`s, and there are as many as sections.
use Rattle.std.proofs.Common.{◌≡◌, ℕ, zero, suc, ◌+◌, List, [], ◌∷◌, ◌++◌, length, drop, All, Some, slice_get, refl, ap}
use Rattle.std.proofs.Common.{false, arith}
use Rattle.sect_lemmas.proofs.Elements.{at_front}
use Rattle.sect_front.specs.TreeView.{TreeView}
use Rattle.sect_front.specs.Syntax.{StatementView, BlockView, Primitive, If, IfElse, While, Atomic, Call, End, Then}
use Rattle.sect_front.specs.{declared.tree.Declaration.{Declaration}, declared.tree.Locking.{Locking}}
use Rattle.sect_front.specs.declared.tree.Thread.{Thread}
use Rattle.sect_types.specs.{declared.rules.place.Place.{Place}, declared.rules.place.Place.TheVariants.{InThread}}
use Rattle.sect_types.specs.Items.{Item, AStatement, AtomicHead, deeper, in_section, statement_items, block_items}
use Rattle.sect_types.specs.Items.{thread_items, items}
use Rattle.sect_types.specs.Lockings.{statement_lockings, block_lockings, threads_lockings, lockings_of}
use Rattle.sect_places.specs.{ItemCounts.{items_in_block, items_in_statement, items_in_thread}, Origins.{first_thread}}
use Rattle.sect_places.specs.SectionItems.{statement_section_items, block_section_items, threads_section_items}
use Rattle.sect_places.specs.SectionItems.{section_items_of, IsAtomicItem}
use Rattle.sect_places.proofs.Past.{ahead}
use Rattle.sect_places.proofs.ItemPast.{items_past_statement, items_past_block, past_own, tree_threads_at}

mutual
  statement_many : (n : ℕ) (s : StatementView) (v : List ℕ) (w : List Locking) → length v ≡ length w
      → length (statement_section_items n s v) ≡ length (statement_lockings s w)
  statement_many n (Primitive p) v w h = h
  statement_many n (If t a) v w h = block_many (n + 1) a v w h
  statement_many n (IfElse t a b) v w h =
      block_many (n + 1) a (block_section_items (n + 1 + items_in_block a) b v) (block_lockings b w)
      (block_many (n + 1 + items_in_block a) b v w h)
  statement_many n (While t a) v w h = block_many (n + 1) a v w h
  statement_many n (Atomic l a) v w h = ap suc h
  statement_many n (Call f vs) v w h = h

  block_many : (n : ℕ) (b : BlockView) (v : List ℕ) (w : List Locking) → length v ≡ length w
      → length (block_section_items n b v) ≡ length (block_lockings b w)
  block_many n End v w h = h
  block_many n (Then s b) v w h =
      statement_many n s (block_section_items (n + items_in_statement s) b v) (block_lockings b w)
      (block_many (n + items_in_statement s) b v w h)

threads_many : (n : ℕ) (ts : List Thread)
    → length (threads_section_items n ts []) ≡ length (threads_lockings ts [])
threads_many n [] = refl
threads_many n (t ∷ ts) =
    block_many (n + 1 + length t.locals) t.body (threads_section_items (n + items_in_thread t) ts [])
    (threads_lockings ts []) (threads_many (n + items_in_thread t) ts)

-- there are as many as sections
pub as_many : (t : TreeView) → length (section_items_of t) ≡ length (lockings_of t)
as_many t = threads_many (first_thread t) t.threads

-- the item is an `atomic`
abbrev IsAtomic : List Item → ℕ → Type 0
IsAtomic all n =
    (ls : List Declaration) × (at : Place) × (slice_get all n ≡ Some (AStatement AtomicHead ls at))

module _ (all : List Item) where
  abbrev AreAtomic : List ℕ → Type 0
  AreAtomic [] = Unit {0}
  AreAtomic (n ∷ ns) = IsAtomic all n × AreAtomic ns

  each_atomic : (ns : List ℕ) → AreAtomic ns → All (IsAtomic all) ns
  each_atomic [] are k d within = absurd (omega arith)
  each_atomic (n ∷ ns) are zero d within = are.0
  each_atomic (n ∷ ns) are (suc k) d within = each_atomic ns are.1 k d (omega arith)

  mutual
    statement_atomic : (n : ℕ) (s : StatementView) (ls : List Declaration) (at : Place) (next : List Item) (w : List ℕ)
        → drop n all ≡ statement_items ls at s next → AreAtomic w
        → AreAtomic (statement_section_items n s w)
    statement_atomic n (Primitive p) ls at next w h each = each
    statement_atomic n (If t a) ls at next w h each =
        block_atomic (n + 1) a ls (deeper at) next w (ahead all n 1 _ h) each
    statement_atomic n (IfElse t a b) ls at next w h each =
        block_atomic (n + 1) a ls (deeper at) (block_items ls (deeper at) b next) _ (ahead all n 1 _ h)
        (block_atomic (n + 1 + items_in_block a) b ls (deeper at) next w
        (items_past_block all (n + 1) a ls (deeper at) _ (ahead all n 1 _ h)) each)
    statement_atomic n (While t a) ls at next w h each =
        block_atomic (n + 1) a ls (deeper at) next w (ahead all n 1 _ h) each
    statement_atomic n (Atomic l a) ls at next w h each =
        ((ls, at, at_front all n (AStatement AtomicHead ls at) (block_items ls (in_section at) a next) h), each)
    statement_atomic n (Call f vs) ls at next w h each = each

    block_atomic : (n : ℕ) (b : BlockView) (ls : List Declaration) (at : Place) (next : List Item) (w : List ℕ)
        → drop n all ≡ block_items ls at b next → AreAtomic w
        → AreAtomic (block_section_items n b w)
    block_atomic n End ls at next w h each = each
    block_atomic n (Then s b) ls at next w h each =
        statement_atomic n s ls at (block_items ls at b next) _ h
        (block_atomic (n + items_in_statement s) b ls at next w
        (items_past_statement all n s ls at (block_items ls at b next) h) each)

  threads_atomic : (n : ℕ) (ts : List Thread) (before : List (List ℕ)) → drop n all ≡ thread_items before ts []
      → AreAtomic (threads_section_items n ts [])
  threads_atomic n [] before h = tt
  threads_atomic n (t ∷ ts) before h =
      let own = past_own all n t before ts [] h in
      block_atomic (n + 1 + length t.locals) t.body t.locals (InThread false 1) _ _ own.0
      (threads_atomic (n + items_in_thread t) ts (before ++ t.name ∷ []) own.1)

-- each of them is
pub all_atomic : (t : TreeView) → All (IsAtomicItem t) (section_items_of t)
all_atomic t =
    each_atomic (items t) (section_items_of t)
    (threads_atomic (items t) (first_thread t) t.threads [] (tree_threads_at t))

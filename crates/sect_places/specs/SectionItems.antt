-- The items of the sections of a text. Each list is given before that of what follows.
use Rattle.std.specs.Prelude.{◌≡◌, ℕ, ◌+◌, List, [], ◌∷◌, length, Some, slice_get}
use Rattle.sect_front.specs.TreeView.{TreeView}
use Rattle.sect_front.specs.Syntax.{StatementView, BlockView, Primitive, If, IfElse, While, Atomic, Call, End, Then}
use Rattle.sect_front.specs.{declared.tree.Declaration.{Declaration}, declared.tree.Thread.{Thread}}
use Rattle.sect_types.specs.{Items.{AStatement, AtomicHead, items}, declared.rules.place.Place.{Place}}
use Rattle.sect_places.specs.{ItemCounts.{items_in_block, items_in_statement, items_in_thread}, Origins.{first_thread}}

abbrev mutual
  -- of the sections of a statement that is the item n, in text order; no section stands in a section
  pub statement_section_items : ℕ → StatementView → List ℕ → List ℕ
  statement_section_items n (Primitive p) w = w
  statement_section_items n (If t a) w = block_section_items (n + 1) a w
  statement_section_items n (IfElse t a b) w =
      block_section_items (n + 1) a (block_section_items (n + 1 + items_in_block a) b w)
  statement_section_items n (While t a) w = block_section_items (n + 1) a w
  statement_section_items n (Atomic l a) w = n ∷ w
  statement_section_items n (Call f vs) w = w

  pub block_section_items : ℕ → BlockView → List ℕ → List ℕ
  block_section_items n End w = w
  block_section_items n (Then s b) w =
      statement_section_items n s (block_section_items (n + items_in_statement s) b w)

-- of those of threads, of which the first is the item n
abbrev pub threads_section_items : ℕ → List Thread → List ℕ → List ℕ
threads_section_items n [] w = w
threads_section_items n (t ∷ ts) w =
    block_section_items (n + 1 + length t.locals) t.body (threads_section_items (n + items_in_thread t) ts w)

-- the item of each section of a tree, by the section's number
abbrev pub section_items_of : TreeView → List ℕ
section_items_of t = threads_section_items (first_thread t) t.threads []

-- the item is an `atomic`
abbrev pub IsAtomicItem : TreeView → ℕ → Type 0
IsAtomicItem t n =
    (ls : List Declaration) × (at : Place) × (slice_get (items t) n ≡ Some (AStatement AtomicHead ls at))

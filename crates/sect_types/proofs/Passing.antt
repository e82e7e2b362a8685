-- A block of which the first statements have been passed.
use Rattle.std.proofs.Common.{◌≡◌, ℕ, zero, suc, ◌+◌, ◌<◌, ◌≤◌, subst, arith, sym, List, [], ◌∷◌, drop, get_or, length}
use Rattle.std.proofs.Common.{ap, ◌∙◌, Result, Ok, Err}
use Rattle.std.specs.Result.{IsErrAnd}
use Rattle.sect_front.specs.{declared.tree.Test.{Test}, Syntax.{BlockView, Then}, Trees.{statement_of, block_of}}
use Rattle.sect_front.specs.{Depth.{statement_depth, block_depth}, declared.tree.Statement.{Statement}}
use Rattle.sect_front.specs.declared.tree.Declaration.{Declaration}
use Rattle.sect_lemmas.proofs.Elements.{drop_next}
use Rattle.sect_types.specs.{declared.rules.place.Place.{Place}, declared.rules.rule.WalkFault.{WalkFault}}
use Rattle.sect_types.specs.Items.{Head, TestHead, deeper, Item, AStatement, statement_items, block_items}
use Rattle.sect_types.specs.Rules.{Declared, Counts}
use Rattle.sect_types.specs.steps.{Judging.{judge}, Walks.{Walks}}
use Rattle.sect_types.specs.declared.rules.rule.WalkFault.TheVariants as fault

-- the statements `rest` of `all` are left
pub record IsPassed (d : Declared) (ls : List Declaration) (at : Place) (block all rest : BlockView)
    (old now : Counts) : Type 0 where
  pub whole : all ≡ block
  pub walks : (w : List Item)
      → judge d old (block_items ls at block w) ≡ judge d now (block_items ls at rest w)

-- the statement at an index comes first of those that are left
pub next_of : (ss : List Statement) (i : ℕ) (x : Statement) → i < length ss → x ≡ get_or ss i x
    → block_of (drop i ss) ≡ Then (statement_of x) (block_of (drop (i + 1) ss))
next_of ss i x h e = ap block_of (drop_next ss i x h e)

-- one statement more
pub kept : (d : Declared) (ls : List Declaration) (at : Place) (block : BlockView) (ss : List Statement) (i : ℕ)
    (x : Statement) (old now then : Counts) → i < length ss → x ≡ get_or ss i x
    → IsPassed d ls at block (block_of ss) (block_of (drop i ss)) old now
    → ((w : List Item) → judge d now (statement_items ls at (statement_of x) w) ≡ judge d then w)
    → IsPassed d ls at block (block_of ss) (block_of (drop (i + 1) ss)) old then
kept d ls at block ss i x old now then h e so_far walks = record {
  whole = so_far.whole;
  walks = λ w.
      so_far.walks w
      ∙ (ap (λ b. judge d now (block_items ls at b w)) (next_of ss i x h e)
      ∙ walks (block_items ls at (block_of (drop (i + 1) ss)) w));
}

-- a fault in the next statement is the fault of the block
pub fails : (d : Declared) (ls : List Declaration) (at : Place) (block : BlockView) (ss : List Statement) (i : ℕ)
    (x : Statement) (old now then : Counts) (e : WalkFault) → i < length ss → x ≡ get_or ss i x
    → IsPassed d ls at block (block_of ss) (block_of (drop i ss)) old now
    → Walks {A = ℕ} d (statement_items ls at (statement_of x)) now then (Err e)
    → Walks {A = ℕ} d (block_items ls at block) old then (Err e)
fails d ls at block ss i x old now then fault.Memory h e so_far walks = tt
fails d ls at block ss i x old now then (fault.Broken n r) h e so_far walks = λ w.
    so_far.walks w
    ∙ (ap (λ b. judge d now (block_items ls at b w)) (next_of ss i x h e)
    ∙ walks (block_items ls at (block_of (drop (i + 1) ss)) w))

-- no statement is deeper than its block
pub depth_at : (ss : List Statement) (i : ℕ) (d : Statement) → i < length ss
    → statement_depth (statement_of (get_or ss i d)) ≤ block_depth (block_of ss)
depth_at [] i d h = absurd (omega arith)
depth_at (s ∷ ss) zero d h = omega arith
depth_at (s ∷ ss) (suc i) d h = omega (arith, depth_at ss i d (omega arith))

-- a statement with one block: its head, then the block
pub one_block : {A : Type 0} (d : Declared) (ls : List Declaration) (at inner : Place) (h : Head) (b : BlockView)
    (old now new : Counts) (r : Result A WalkFault)
    → ((w : List Item) → judge d old (AStatement h ls at ∷ w) ≡ judge d now w)
    → Walks d (block_items ls inner b) now new r
    → Walks d (λ w. AStatement h ls at ∷ block_items ls inner b w) old new r
one_block d ls at inner h b old now new (Ok a) first walks = λ w. first (block_items ls inner b w) ∙ walks w
one_block d ls at inner h b old now new (Err fault.Memory) first walks = tt
one_block d ls at inner h b old now new (Err (fault.Broken n q)) first walks =
    λ w. first (block_items ls inner b w) ∙ walks w

-- a fault in the first of two blocks is the fault of the statement
pub first_fails : {A : Type 0} (d : Declared) (ls : List Declaration) (at : Place) (t : Test) (a b : BlockView)
    (old now new : Counts) (e : WalkFault) (r : Result A WalkFault) → IsErrAnd r (λ x. x ≡ e)
    → ((w : List Item) → judge d old (AStatement (TestHead t) ls at ∷ w) ≡ judge d now w)
    → Walks {A = ℕ} d (block_items ls (deeper at) a) now new (Err e)
    → Walks d (λ w. AStatement (TestHead t) ls at ∷ block_items ls (deeper at) a (block_items ls (deeper at) b w)) old
    new r
first_fails d ls at t a b old now new e (Ok x) is first walks = absurd is
first_fails {A} d ls at t a b old now new e (Err x) is first walks =
    subst (λ y. Walks {A = A} d (λ w. AStatement (TestHead t) ls at ∷ block_items ls (deeper at) a
    (block_items ls (deeper at) b w)) old new (Err y)) (sym is) (go e walks)
  where
    go : (y : WalkFault) → Walks {A = ℕ} d (block_items ls (deeper at) a) now new (Err y)
        → Walks {A = A} d (λ w. AStatement (TestHead t) ls at ∷ block_items ls (deeper at) a
        (block_items ls (deeper at) b w)) old new (Err y)
    go fault.Memory k = tt
    go (fault.Broken n q) k = λ w. first (block_items ls (deeper at) a (block_items ls (deeper at) b w))
        ∙ k (block_items ls (deeper at) b w)

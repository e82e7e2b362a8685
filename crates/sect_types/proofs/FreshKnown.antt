-- The types of fresh locals are known, and are those of the program.
use Rattle.std.specs.Prelude.{true}
use Rattle.std.proofs.Common.{◌≡◌, ℕ, zero, suc, ◌+◌, List, [], ◌∷◌, ◌++◌, map, Option, Some, None, refl, ap, length}
use Rattle.std.proofs.lemmas.Bool.{and_from, and_parts}
use Rattle.sect_front.specs.{declared.tree.Declaration.{Declaration}, declared.tree.Procedure.{Procedure}}
use Rattle.sect_front.specs.declared.tree.Thread.{Thread}
use Rattle.sect_front.specs.Syntax.{StatementView, Primitive, If, IfElse, While, Atomic, Call, BlockView, End, Then}
use Rattle.sect_front.specs.TreeView.{TreeView}
use Rattle.sect_types.specs.{declared.expansion.expand.Fresh.{Fresh}, declared.counting.sums.Sums.{Sums}}
use Rattle.sect_types.specs.{Sight.{names_of_records}, Items.{variables}, Rules.{knows_kind}}
use Rattle.sect_types.specs.Sums.{sums, sums_within, number_of, statement_sums, block_sums}
use Rattle.sect_types.specs.Expanded.{Freshens, of_call, statement_fresh, block_fresh, fresh_of, fresh_within, fresh_in}
use Rattle.sect_types.specs.Expanded.{procedure_numbered, local_types_of}
use Rattle.sect_types.specs.steps.{Listing.{all_known}, Threads.{variables_fine}}
use Rattle.sect_types.specs.steps.FreshTypes.{local_types, fresh_known, all_fresh_known}
use Rattle.sect_types.proofs.ProgramLemmas.{numbered_known}

both_known : (records : List (List ℕ)) (xs ys : List Fresh) → fresh_known records xs ≡ true
    → fresh_known records ys ≡ true
    → fresh_known records (xs ++ ys) ≡ true
both_known records [] ys h g = g
both_known records (x ∷ xs) ys h g =
    let parts = and_parts (knows_kind records x.declared.kind) (fresh_known records xs) h in
    and_from (knows_kind records x.declared.kind) (fresh_known records (xs ++ ys)) parts.0
    (both_known records xs ys parts.1 g)

call_known : (records : List (List ℕ)) (c : ℕ) (ds : List Declaration) → all_known records ds ≡ true
    → fresh_known records (of_call c ds) ≡ true
call_known records c [] h = refl
call_known records c (d ∷ ds) h =
    let parts = and_parts (knows_kind records d.kind) (all_known records ds) h in
    and_from (knows_kind records d.kind) (fresh_known records (of_call c ds)) parts.0 (call_known records c ds parts.1)

-- where those of each call are known, so are those of a body
abbrev CallsKnown : List (List ℕ) → Freshens → Type 0
CallsKnown records call = (q : Option ℕ) (c : ℕ) → fresh_known records (call q c) ≡ true

mutual
  statement_known : (records : List (List ℕ)) (ps : List Procedure) (table : List Sums) (call : Freshens)
      → CallsKnown records call → (c : ℕ) (s : StatementView)
      → fresh_known records (statement_fresh ps table call c s) ≡ true
  statement_known records ps table call h c (Primitive p) = refl
  statement_known records ps table call h c (If t a) = block_known records ps table call h c a
  statement_known records ps table call h c (IfElse t a b) =
      both_known records (block_fresh ps table call c a) _ (block_known records ps table call h c a)
      (block_known records ps table call h (c + (block_sums ps table a).calls) b)
  statement_known records ps table call h c (While t a) = block_known records ps table call h c a
  statement_known records ps table call h c (Atomic l a) = block_known records ps table call h c a
  statement_known records ps table call h c (Call f vs) = h (number_of ps f) c

  block_known : (records : List (List ℕ)) (ps : List Procedure) (table : List Sums) (call : Freshens)
      → CallsKnown records call → (c : ℕ) (b : BlockView) → fresh_known records (block_fresh ps table call c b) ≡ true
  block_known records ps table call h c End = refl
  block_known records ps table call h c (Then s b) =
      both_known records (statement_fresh ps table call c s) _ (statement_known records ps table call h c s)
      (block_known records ps table call h (c + (statement_sums ps table s).calls) b)

one_known : (records : List (List ℕ)) (ps : List Procedure) (table : List Sums) (call : Freshens)
    → CallsKnown records call → (o : Option Procedure)
    → ((p : Procedure) → o ≡ Some p → all_known records (variables p) ≡ true)
    → (c : ℕ) → fresh_known records (fresh_of ps table call o c) ≡ true
one_known records ps table call h None k c = refl
one_known records ps table call h (Some p) k c =
    both_known records (of_call c (variables p)) _ (call_known records c (variables p) (k p refl))
    (block_known records ps table call h (c + 1) p.body)

calls_known : (n : ℕ) (records : List (List ℕ)) (ps : List Procedure) → variables_fine records ps ≡ true
    → CallsKnown records (fresh_within n ps)
calls_known zero records ps h q c = refl
calls_known (suc n) records ps h q c =
    one_known records ps (sums_within n ps) (fresh_within n ps) (calls_known n records ps h) (procedure_numbered ps q)
    (λ p e. numbered_known records ps q p h e) c

-- the types of the fresh locals of all threads are known
pub all_fresh : (t : TreeView) (records : List (List ℕ)) (hs : List Thread) → variables_fine records t.procedures ≡ true
    → all_fresh_known records (map (fresh_in t) hs) ≡ true
all_fresh t records [] h = refl
all_fresh t records (x ∷ hs) h =
    let ps = t.procedures in
    and_from (fresh_known records (fresh_in t x)) (all_fresh_known records (map (fresh_in t) hs))
    (block_known records ps (sums ps) (fresh_within (length ps) ps) (calls_known (length ps) records ps h) 0 x.body)
    (all_fresh t records hs h)

-- and are those of the program's locals
pub types_are : (t : TreeView) (hs : List Thread)
    → local_types (names_of_records t.records) hs (map (fresh_in t) hs) ≡ map (local_types_of t) hs
types_are t [] = refl
types_are t (h ∷ hs) = ap (λ l. local_types_of t h ∷ l) (types_are t hs)

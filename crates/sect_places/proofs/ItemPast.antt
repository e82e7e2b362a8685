-- What follows the parts of a tree in the list of its items, by how many items they have.
use Rattle.std.proofs.Common.{◌≡◌, ℕ, zero, suc, ◌+◌, List, [], ◌∷◌, ◌++◌, length, drop, Some, slice_get, arith, refl}
use Rattle.std.proofs.Common.{subst, false}
use Rattle.std.specs.Prelude.{slice_index_or}
use Rattle.sect_lemmas.proofs.Options.{none_or_some, some_injective}
use Rattle.sect_front.specs.TreeView.{TreeView}
use Rattle.sect_front.specs.Syntax.{StatementView, BlockView, Primitive, If, IfElse, While, Atomic, Call, End, Then}
use Rattle.sect_front.specs.{declared.tree.Declaration.{Declaration}, declared.tree.Record.{Record}}
use Rattle.sect_front.specs.{declared.tree.GlobalObject.{GlobalObject}, declared.tree.Procedure.{Procedure}}
use Rattle.sect_front.specs.declared.tree.Thread.{Thread}
use Rattle.sect_types.specs.declared.rules.place.Place.{Place}
use Rattle.sect_types.specs.declared.rules.place.Place.TheVariants.{InThread, InProcedure}
use Rattle.sect_types.specs.Items.{Item, AProcedure, deeper, in_section, statement_items, block_items, field_items}
use Rattle.sect_types.specs.Items.{record_items, global_items, local_items, variables, procedure_items, thread_items}
use Rattle.sect_types.specs.Items.{items}
use Rattle.sect_places.specs.ItemCounts.{items_in_statement, items_in_block, items_in_records, items_in_procedure}
use Rattle.sect_places.specs.ItemCounts.{items_in_procedures, items_in_thread}
use Rattle.sect_places.specs.Origins.{first_procedure, first_thread, starts_of}
use Rattle.sect_places.proofs.Past.{ahead, moved}
use Rattle.sect_places.specs.Origins as origins

mutual
  pub items_past_statement : (all : List Item) (n : ℕ) (s : StatementView) (ls : List Declaration) (at : Place)
      (w : List Item) → drop n all ≡ statement_items ls at s w → drop (n + items_in_statement s) all ≡ w
  items_past_statement all n (Primitive p) ls at w h = ahead all n 1 _ h
  items_past_statement all n (If t a) ls at w h =
      moved all (n + 1 + items_in_block a) _ w (omega arith)
      (items_past_block all (n + 1) a ls (deeper at) w (ahead all n 1 _ h))
  items_past_statement all n (IfElse t a b) ls at w h =
      moved all (n + 1 + items_in_block a + items_in_block b) _ w (omega arith)
      (items_past_block all (n + 1 + items_in_block a) b ls (deeper at) w
      (items_past_block all (n + 1) a ls (deeper at) _ (ahead all n 1 _ h)))
  items_past_statement all n (While t a) ls at w h =
      moved all (n + 1 + items_in_block a) _ w (omega arith)
      (items_past_block all (n + 1) a ls (deeper at) w (ahead all n 1 _ h))
  items_past_statement all n (Atomic l a) ls at w h =
      moved all (n + 1 + items_in_block a) _ w (omega arith)
      (items_past_block all (n + 1) a ls (in_section at) w (ahead all n 1 _ h))
  items_past_statement all n (Call f vs) ls at w h = ahead all n 1 _ h

  pub items_past_block : (all : List Item) (n : ℕ) (b : BlockView) (ls : List Declaration) (at : Place) (w : List Item)
      → drop n all ≡ block_items ls at b w → drop (n + items_in_block b) all ≡ w
  items_past_block all n End ls at w h = moved all n (n + 0) w (omega arith) h
  items_past_block all n (Then s b) ls at w h =
      moved all (n + items_in_statement s + items_in_block b) _ w (omega arith)
      (items_past_block all (n + items_in_statement s) b ls at w (items_past_statement all n s ls at _ h))

past_fields : (all : List Item) (n : ℕ) (ds : List Declaration) (before : List (List ℕ)) (w : List Item)
    → drop n all ≡ field_items before ds w → drop (n + length ds) all ≡ w
past_fields all n [] before w h = moved all n (n + 0) w (omega arith) h
past_fields all n (d ∷ ds) before w h =
    moved all (n + 1 + length ds) _ w (omega arith) (past_fields all (n + 1) ds _ w (ahead all n 1 _ h))

past_locals : (all : List Item) (n : ℕ) (ds : List Declaration) (before : List (List ℕ)) (w : List Item)
    → drop n all ≡ local_items before ds w → drop (n + length ds) all ≡ w
past_locals all n [] before w h = moved all n (n + 0) w (omega arith) h
past_locals all n (d ∷ ds) before w h =
    moved all (n + 1 + length ds) _ w (omega arith) (past_locals all (n + 1) ds _ w (ahead all n 1 _ h))

-- the locals behind the parameters of a procedure
pub past_parameters : (all : List Item) (n : ℕ) (ds es : List Declaration) (before : List (List ℕ)) (w : List Item)
    → drop n all ≡ local_items before (ds ++ es) w
    → (names : List (List ℕ)) × (drop (n + length ds) all ≡ local_items names es w)
past_parameters all n [] es before w h = (before, moved all n (n + 0) _ (omega arith) h)
past_parameters all n (d ∷ ds) es before w h =
    let r = past_parameters all (n + 1) ds es _ w (ahead all n 1 _ h) in
    (r.0, moved all (n + 1 + length ds) _ _ (omega arith) r.1)

-- the body of a procedure behind them
pub past_variables : (all : List Item) (n : ℕ) (ds es : List Declaration) (before : List (List ℕ)) (w : List Item)
    → drop n all ≡ local_items before (ds ++ es) w → drop (n + length ds + length es) all ≡ w
past_variables all n ds es before w h =
    let r = past_parameters all n ds es before w h in
    past_locals all (n + length ds) es r.0 w r.1

past_records : (all : List Item) (n : ℕ) (rs : List Record) (before : List (List ℕ)) (w : List Item)
    → drop n all ≡ record_items before rs w → drop (n + items_in_records rs) all ≡ w
past_records all n [] before w h = moved all n (n + 0) w (omega arith) h
past_records all n (r ∷ rs) before w h =
    moved all (n + 1 + length r.fields + items_in_records rs) _ w (omega arith)
    (past_records all (n + 1 + length r.fields) rs _ w (past_fields all (n + 1) r.fields [] _ (ahead all n 1 _ h)))

past_globals : (all : List Item) (n : ℕ) (gs : List GlobalObject) (before : List (List ℕ)) (w : List Item)
    → drop n all ≡ global_items before gs w → drop (n + length gs) all ≡ w
past_globals all n [] before w h = moved all n (n + 0) w (omega arith) h
past_globals all n (g ∷ gs) before w h =
    moved all (n + 1 + length gs) _ w (omega arith) (past_globals all (n + 1) gs _ w (ahead all n 1 _ h))

past_procedure : (all : List Item) (n i : ℕ) (p : Procedure) (before : List (List ℕ)) (w : List Item)
    → drop n all ≡ AProcedure p.name before
    ∷ local_items [] (variables p) (block_items (variables p) (InProcedure i) p.body w)
    → drop (n + items_in_procedure p) all ≡ w
past_procedure all n i p before w h =
    moved all (n + 1 + length p.parameters + length p.locals + items_in_block p.body) _ w (omega arith)
    (items_past_block all (n + 1 + length p.parameters + length p.locals) p.body (variables p) (InProcedure i) w
    (past_variables all (n + 1) p.parameters p.locals [] _ (ahead all n 1 _ h)))

past_procedures : (all : List Item) (n i : ℕ) (ps : List Procedure) (before : List (List ℕ)) (w : List Item)
    → drop n all ≡ procedure_items i before ps w → drop (n + items_in_procedures ps) all ≡ w
past_procedures all n i [] before w h = moved all n (n + 0) w (omega arith) h
past_procedures all n i (p ∷ ps) before w h =
    moved all (n + items_in_procedure p + items_in_procedures ps) _ w (omega arith)
    (past_procedures all (n + items_in_procedure p) (i + 1) ps _ w (past_procedure all n i p before _ h))

-- the body of a thread, and the threads behind it
pub past_own : (all : List Item) (n : ℕ) (h : Thread) (before : List (List ℕ)) (hs : List Thread) (w : List Item)
    → drop n all ≡ thread_items before (h ∷ hs) w
    → (drop (n + 1 + length h.locals) all ≡ block_items h.locals (InThread false 1) h.body
    (thread_items (before ++ h.name ∷ []) hs w))
    × (drop (n + items_in_thread h) all ≡ thread_items (before ++ h.name ∷ []) hs w)
past_own all n h before hs w e =
    let body = past_locals all (n + 1) h.locals [] _ (ahead all n 1 _ e) in (
      body,
      moved all (n + 1 + length h.locals + items_in_block h.body) _ _ (omega arith)
          (items_past_block all (n + 1 + length h.locals) h.body h.locals (InThread false 1) _ body),
    )

-- a procedure has its items from here on
pub record IsAt (all : List Item) (n : ℕ) (p : Procedure) : Type 0 where
  pub number : ℕ
  pub before : List (List ℕ)
  pub after : List Item
  pub stands : drop n all ≡ AProcedure p.name before
      ∷ local_items [] (variables p) (block_items (variables p) (InProcedure number) p.body after)

-- each procedure has, from the item on that is told of it
abbrev pub AreAt : List Item → List Procedure → List ℕ → Type 0
AreAt all ps starts = (q : ℕ) (p : Procedure) → slice_get ps q ≡ Some p → IsAt all (slice_index_or starts q 0) p

procedures_at : (all : List Item) (n i : ℕ) (ps : List Procedure) (before : List (List ℕ)) (w : List Item)
    → drop n all ≡ procedure_items i before ps w → AreAt all ps (origins.procedure_items n ps)
procedures_at all n i [] before w h q p e = absurd (none_or_some p e)
procedures_at all n i (x ∷ ps) before w h zero p e =
    subst (IsAt all n) (some_injective x p e) (record { number = i; before = before; after = _; stands = h })
procedures_at all n i (x ∷ ps) before w h (suc q) p e =
    procedures_at all (n + items_in_procedure x) (i + 1) ps _ w (past_procedure all n i x before _ h) q p e

behind_globals : (t : TreeView)
    → drop (first_procedure t) (items t) ≡ procedure_items 0 [] t.procedures (thread_items [] t.threads [])
behind_globals t =
    past_globals (items t) (items_in_records t.records) t.globals [] _
    (moved (items t) (0 + items_in_records t.records) _ _ (omega arith) (past_records (items t) 0 t.records [] _ refl))

pub tree_procedures_at : (t : TreeView) → AreAt (items t) t.procedures (starts_of t)
tree_procedures_at t = procedures_at (items t) (first_procedure t) 0 t.procedures [] _ (behind_globals t)

pub tree_threads_at : (t : TreeView) → drop (first_thread t) (items t) ≡ thread_items [] t.threads []
tree_threads_at t = past_procedures (items t) (first_procedure t) 0 t.procedures [] _ (behind_globals t)

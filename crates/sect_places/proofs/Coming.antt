-- The items that nodes come from say what the nodes do.
use Rattle.std.proofs.Common.{◌≡◌, ℕ, zero, suc, ◌+◌, List, [], ◌∷◌, ◌++◌, length, drop, Option, Some, None, slice_get}
use Rattle.std.proofs.Common.{refl, sym, ap, ◌∙◌, subst}
use Rattle.std.specs.{Option.{option_or}, Prelude.{slice_index_or}}
use Rattle.sect_lemmas.proofs.Options.{none_or_some, some_injective, map_part}
use Rattle.sect_lemmas.proofs.Elements.{at_front}
use Rattle.sect_front.specs.TreeView.{TreeView}
use Rattle.sect_front.specs.Syntax.{StatementView, BlockView, Primitive, If, IfElse, While, Atomic, Call, End, Then}
use Rattle.sect_front.specs.{declared.tree.Declaration.{Declaration}, declared.tree.Operand.{Operand}}
use Rattle.sect_front.specs.declared.tree.Procedure.{Procedure}
use Rattle.sect_types.specs.{declared.rules.place.Place.{Place}, declared.rules.place.Place.TheVariants.{InProcedure}}
use Rattle.sect_types.specs.{declared.counting.sums.Sums.{Sums}, declared.expansion.action.Label.{Label}}
use Rattle.sect_types.specs.declared.expansion.action.Label.TheVariants.{Act, Test, Section as WholeSection}
use Rattle.sect_types.specs.{Rules.{sight}, Sums.{number_of, sums_within}, Numbered.{value_of}}
use Rattle.sect_types.specs.Statements.{TextView, Stop, Do, Choose, Loop, Section, joined}
use Rattle.sect_types.specs.Items.{PrimitiveHead, TestHead, AtomicHead, CallHead, ALocal, AStatement, Item, deeper}
use Rattle.sect_types.specs.Items.{in_section, statement_items, block_items, local_items, variables, items}
use Rattle.sect_types.specs.Expanded.{Scene, NextNumbers, Expander, action_at, condition_at, expanded_statement}
use Rattle.sect_types.specs.Expanded.{expanded_block, past_block, past_statement, clear_locals, set_parameters}
use Rattle.sect_types.specs.Expanded.{after_call, call_of, expand_within, moved_value, cleared}
use Rattle.sect_places.specs.{declared.origin.Origin.{Origin}, ItemCounts.{items_in_statement, items_in_block}}
use Rattle.sect_places.specs.Origins.{Expansion, origin, variable_origins, statement_origins, block_origins}
use Rattle.sect_places.specs.Origins.{procedure_origins, origins_within, starts_of}
use Rattle.sect_places.specs.NodeOrigins.{labels, Says, IsCall, AreFrom}
use Rattle.sect_places.proofs.Past.{ahead}
use Rattle.sect_places.proofs.ItemPast.{items_past_statement, items_past_block, past_parameters, past_variables}
use Rattle.sect_places.proofs.{ItemPast.{tree_procedures_at}, Parts.{both_parts, all_parts}}
use Rattle.sect_types.specs.declared.expansion.action.Action.TheVariants as action

-- what statements after statements do
pub labels_joined : (x y : TextView) (w : List Label) → labels (joined x y) w ≡ labels x (labels y w)
labels_joined Stop y w = refl
labels_joined (Do a k) y w = ap (λ l. Act a ∷ l) (labels_joined k y w)
labels_joined (Choose c p q k) y w = ap (λ l. Test c ∷ labels p (labels q l)) (labels_joined k y w)
labels_joined (Loop c p k) y w = ap (λ l. Test c ∷ labels p l) (labels_joined k y w)
labels_joined (Section i p k) y w = ap (λ l. WholeSection i ∷ l) (labels_joined k y w)

module _ (t : TreeView) where
  node_from : (label : Label) (call : Option ℕ) (m : ℕ) (item : Item) (w : List Item) (ls : List Label)
      (os : List Origin) → drop m (items t) ≡ item ∷ w → Says t item label → IsCall t call → AreFrom t ls os
      → AreFrom t (label ∷ ls) (origin call m ∷ os)
  node_from label call m item w ls os h says c k =
      (record { item = item; there = at_front (items t) m item w h; says = says; called = c }, k)

  -- the assignments to parameters come from the parameters
  set_from : (v : Scene) (x m : ℕ) (ds es : List Declaration) (us : List Operand) (before : List (List ℕ))
      (w : List Item) (text : TextView) (call : Option ℕ) (ls : List Label) (os : List Origin)
      → set_parameters v x ds us ≡ Some text → drop m (items t) ≡ local_items before (ds ++ es) w → IsCall t call
      → AreFrom t ls os → AreFrom t (labels text ls) (variable_origins call m ds os)
  set_from v x m [] es [] before w text call ls os e h c k =
      subst (λ z. AreFrom t (labels z ls) os) (some_injective Stop text e) k
  set_from v x m [] es (u ∷ us) before w text call ls os e h c k = absurd (none_or_some text e)
  set_from v x m (d ∷ ds) es [] before w text call ls os e h c k = absurd (none_or_some text e)
  set_from v x m (d ∷ ds) es (u ∷ us) before w text call ls os e h c k =
      let r = both_parts (λ y z. Do (action.Assign x (moved_value v.first y)) z) (value_of v.sight u)
      (set_parameters v (x + 1) ds us) text e in
      subst (λ z. AreFrom t (labels z ls) (variable_origins call m (d ∷ ds) os)) r.4
      (node_from (Act (action.Assign x (moved_value v.first r.0))) call m (ALocal d.kind d.name before)
      (local_items (before ++ d.name ∷ []) (ds ++ es) w) (labels r.1 ls) (variable_origins call (m + 1) ds os) h
      (x, moved_value v.first r.0, refl) c
      (set_from v (x + 1) (m + 1) ds es us (before ++ d.name ∷ []) w r.1 call ls os r.3 (ahead (items t) m 1 _ h) c k))

  -- and those to locals from the locals
  cleared_from : (x m : ℕ) (ds : List Declaration) (before : List (List ℕ)) (w : List Item) (call : Option ℕ)
      (ls : List Label) (os : List Origin) → drop m (items t) ≡ local_items before ds w → IsCall t call
      → AreFrom t ls os → AreFrom t (labels (clear_locals x ds) ls) (variable_origins call m ds os)
  cleared_from x m [] before w call ls os h c k = k
  cleared_from x m (d ∷ ds) before w call ls os h c k =
      node_from (Act (action.Assign x (cleared d.kind))) call m (ALocal d.kind d.name before)
      (local_items (before ++ d.name ∷ []) ds w) (labels (clear_locals (x + 1) ds) ls)
      (variable_origins call (m + 1) ds os) h (x, cleared d.kind, refl) c
      (cleared_from (x + 1) (m + 1) ds (before ++ d.name ∷ []) w call ls os (ahead (items t) m 1 _ h) c k)

  -- the call of a thread that is expanded is one
  pub still_call : (call : Option ℕ) (m : ℕ) (f : List ℕ) (vs : List Operand) (ls : List Declaration) (at : Place)
      (w : List Item) → drop m (items t) ≡ AStatement (CallHead f vs) ls at ∷ w → IsCall t call
      → IsCall t (option_or call (Some m))
  still_call None m f vs ls at w h c = (f, vs, ls, at, at_front (items t) m (AStatement (CallHead f vs) ls at) w h)
  still_call (Some n) m f vs ls at w h c = c

  -- the nodes that stand for a call come from these
  abbrev pub CallsFrom : Expander → Expansion Origin → Type 0
  CallsFrom expander expand = (o : Option ℕ) (v : Scene) (a : NextNumbers) (vs : List Operand) (text : TextView)
      (call : Option ℕ) (ls : List Label) (os : List Origin) → expander o v a vs ≡ Some text → IsCall t call
      → AreFrom t ls os → AreFrom t (labels text ls) (expand o call os)

  abbrev pub scene_of : List Declaration → ℕ → Scene
  scene_of own first = record { sight = sight t.records t.globals own; first = first }

  module _ (table : List Sums) (expander : Expander) (expand : Expansion Origin) (g : CallsFrom expander expand)
      (own : List Declaration) (first : ℕ) where
    mutual
      pub statement_from : (a : NextNumbers) (s : StatementView) (at : Place) (m : ℕ) (w : List Item) (text : TextView)
          (call : Option ℕ) (ls : List Label) (os : List Origin)
          → expanded_statement t.procedures table expander (scene_of own first) a s ≡ Some text
          → drop m (items t) ≡ statement_items own at s w → IsCall t call → AreFrom t ls os
          → AreFrom t (labels text ls) (statement_origins t.procedures expand call m s os)
      statement_from a (Primitive p) at m w text call ls os e h c k =
          let r = map_part (λ x. Do x Stop) (action_at (scene_of own first) a p) text e in
          subst (λ z. AreFrom t (labels z ls) (origin call m ∷ os)) r.2
          (node_from (Act r.0) call m (AStatement (PrimitiveHead p) own at) w ls os h (first, a.sites, r.1) c k)
      statement_from a (If q b) at m w text call ls os e h c k =
          let r = both_parts (λ x y. Choose x y Stop Stop) (condition_at (scene_of own first) q)
          (expanded_block t.procedures table expander (scene_of own first) a b) text e in
          subst (λ z. AreFrom t (labels z ls) (statement_origins t.procedures expand call m (If q b) os)) r.4
          (node_from (Test r.0) call m (AStatement (TestHead q) own at) (block_items own (deeper at) b w)
          (labels r.1 ls) (block_origins t.procedures expand call (m + 1) b os) h (first, r.2) c
          (block_from a b (deeper at) (m + 1) w r.1 call ls os r.3 (ahead (items t) m 1 _ h) c k))
      statement_from a (IfElse q b d) at m w text call ls os e h c k =
          let second : NextNumbers = past_block t.procedures table a b in
          let r = all_parts (λ x y z. Choose x y z Stop) (condition_at (scene_of own first) q)
          (expanded_block t.procedures table expander (scene_of own first) a b)
          (expanded_block t.procedures table expander (scene_of own first) second d) text e in
          let h1 = ahead (items t) m 1 _ h in
          let h2 = items_past_block (items t) (m + 1) b own (deeper at) (block_items own (deeper at) d w) h1 in
          let n : ℕ = m + 1 + items_in_block b in
          subst (λ z. AreFrom t (labels z ls) (statement_origins t.procedures expand call m (IfElse q b d) os)) r.6
          (node_from (Test r.0) call m (AStatement (TestHead q) own at)
          (block_items own (deeper at) b (block_items own (deeper at) d w)) (labels r.1 (labels r.2 ls))
          (block_origins t.procedures expand call (m + 1) b (block_origins t.procedures expand call n d os)) h
          (first, r.3) c
          (block_from a b (deeper at) (m + 1) (block_items own (deeper at) d w) r.1 call (labels r.2 ls)
          (block_origins t.procedures expand call n d os) r.4 h1 c
          (block_from second d (deeper at) n w r.2 call ls os r.5 h2 c k)))
      statement_from a (While q b) at m w text call ls os e h c k =
          let r = both_parts (λ x y. Loop x y Stop) (condition_at (scene_of own first) q)
          (expanded_block t.procedures table expander (scene_of own first) a b) text e in
          subst (λ z. AreFrom t (labels z ls) (statement_origins t.procedures expand call m (While q b) os)) r.4
          (node_from (Test r.0) call m (AStatement (TestHead q) own at) (block_items own (deeper at) b w)
          (labels r.1 ls) (block_origins t.procedures expand call (m + 1) b os) h (first, r.2) c
          (block_from a b (deeper at) (m + 1) w r.1 call ls os r.3 (ahead (items t) m 1 _ h) c k))
      statement_from a (Atomic l b) at m w text call ls os e h c k =
          let r = map_part (λ x. Section a.sections x Stop)
          (expanded_block t.procedures table expander (scene_of own first)
          (record a { sections = a.sections + 1 }) b) text e in
          subst (λ z. AreFrom t (labels z ls) (origin call m ∷ os)) r.2
          (node_from (WholeSection a.sections) call m (AStatement AtomicHead own at)
          (block_items own (in_section at) b w) ls os h tt c k)
      statement_from a (Call f vs) at m w text call ls os e h c k =
          g (number_of t.procedures f) (scene_of own first) a vs text (option_or call (Some m)) ls os e
          (still_call call m f vs own at w h c) k

      pub block_from : (a : NextNumbers) (b : BlockView) (at : Place) (m : ℕ) (w : List Item) (text : TextView)
          (call : Option ℕ) (ls : List Label) (os : List Origin)
          → expanded_block t.procedures table expander (scene_of own first) a b ≡ Some text
          → drop m (items t) ≡ block_items own at b w → IsCall t call → AreFrom t ls os
          → AreFrom t (labels text ls) (block_origins t.procedures expand call m b os)
      block_from a End at m w text call ls os e h c k =
          subst (λ z. AreFrom t (labels z ls) os) (some_injective Stop text e) k
      block_from a (Then s b) at m w text call ls os e h c k =
          let next : NextNumbers = past_statement t.procedures table a s in
          let r = both_parts joined (expanded_statement t.procedures table expander (scene_of own first) a s)
          (expanded_block t.procedures table expander (scene_of own first) next b) text e in
          let rest : List Origin = block_origins t.procedures expand call (m + items_in_statement s) b os in
          subst (λ z. AreFrom t (labels z ls) (statement_origins t.procedures expand call m s rest)) r.4
          (subst (λ l. AreFrom t l (statement_origins t.procedures expand call m s rest))
          (sym (labels_joined r.0 r.1 ls))
          (statement_from a s at m (block_items own at b w) r.0 call (labels r.1 ls) rest r.2 h c
          (block_from next b at (m + items_in_statement s) w r.1 call ls os r.3
          (items_past_statement (items t) m s own at (block_items own at b w) h) c k)))

  -- a procedure that is called gives its variables and its statements
  called_from : (n q : ℕ) (r : Option Procedure) (v : Scene) (a : NextNumbers) (vs : List Operand) (text : TextView)
      (call : Option ℕ) (ls : List Label) (os : List Origin)
      → CallsFrom (expand_within n t.records t.globals t.procedures) (origins_within n t.procedures (starts_of t))
      → slice_get t.procedures q ≡ r
      → call_of t.records t.globals t.procedures (sums_within n t.procedures)
      (expand_within n t.records t.globals t.procedures) r (Some q) v a vs ≡ Some text
      → IsCall t call → AreFrom t ls os → AreFrom t (labels text ls) (procedure_origins t.procedures
      (origins_within n t.procedures (starts_of t)) r (slice_index_or (starts_of t) q 0) call os)
  called_from n q None v a vs text call ls os g there e c k = absurd (none_or_some text e)
  called_from n q (Some p) v a vs text call ls os g there e c k =
      let expander : Expander = expand_within n t.records t.globals t.procedures in
      let expand : Expansion Origin = origins_within n t.procedures (starts_of t) in
      let start : ℕ = slice_index_or (starts_of t) q 0 in
      let clear : TextView = clear_locals (a.fresh + length p.parameters) p.locals in
      let r = both_parts (λ x y. joined x (joined clear y)) (set_parameters v a.fresh p.parameters vs)
      (expanded_block t.procedures (sums_within n t.procedures) expander (scene_of (variables p) a.fresh)
      (after_call a p) p.body) text e in
      let at = tree_procedures_at t q p there in
      let body : List Item = block_items (variables p) (InProcedure at.number) p.body at.after in
      let h = ahead (items t) start 1 _ at.stands in
      let own = past_parameters (items t) (start + 1) p.parameters p.locals [] body h in
      let inner = past_variables (items t) (start + 1) p.parameters p.locals [] body h in
      let i : ℕ = start + 1 + length p.parameters in
      let j : ℕ = start + 1 + length p.parameters + length p.locals in
      let deep : List Origin = block_origins t.procedures expand call j p.body os in
      let all : List Origin = variable_origins call (start + 1) p.parameters
      (variable_origins call i p.locals deep) in
      subst (λ z. AreFrom t (labels z ls) all) r.4
      (subst (λ l. AreFrom t l all)
      (sym (labels_joined r.0 (joined clear r.1) ls ∙ ap (labels r.0) (labels_joined clear r.1 ls)))
      (set_from v a.fresh (start + 1) p.parameters p.locals vs [] body r.0 call (labels clear (labels r.1 ls))
      (variable_origins call i p.locals deep) r.2 h c
      (cleared_from (a.fresh + length p.parameters) i p.locals own.0 body call (labels r.1 ls) deep own.1 c
      (block_from (sums_within n t.procedures) expander expand g (variables p) a.fresh (after_call a p) p.body
      (InProcedure at.number) j at.after r.1 call ls os r.3 inner c k))))

  pub calls_from : (n : ℕ)
      → CallsFrom (expand_within n t.records t.globals t.procedures) (origins_within n t.procedures (starts_of t))
  calls_from zero o v a vs text call ls os e c k = absurd (none_or_some text e)
  calls_from (suc n) None v a vs text call ls os e c k = absurd (none_or_some text e)
  calls_from (suc n) (Some q) v a vs text call ls os e c k =
      called_from n q (slice_get t.procedures q) v a vs text call ls os (calls_from n) refl e c k

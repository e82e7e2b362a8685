-- The items that the nodes of sections come from say what the nodes do.
use Rattle.std.proofs.Common.{◌≡◌, ℕ, zero, suc, ◌+◌, List, [], ◌∷◌, ◌++◌, length, drop, Option, Some, None, slice_get}
use Rattle.std.proofs.Common.{refl, sym, ap, ◌∙◌, subst, append_assoc}
use Rattle.std.specs.{Option.{option_or}, Prelude.{slice_index_or, ⊤}}
use Rattle.sect_lemmas.proofs.Options.{none_or_some, some_injective, map_part}
use Rattle.sect_front.specs.TreeView.{TreeView}
use Rattle.sect_front.specs.Syntax.{StatementView, BlockView, Primitive, If, IfElse, While, Atomic, Call, End, Then}
use Rattle.sect_front.specs.{declared.tree.Declaration.{Declaration}, declared.tree.Operand.{Operand}}
use Rattle.sect_front.specs.declared.tree.Procedure.{Procedure}
use Rattle.sect_types.specs.{declared.rules.place.Place.{Place}, declared.rules.place.Place.TheVariants.{InProcedure}}
use Rattle.sect_types.specs.{declared.counting.sums.Sums.{Sums}, Sums.{number_of, sums_within}, Numbered.{value_of}}
use Rattle.sect_types.specs.Statements.{TextView, Stop, Do, Choose, Loop, Section, joined, section_bodies}
use Rattle.sect_types.specs.Items.{Item, deeper, in_section, statement_items, block_items, variables, items}
use Rattle.sect_types.specs.Expanded.{Scene, NextNumbers, Expander, action_at, condition_at, expanded_statement}
use Rattle.sect_types.specs.Expanded.{expanded_block, past_block, past_statement, clear_locals, set_parameters}
use Rattle.sect_types.specs.Expanded.{after_call, call_of, expand_within, moved_value}
use Rattle.sect_places.specs.{declared.origin.Origin.{Origin}, ItemCounts.{items_in_statement, items_in_block}}
use Rattle.sect_places.specs.Origins.{Expansion, block_origins, statement_sections, block_sections, procedure_sections}
use Rattle.sect_places.specs.Origins.{origins_within, sections_within, starts_of}
use Rattle.sect_places.specs.NodeOrigins.{labels, IsCall, AreFrom}
use Rattle.sect_places.proofs.Past.{ahead}
use Rattle.sect_places.proofs.ItemPast.{items_past_statement, items_past_block, past_variables, tree_procedures_at}
use Rattle.sect_places.proofs.Parts.{both_parts, all_parts}
use Rattle.sect_places.proofs.Coming.{CallsFrom, scene_of, still_call, block_from, calls_from}
use Rattle.sect_types.specs.declared.expansion.action.Action.TheVariants as action

-- the bodies of the sections, before those of what follows
abbrev pub bodies : TextView → List TextView → List TextView
bodies Stop w = w
bodies (Do a k) w = bodies k w
bodies (Choose c p q k) w = bodies p (bodies q (bodies k w))
bodies (Loop c p k) w = bodies p (bodies k w)
bodies (Section i p k) w = p ∷ bodies k w

bodies_joined : (x y : TextView) (w : List TextView) → bodies (joined x y) w ≡ bodies x (bodies y w)
bodies_joined Stop y w = refl
bodies_joined (Do a k) y w = bodies_joined k y w
bodies_joined (Choose c p q k) y w = ap (λ l. bodies p (bodies q l)) (bodies_joined k y w)
bodies_joined (Loop c p k) y w = ap (bodies p) (bodies_joined k y w)
bodies_joined (Section i p k) y w = ap (λ l. p ∷ l) (bodies_joined k y w)

pub bodies_are : (x : TextView) (w : List TextView) → bodies x w ≡ section_bodies x ++ w
bodies_are Stop w = refl
bodies_are (Do a k) w = bodies_are k w
bodies_are (Choose c p q k) w =
    bodies_are p (bodies q (bodies k w))
    ∙ ap (λ l. section_bodies p ++ l) (bodies_are q (bodies k w) ∙ ap (λ l. section_bodies q ++ l) (bodies_are k w)
    ∙ sym (append_assoc (section_bodies q) (section_bodies k) w))
    ∙ sym (append_assoc (section_bodies p) (section_bodies q ++ section_bodies k) w)
bodies_are (Loop c p k) w =
    bodies_are p (bodies k w) ∙ ap (λ l. section_bodies p ++ l) (bodies_are k w)
    ∙ sym (append_assoc (section_bodies p) (section_bodies k) w)
bodies_are (Section i p k) w = ap (λ l. p ∷ l) (bodies_are k w)

-- assignments have no sections
cleared_bodies : (x : ℕ) (ds : List Declaration) (w : List TextView) → bodies (clear_locals x ds) w ≡ w
cleared_bodies x [] w = refl
cleared_bodies x (d ∷ ds) w = cleared_bodies (x + 1) ds w

set_bodies : (v : Scene) (x : ℕ) (ds : List Declaration) (us : List Operand) (text : TextView) (w : List TextView)
    → set_parameters v x ds us ≡ Some text → bodies text w ≡ w
set_bodies v x [] [] text w e = ap (λ z. bodies z w) (sym (some_injective Stop text e))
set_bodies v x [] (u ∷ us) text w e = absurd (none_or_some text e)
set_bodies v x (d ∷ ds) [] text w e = absurd (none_or_some text e)
set_bodies v x (d ∷ ds) (u ∷ us) text w e =
    let r = both_parts (λ y z. Do (action.Assign x (moved_value v.first y)) z) (value_of v.sight u)
    (set_parameters v (x + 1) ds us) text e in
    ap (λ z. bodies z w) (sym r.4) ∙ set_bodies v (x + 1) ds us r.1 w r.3

-- the nodes of each of these texts come from there
abbrev pub AllFrom : TreeView → List TextView → List (List Origin) → Type 0
AllFrom t [] [] = ⊤
AllFrom t (x ∷ xs) (l ∷ ls) = AreFrom t (labels x []) l × AllFrom t xs ls
AllFrom t _ _ = ⊥

module _ (t : TreeView) where
  -- the sections of what stands for a call come from these
  abbrev pub SectionsFrom : Expander → Expansion (List Origin) → Type 0
  SectionsFrom expander sections = (o : Option ℕ) (v : Scene) (a : NextNumbers) (vs : List Operand) (text : TextView)
      (call : Option ℕ) (bs : List TextView) (ls : List (List Origin)) → expander o v a vs ≡ Some text → IsCall t call
      → AllFrom t bs ls → AllFrom t (bodies text bs) (sections o call ls)

  module _ (table : List Sums) (expander : Expander) (expand : Expansion Origin) (sections : Expansion (List Origin))
      (g : CallsFrom t expander expand) (k : SectionsFrom expander sections) (own : List Declaration) (first : ℕ) where
    mutual
      statement_sections_from : (a : NextNumbers) (s : StatementView) (at : Place) (m : ℕ) (w : List Item)
          (text : TextView) (call : Option ℕ) (bs : List TextView) (ls : List (List Origin))
          → expanded_statement t.procedures table expander (scene_of t own first) a s ≡ Some text
          → drop m (items t) ≡ statement_items own at s w → IsCall t call → AllFrom t bs ls
          → AllFrom t (bodies text bs) (statement_sections t.procedures expand sections call m s ls)
      statement_sections_from a (Primitive p) at m w text call bs ls e h c f =
          let r = map_part (λ x. Do x Stop) (action_at (scene_of t own first) a p) text e in
          subst (λ z. AllFrom t (bodies z bs) ls) r.2 f
      statement_sections_from a (If q b) at m w text call bs ls e h c f =
          let r = both_parts (λ x y. Choose x y Stop Stop) (condition_at (scene_of t own first) q)
          (expanded_block t.procedures table expander (scene_of t own first) a b) text e in
          subst (λ z. AllFrom t (bodies z bs) (block_sections t.procedures expand sections call (m + 1) b ls)) r.4
          (block_sections_from a b (deeper at) (m + 1) w r.1 call bs ls r.3 (ahead (items t) m 1 _ h) c f)
      statement_sections_from a (IfElse q b d) at m w text call bs ls e h c f =
          let second : NextNumbers = past_block t.procedures table a b in
          let r = all_parts (λ x y z. Choose x y z Stop) (condition_at (scene_of t own first) q)
          (expanded_block t.procedures table expander (scene_of t own first) a b)
          (expanded_block t.procedures table expander (scene_of t own first) second d) text e in
          let h1 = ahead (items t) m 1 _ h in
          let h2 = items_past_block (items t) (m + 1) b own (deeper at) (block_items own (deeper at) d w) h1 in
          let n : ℕ = m + 1 + items_in_block b in
          let rest : List (List Origin) = block_sections t.procedures expand sections call n d ls in
          subst (λ z. AllFrom t (bodies z bs) (block_sections t.procedures expand sections call (m + 1) b rest)) r.6
          (block_sections_from a b (deeper at) (m + 1) (block_items own (deeper at) d w) r.1 call (bodies r.2 bs) rest
          r.4 h1 c (block_sections_from second d (deeper at) n w r.2 call bs ls r.5 h2 c f))
      statement_sections_from a (While q b) at m w text call bs ls e h c f =
          let r = both_parts (λ x y. Loop x y Stop) (condition_at (scene_of t own first) q)
          (expanded_block t.procedures table expander (scene_of t own first) a b) text e in
          subst (λ z. AllFrom t (bodies z bs) (block_sections t.procedures expand sections call (m + 1) b ls)) r.4
          (block_sections_from a b (deeper at) (m + 1) w r.1 call bs ls r.3 (ahead (items t) m 1 _ h) c f)
      statement_sections_from a (Atomic l b) at m w text call bs ls e h c f =
          let inner : NextNumbers = record a { sections = a.sections + 1 } in
          let r = map_part (λ x. Section a.sections x Stop)
          (expanded_block t.procedures table expander (scene_of t own first) inner b) text e in
          subst (λ z. AllFrom t (bodies z bs) (block_origins t.procedures expand call (m + 1) b [] ∷ ls)) r.2 (
            block_from t table expander expand g own first inner b (in_section at) (m + 1) w r.0 call [] [] r.1
                (ahead (items t) m 1 _ h) c tt,
            f,
          )
      statement_sections_from a (Call f vs) at m w text call bs ls e h c x =
          k (number_of t.procedures f) (scene_of t own first) a vs text (option_or call (Some m)) bs ls e
          (still_call t call m f vs own at w h c) x

      pub block_sections_from : (a : NextNumbers) (b : BlockView) (at : Place) (m : ℕ) (w : List Item)
          (text : TextView) (call : Option ℕ) (bs : List TextView) (ls : List (List Origin))
          → expanded_block t.procedures table expander (scene_of t own first) a b ≡ Some text
          → drop m (items t) ≡ block_items own at b w → IsCall t call → AllFrom t bs ls
          → AllFrom t (bodies text bs) (block_sections t.procedures expand sections call m b ls)
      block_sections_from a End at m w text call bs ls e h c f =
          subst (λ z. AllFrom t (bodies z bs) ls) (some_injective Stop text e) f
      block_sections_from a (Then s b) at m w text call bs ls e h c f =
          let next : NextNumbers = past_statement t.procedures table a s in
          let r = both_parts joined (expanded_statement t.procedures table expander (scene_of t own first) a s)
          (expanded_block t.procedures table expander (scene_of t own first) next b) text e in
          let n : ℕ = m + items_in_statement s in
          let rest : List (List Origin) = block_sections t.procedures expand sections call n b ls in
          let all : List (List Origin) = statement_sections t.procedures expand sections call m s rest in
          subst (λ z. AllFrom t (bodies z bs) all) r.4
          (subst (λ l. AllFrom t l all) (sym (bodies_joined r.0 r.1 bs))
          (statement_sections_from a s at m (block_items own at b w) r.0 call (bodies r.1 bs) rest r.2 h c
          (block_sections_from next b at n w r.1 call bs ls r.3
          (items_past_statement (items t) m s own at (block_items own at b w) h) c f)))

  called_sections_from : (n q : ℕ) (r : Option Procedure) (v : Scene) (a : NextNumbers) (vs : List Operand)
      (text : TextView) (call : Option ℕ) (bs : List TextView) (ls : List (List Origin))
      → SectionsFrom (expand_within n t.records t.globals t.procedures) (sections_within n t.procedures (starts_of t))
      → slice_get t.procedures q ≡ r
      → call_of t.records t.globals t.procedures (sums_within n t.procedures)
      (expand_within n t.records t.globals t.procedures) r (Some q) v a vs ≡ Some text
      → IsCall t call → AllFrom t bs ls → AllFrom t (bodies text bs) (procedure_sections t.procedures
      (origins_within n t.procedures (starts_of t)) (sections_within n t.procedures (starts_of t)) r
      (slice_index_or (starts_of t) q 0) call ls)
  called_sections_from n q None v a vs text call bs ls g there e c f = absurd (none_or_some text e)
  called_sections_from n q (Some p) v a vs text call bs ls g there e c f =
      let expander : Expander = expand_within n t.records t.globals t.procedures in
      let expand : Expansion Origin = origins_within n t.procedures (starts_of t) in
      let sections : Expansion (List Origin) = sections_within n t.procedures (starts_of t) in
      let start : ℕ = slice_index_or (starts_of t) q 0 in
      let clear : TextView = clear_locals (a.fresh + length p.parameters) p.locals in
      let r = both_parts (λ x y. joined x (joined clear y)) (set_parameters v a.fresh p.parameters vs)
      (expanded_block t.procedures (sums_within n t.procedures) expander (scene_of t (variables p) a.fresh)
      (after_call a p) p.body) text e in
      let at = tree_procedures_at t q p there in
      let body : List Item = block_items (variables p) (InProcedure at.number) p.body at.after in
      let inner = past_variables (items t) (start + 1) p.parameters p.locals [] body
      (ahead (items t) start 1 _ at.stands) in
      let j : ℕ = start + 1 + length p.parameters + length p.locals in
      let all : List (List Origin) = block_sections t.procedures expand sections call j p.body ls in
      subst (λ z. AllFrom t (bodies z bs) all) r.4
      (subst (λ l. AllFrom t l all)
      (sym (bodies_joined r.0 (joined clear r.1) bs ∙ set_bodies v a.fresh p.parameters vs r.0 _ r.2
      ∙ bodies_joined clear r.1 bs ∙ cleared_bodies (a.fresh + length p.parameters) p.locals (bodies r.1 bs)))
      (block_sections_from (sums_within n t.procedures) expander expand sections (calls_from t n) g (variables p)
      a.fresh (after_call a p) p.body (InProcedure at.number) j at.after r.1 call bs ls r.3 inner c f))

  pub sections_from : (n : ℕ)
      → SectionsFrom (expand_within n t.records t.globals t.procedures) (sections_within n t.procedures (starts_of t))
  sections_from zero o v a vs text call bs ls e c f = absurd (none_or_some text e)
  sections_from (suc n) None v a vs text call bs ls e c f = absurd (none_or_some text e)
  sections_from (suc n) (Some q) v a vs text call bs ls e c f =
      called_sections_from n q (slice_get t.procedures q) v a vs text call bs ls (sections_from n) refl e c f

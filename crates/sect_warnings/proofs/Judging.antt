-- What may be told of sections, and where it stands.
use Rattle.std.proofs.Common.{◌≡◌, ◌<◌, ℕ, zero, suc, ◌+◌, List, [], ◌∷◌, ◌++◌, length, Option, Some, None, sym, ap}
use Rattle.std.proofs.Common.{◌∙◌, subst, inl, inr, arith, slice_get, add-one, refl, Bool, true, false, take}
use Rattle.std.proofs.lemmas.Bool.{or_right, or_from, or_parts}
use Rattle.std.specs.{Prelude.{◌||◌}, List.{list_any}}
use Rattle.std.proofs.lemmas.Option.{slice_get_within, slice_get-get_or, get_or_from_slice_get}
use Rattle.std.specs.{Prelude.{slice_index_or, option_map, All}, List.{flat_map}}
use Rattle.sect_lemmas.specs.Lists.{Has}
use Rattle.sect_lemmas.proofs.Membership.{Has-cases}
use Rattle.sect_front.specs.TreeView.{TreeView}
use Rattle.sect_types.specs.{Items.{items}, Sections.{sections_of}, Statements.{Stop}}
use Rattle.sect_types.specs.declared.expansion.action.Label.{Label}
use Rattle.sect_names.specs.{Schemes.{IsScheme}, declared.lock.Lock.{Lock}}
use Rattle.sect_places.specs.{NodeOrigins.{OriginsView, AreOrigins}, declared.origin.Origin.{Origin}}
use Rattle.sect_places.specs.{Origins.{section_origins_of}, SectionItems.{section_items_of, IsAtomicItem}}
use Rattle.sect_graph.specs.{declared.flow.Node.{Node}, Layout.{flow_nodes}}
use Rattle.sect_emit.specs.{Compiled.{CompiledView}, Explaining.{section_at}}
use Rattle.sect_conflicts.specs.{Conflicts.{set_at, Selects}, Selecting.{Adds}}
use Rattle.sect_conflicts.proofs.shared.Selecting.{adds_both}
use Rattle.sect_warnings.specs.declared.warning.Warning.{Warning}
use Rattle.sect_warnings.specs.Warnings.{class_at, IsDue, through, unfilled_at, at_node, to_node, at_section}
use Rattle.sect_warnings.specs.Warnings.{to_section}
use Rattle.sect_names.specs.declared.lock.Lock.TheVariants as lock
use Rattle.sect_names.specs.declared.lock.Right.TheVariants as right

-- where each element has the property, all are chosen
selects_all : {X : Type 0} (P : X → Type 0) (xs : List X) → ((x : X) → Has xs x → P x) → Selects P xs xs
selects_all P [] each = refl
selects_all P (x ∷ xs) each = inl (xs, each x (inl refl), refl, selects_all P xs (λ y h. each y (inr h)))

module _ (most : ℕ) where
  unfilled_within : (i j item : ℕ) (x : Option ℕ) → item < most → (w : Warning) → Has (unfilled_at i j item x) w
      → w.item < most
  unfilled_within i j item None within w h = absurd h
  unfilled_within i j item (Some x) within w (inl e) = subst (λ (v : Warning). v.item < most) e within
  unfilled_within i j item (Some x) within w (inr none) = absurd none

  node_within : (i j : ℕ) (n : Option Node) (o : Option Origin) → ((x : Origin) → o ≡ Some x → x.item < most)
      → (w : Warning) → Has (at_node i j n o) w → w.item < most
  node_within i j None o each w h = absurd h
  node_within i j (Some n) None each w h = absurd h
  node_within i j (Some n) (Some o) each w h = unfilled_within i j o.item (through n.label) (each o refl) w h

  nodes_within : (i : ℕ) (nodes : List Node) (origins : List Origin)
      → ((j : ℕ) (o : Origin) → slice_get origins j ≡ Some o → o.item < most) → (j : ℕ) (w : Warning)
      → Has (to_node i nodes origins j) w → w.item < most
  nodes_within i nodes origins each zero w h = absurd h
  nodes_within i nodes origins each (suc j) w h =
      elim (Has-cases (to_node i nodes origins j) (at_node i j (slice_get nodes j) (slice_get origins j)) w h) [
        | inl before ↦ nodes_within i nodes origins each j w before
        | inr here ↦ node_within i j (slice_get nodes j) (slice_get origins j) (each j) w here
      ]

  class_within : (i item : ℕ) → item < most → (l : Lock) (w : Warning) → Has (class_at i item l) w → w.item < most
  class_within i item within lock.All w h = absurd h
  class_within i item within (lock.Class n right.Read) w (inl e) = subst (λ (v : Warning). v.item < most) e within
  class_within i item within (lock.Class n right.Read) w (inr none) = absurd none
  class_within i item within (lock.Class n right.Write) w (inl e) = subst (λ (v : Warning). v.item < most) e within
  class_within i item within (lock.Class n right.Write) w (inr none) = absurd none
  class_within i item within (lock.Class n right.Make) w h = absurd h
  class_within i item within (lock.Path p e) w h = absurd h

  classes_within : (i item : ℕ) → item < most → (ls : List Lock) (w : Warning) → Has (flat_map (class_at i item) ls) w
      → w.item < most
  classes_within i item within [] w h = absurd h
  classes_within i item within (l ∷ ls) w h = elim (Has-cases (class_at i item l) (flat_map (class_at i item) ls) w h)
      [ inl here ↦ class_within i item within l w here | inr later ↦ classes_within i item within ls w later ]

  section_within : (c : CompiledView) (i item : ℕ) (origins : List Origin) → item < most
      → ((j : ℕ) (o : Origin) → slice_get origins j ≡ Some o → o.item < most) → (w : Warning)
      → Has (at_section c i item origins) w → w.item < most
  section_within c i item origins within each w (inl e) = subst (λ (v : Warning). v.item < most) e within
  section_within c i item origins within each w (inr (inl e)) = subst (λ (v : Warning). v.item < most) e within
  section_within c i item origins within each w (inr (inr h)) =
      let nodes = flow_nodes (section_at c i).body in
      elim (Has-cases (flat_map (class_at i item) (set_at c i)) (to_node i nodes origins (length origins)) w h) [
        | inl class ↦ classes_within i item within (set_at c i) w class
        | inr node ↦ nodes_within i nodes origins each (length origins) w node
      ]

  -- what may be told of the first sections stands at items that are there
  pub all_within : (c : CompiledView) (n : ℕ)
      → ((i : ℕ) → i < n → slice_index_or (section_items_of c.scheme.program.source) i 0 < most)
      → ((i : ℕ) → i < n → (j : ℕ) (o : Origin)
      → slice_get (slice_index_or (section_origins_of c.scheme.program.source) i []) j ≡ Some o → o.item < most)
      → (w : Warning) → Has (to_section c n) w → w.item < most
  all_within c zero items origins w h = absurd h
  all_within c (suc n) items origins w h =
      let tree = c.scheme.program.source in
      elim (Has-cases (to_section c n) (at_section c n (slice_index_or (section_items_of tree) n 0)
      (slice_index_or (section_origins_of tree) n [])) w h) [
        | inl before ↦ all_within c n (λ i lt. items i (omega arith)) (λ i lt. origins i (omega arith)) w before
        | inr here ↦ section_within c n (slice_index_or (section_items_of tree) n 0)
            (slice_index_or (section_origins_of tree) n []) (items n (omega arith)) (origins n (omega arith)) w here
      ]

module _ (c : CompiledView) where
  -- that a class is locked by one of a section's locks is due
  class_due : (i item : ℕ) (l : Lock) → Has (set_at c i) l → (w : Warning) → Has (class_at i item l) w → IsDue c w
  class_due i item lock.All has w h = absurd h
  class_due i item (lock.Class n right.Read) has w (inl e) = subst (IsDue c) e has
  class_due i item (lock.Class n right.Read) has w (inr none) = absurd none
  class_due i item (lock.Class n right.Write) has w (inl e) = subst (IsDue c) e has
  class_due i item (lock.Class n right.Write) has w (inr none) = absurd none
  class_due i item (lock.Class n right.Make) has w h = absurd h
  class_due i item (lock.Path p e) has w h = absurd h

  classes_due : (i item : ℕ) (ls : List Lock) → ((l : Lock) → Has ls l → Has (set_at c i) l) → (w : Warning)
      → Has (flat_map (class_at i item) ls) w → IsDue c w
  classes_due i item [] among w h = absurd h
  classes_due i item (l ∷ ls) among w h =
      elim (Has-cases (class_at i item l) (flat_map (class_at i item) ls) w h) [
        | inl here ↦ class_due i item l (among l (inl refl)) w here
        | inr later ↦ classes_due i item ls (λ k in_ls. among k (inr in_ls)) w later
      ]

  -- so all of them come to the list
  pub adds_classes : (i item : ℕ) (old new : List Warning) → new ≡ old ++ flat_map (class_at i item) (set_at c i)
      → Adds (IsDue c) (flat_map (class_at i item) (set_at c i)) old new
  adds_classes i item old new is = (
    flat_map (class_at i item) (set_at c i),
    is,
    selects_all (IsDue c) (flat_map (class_at i item) (set_at c i)) (classes_due i item (set_at c i) (λ l h. h)),
  )

  -- one node more
  pub next_node : (i : ℕ) (nodes : List Node) (origins : List Origin) (j : ℕ) (l : Label) (o : Origin)
      (old mid new : List Warning) → option_map (λ (n : Node). n.label) (slice_get nodes j) ≡ Some l
      → slice_get origins j ≡ Some o → Adds (IsDue c) (to_node i nodes origins j) old mid
      → Adds (IsDue c) (unfilled_at i j o.item (through l)) mid new
      → Adds (IsDue c) (to_node i nodes origins (j + 1)) old new
  next_node i nodes origins j l o old mid new label there before here =
      subst (λ m. Adds (IsDue c) (to_node i nodes origins m) old new) (sym (add-one j))
      (adds_both (IsDue c) (to_node i nodes origins j) (at_node i j (slice_get nodes j) (slice_get origins j)) old mid
      new before (subst (λ ws. Adds (IsDue c) ws mid new) (sym (same (slice_get nodes j) label)) here))
    where
      same : (n : Option Node) → option_map (λ (n : Node). n.label) n ≡ Some l
          → at_node i j n (slice_get origins j) ≡ unfilled_at i j o.item (through l)
      same None e = absurd cc
      same (Some n) e = ap (at_node i j (Some n)) there
          ∙ ap (λ k. unfilled_at i j o.item (through k)) (let is : n.label ≡ l = cc in is)

  -- and one section more
  pub next_section : (i item : ℕ) (origins : List Origin) (old mid new : List Warning)
      → slice_index_or (section_items_of c.scheme.program.source) i 0 ≡ item
      → slice_index_or (section_origins_of c.scheme.program.source) i [] ≡ origins
      → Adds (IsDue c) (to_section c i) old mid
      → Adds (IsDue c) (at_section c i item origins) mid new
      → Adds (IsDue c) (to_section c (i + 1)) old new
  next_section i item origins old mid new items are before here =
      subst (λ m. Adds (IsDue c) (to_section c m) old new) (sym (add-one i))
      (adds_both (IsDue c) (to_section c i) _ old mid new before
      (subst (λ k. Adds (IsDue c) (at_section c i k
      (slice_index_or (section_origins_of c.scheme.program.source) i [])) mid new) (sym items)
      (subst (λ os. Adds (IsDue c) (at_section c i item os) mid new) (sym are) here)))

  module _ (scheme : IsScheme c.scheme) (i : ℕ) (within : i < length (sections_of c.scheme.program.texts)) where
    pub section_is : slice_get (sections_of c.scheme.program.texts) i ≡ Some (section_at c i)
    section_is = slice_get-get_or (sections_of c.scheme.program.texts) i (record { thread = 0; body = Stop }) within

    -- the graph of a section
    pub flow_is : (flow : List Node) → slice_get c.scheme.graphs.sections i ≡ Some flow
        → flow ≡ flow_nodes (section_at c i).body
    flow_is flow at = (scheme.graphed.sections i (section_at c i) flow section_is at).nodes

    -- its nodes come from as many places
    pub origins_many : (o : OriginsView) → AreOrigins c.scheme.program o → (list : List Origin)
        → slice_get o.sections i ≡ Some list → length list ≡ length (flow_nodes (section_at c i).body)
    origins_many o are list at =
        let many = scheme.graphed.section_count in
        let graph = slice_get-get_or c.scheme.graphs.sections i [] (omega (arith, within, many)) in
        let is = scheme.graphed.sections i (section_at c i) _ section_is graph in
        (are.sections i (section_at c i) list section_is at).many ∙ sym is.count ∙ ap length is.nodes

    -- all of them are items
    pub origins_within : (o : OriginsView) → AreOrigins c.scheme.program o → (j : ℕ) (x : Origin)
        → slice_get (slice_index_or (section_origins_of c.scheme.program.source) i []) j ≡ Some x
        → x.item < length (items c.scheme.program.source)
    origins_within o are j x at =
        let many = are.section_count in
        let list : List Origin = slice_index_or o.sections i [] in
        let there = slice_get-get_or o.sections i [] (omega (arith, within, many)) in
        let of = are.sections i (section_at c i) list section_is there in
        let here : slice_get list j ≡ Some x =
        subst (λ (l : List (List Origin)). slice_get (slice_index_or l i []) j ≡ Some x) (sym are.sections_are) at in
        subst (λ (y : Origin). y.item < length (items c.scheme.program.source))
        (get_or_from_slice_get list j x x here) (of.within j x (slice_get_within list j x here))

-- the item of a section is one
pub item_within : (t : TreeView) (list : List ℕ) → list ≡ section_items_of t → All (IsAtomicItem t) list → (i : ℕ)
    → i < length list → slice_index_or (section_items_of t) i 0 < length (items t)
item_within t list are each i lt =
    let there = each i 0 lt in
    subst (λ l. slice_index_or l i 0 < length (items t)) are (slice_get_within (items t) _ _ there.2)

-- where one of a list is, some is; and where none of the first is nor the next, none of one more is
pub any_found : {X : Type 0} (f : X → Bool) (xs : List X) (j : ℕ) (x : X) → slice_get xs j ≡ Some x → f x ≡ true
    → list_any f xs ≡ true
any_found f [] j x at is = absurd cc
any_found {X} f (y ∷ ys) zero x at is =
    let same : y ≡ x = cc in ap (λ (z : X). f z || list_any f ys) same ∙ ap (λ b. b || list_any f ys) is
any_found f (y ∷ ys) (suc j) x at is = or_right (f y) (list_any f ys) (any_found f ys j x at is)

pub none_more : {X : Type 0} (f : X → Bool) (xs : List X) (j : ℕ) (x : X) → slice_get xs j ≡ Some x
    → list_any f (take j xs) ≡ false → f x ≡ false → list_any f (take (suc j) xs) ≡ false
none_more f [] j x at before isnt = absurd cc
none_more {X} f (y ∷ ys) zero x at before isnt =
    let same : y ≡ x = cc in or_from (f y) (list_any f (take 0 ys)) (ap (λ (z : X). f z) same ∙ isnt) refl
none_more f (y ∷ ys) (suc j) x at before isnt =
    let both = or_parts (f y) (list_any f (take j ys)) before in
    or_from (f y) (list_any f (take (suc j) ys)) both.0 (none_more f ys j x at both.1 isnt)

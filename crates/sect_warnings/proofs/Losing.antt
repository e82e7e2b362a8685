-- Loads and stores of sections, and the pairs of them by which updates are lost.
use Rattle.std.proofs.Common.{◌⊎◌, ◌≡◌, ◌<◌, ℕ, zero, suc, ◌+◌, List, [], ◌∷◌, ◌++◌, take, fold, length}
use Rattle.std.proofs.Common.{Option, Some, None}
use Rattle.std.proofs.Common.{Bool, true, false, get_or, refl, sym, ap, ◌∙◌, subst, inl, inr, arith, add-one, slice_get}
use Rattle.std.proofs.{lemmas.List.{append_assoc, append-nil, map-append}, Math.Seq.{take-suc}}
use Rattle.std.specs.{Prelude.{⊤, option_map, slice_index_or, if◌then◌else◌}, List.{flat_map}}
use Rattle.sect_lemmas.specs.Lists.{Has}
use Rattle.sect_lemmas.proofs.{Membership.{Has-cases, Has-get_or, Has-unmap}, Inserting.{behind}}
use Rattle.sect_types.specs.{Sections.{sections_of}, declared.expansion.action.Field.{Field}}
use Rattle.sect_types.specs.declared.expansion.action.Label.{Label}
use Rattle.sect_graph.specs.{declared.flow.Node.{Node}, Layout.{flow_nodes}}
use Rattle.sect_places.specs.{declared.origin.Origin.{Origin}, Origins.{section_origins_of}}
use Rattle.sect_names.specs.declared.lock.{Effect.{Effect}, Effect.TheVariants.{Read, Write}}
use Rattle.sect_emit.specs.{Compiled.{CompiledView}, Explaining.{section_at}}
use Rattle.sect_conflicts.specs.{Selecting.{Adds}}
use Rattle.sect_conflicts.proofs.shared.Selecting.{adds_both, selected}
use Rattle.sect_warnings.specs.declared.{access.Access.{Access}, lost.LostUpdate.{LostUpdate}}
use Rattle.sect_warnings.specs.declared.warning.Warning.{Warning}
use Rattle.sect_warnings.specs.Lost.{accessed, found_at, at_node, to_node, in_section, to_section, accesses, IsLost}
use Rattle.sect_warnings.specs.Lost.{with_stores, all_pairs, with_update, has_store, once, AreLost}
use Rattle.sect_warnings.specs.Warnings.{IsDue, AreOfFlows, lost_warning}

-- ---- loads and stores

module _ (e : Effect) where
  -- one node more
  pub access_more : (i : ℕ) (nodes : List Node) (origins : List Origin) (j : ℕ) (l : Label) (o : Origin)
      (before old new : List Access) → option_map (λ (n : Node). n.label) (slice_get nodes j) ≡ Some l
      → slice_get origins j ≡ Some o → old ≡ before ++ to_node e i nodes origins j
      → new ≡ old ++ found_at i j o.item (accessed e l) → new ≡ before ++ to_node e i nodes origins (j + 1)
  access_more i nodes origins j l o before old new label there is more =
      more ∙ ap (λ us. us ++ found_at i j o.item (accessed e l)) is
      ∙ append_assoc before (to_node e i nodes origins j) (found_at i j o.item (accessed e l))
      ∙ ap (λ us. before ++ (to_node e i nodes origins j ++ us)) (sym (same (slice_get nodes j) label))
      ∙ ap (λ k. before ++ to_node e i nodes origins k) (sym (add-one j))
    where
      same : (n : Option Node) → option_map (λ (n : Node). n.label) n ≡ Some l
          → at_node e i j n (slice_get origins j) ≡ found_at i j o.item (accessed e l)
      same None is = absurd cc
      same (Some n) is = ap (at_node e i j (Some n)) there
          ∙ ap (λ k. found_at i j o.item (accessed e k)) (let one : n.label ≡ l = cc in one)

  -- one section more
  pub section_more : (c : CompiledView) (i : ℕ) (origins : List Origin) (old new : List Access)
      → slice_index_or (section_origins_of c.scheme.program.source) i [] ≡ origins → old ≡ to_section e c i
      → new ≡ old ++ in_section e c i origins → new ≡ to_section e c (i + 1)
  section_more c i origins old new are is more =
      more ∙ ap (λ us. us ++ in_section e c i origins) is
      ∙ ap (λ os. to_section e c i ++ in_section e c i os) (sym are)
      ∙ ap (to_section e c) (sym (add-one i))

  -- they stand in their section, at the item that their node comes from
  found_there : (i j item : ℕ) (o : Option (Field × ℕ)) (a : Access) → Has (found_at i j item o) a
      → (a.section ≡ i) × (a.item ≡ item)
  found_there i j item None a h = absurd h
  found_there i j item (Some x) a (inl is) =
      (ap (λ (b : Access). b.section) (sym is), ap (λ (b : Access). b.item) (sym is))
  found_there i j item (Some x) a (inr none) = absurd none

  module _ (P : ℕ → Type 0) where
    node_there : (i j : ℕ) (n : Option Node) (o : Option Origin) → ((x : Origin) → o ≡ Some x → P x.item)
        → (a : Access) → Has (at_node e i j n o) a → (a.section ≡ i) × P a.item
    node_there i j None o each a h = absurd h
    node_there i j (Some n) None each a h = absurd h
    node_there i j (Some n) (Some o) each a h =
        let there = found_there i j o.item (accessed e n.label) a h in
        (there.0, subst P (sym there.1) (each o refl))

    nodes_there : (i : ℕ) (nodes : List Node) (origins : List Origin)
        → ((j : ℕ) (o : Origin) → slice_get origins j ≡ Some o → P o.item) → (j : ℕ) (a : Access)
        → Has (to_node e i nodes origins j) a → (a.section ≡ i) × P a.item
    nodes_there i nodes origins each zero a h = absurd h
    nodes_there i nodes origins each (suc j) a h = elim (Has-cases (to_node e i nodes origins j)
        (at_node e i j (slice_get nodes j) (slice_get origins j)) a h) [
          | inl before ↦ nodes_there i nodes origins each j a before
          | inr here ↦ node_there i j (slice_get nodes j) (slice_get origins j) (each j) a here
        ]

    pub accesses_there : (c : CompiledView) (n : ℕ)
        → ((i : ℕ) → i < n → (j : ℕ) (o : Origin)
        → slice_get (slice_index_or (section_origins_of c.scheme.program.source) i []) j ≡ Some o → P o.item)
        → (a : Access) → Has (to_section e c n) a → (a.section < n) × P a.item
    accesses_there c zero each a h = absurd h
    accesses_there c (suc n) each a h =
        let origins = slice_index_or (section_origins_of c.scheme.program.source) n [] in
        elim (Has-cases (to_section e c n) (in_section e c n origins) a h) [
          | inl before ↦ (let there = accesses_there c n (λ i lt. each i (omega (arith, lt))) a before in
              (omega (arith, there.0), there.1))
          | inr here ↦ (let there = nodes_there n (flow_nodes (section_at c n).body) origins (each n (omega arith))
              (length origins) a here in
              (omega (arith, there.0), there.1))
        ]

-- the sections of all are there
pub in_sections : (e : Effect) (c : CompiledView) (a : Access) → Has (accesses e c) a
    → a.section < length (sections_of c.scheme.program.texts)
in_sections e c a h =
    (accesses_there e (λ item. ⊤) c (length (sections_of c.scheme.program.texts)) (λ i lt j o at. tt) a h).0

pub in_section_at : (e : Effect) (c : CompiledView) (us : List Access) (k : ℕ) (d : Access) → us ≡ accesses e c
    → k < length us → (get_or us k d).section < length (sections_of c.scheme.program.texts)
in_section_at e c us k d are within = in_sections e c (get_or us k d) (subst (λ l. Has l (get_or us k d)) are
    (Has-get_or us k d within))

-- ---- pairs of them

pairs_with : (stores : List Access) (l : Access) (u : LostUpdate) → Has (with_stores stores l) u
    → (u.load ≡ l) × Has stores u.store
pairs_with stores l u h =
    let from = Has-unmap (λ (s : Access). record { load = l; store = s }) stores u h in (
      ap (λ (v : LostUpdate). v.load) (sym from.2),
      subst (Has stores) (ap (λ (v : LostUpdate). v.store) from.2) from.1,
    )

pub pairs_of : (stores loads : List Access) (u : LostUpdate) → Has (flat_map (with_stores stores) loads) u
    → Has loads u.load × Has stores u.store
pairs_of stores [] u h = absurd h
pairs_of stores (l ∷ ls) u h = elim (Has-cases (with_stores stores l) (flat_map (with_stores stores) ls) u h) [
  | inl here ↦ (let with = pairs_with stores l u here in (inl (sym with.0), with.1))
  | inr later ↦ (let with = pairs_of stores ls u later in (inr with.0, with.1))
]

module _ (P : LostUpdate → Type 0) where
  -- one store more
  pub next_store : (load : Access) (stores : List Access) (k : ℕ) (d : Access) (old mid new : List LostUpdate)
      → k < length stores → Adds P (with_stores (take k stores) load) old mid
      → Adds P (record { load = load; store = get_or stores k d } ∷ []) mid new
      → Adds P (with_stores (take (k + 1) stores) load) old new
  next_store load stores k d old mid new within before here =
      let x = get_or stores k d in
      subst (λ us. Adds P us old new) (sym (ap (λ n. with_stores (take n stores) load) (add-one k)
      ∙ ap (λ ss. with_stores ss load) (take-suc stores k d within)
      ∙ map-append (λ (s : Access). record { load = load; store = s }) (take k stores) (x ∷ [])))
      (adds_both P (with_stores (take k stores) load) (record { load = load; store = x } ∷ []) old mid new before here)

  flat_more : (stores xs : List Access) (x : Access)
      → flat_map (with_stores stores) (xs ++ x ∷ []) ≡ flat_map (with_stores stores) xs ++ with_stores stores x
  flat_more stores [] x = append-nil (with_stores stores x)
  flat_more stores (y ∷ xs) x =
      ap (λ us. with_stores stores y ++ us) (flat_more stores xs x)
      ∙ sym (append_assoc (with_stores stores y) (flat_map (with_stores stores) xs) (with_stores stores x))

  -- one load more
  pub next_load : (stores loads : List Access) (k : ℕ) (d : Access) (old mid new : List LostUpdate)
      → k < length loads → Adds P (flat_map (with_stores stores) (take k loads)) old mid
      → Adds P (with_stores stores (get_or loads k d)) mid new
      → Adds P (flat_map (with_stores stores) (take (k + 1) loads)) old new
  next_load stores loads k d old mid new within before here =
      let x = get_or loads k d in
      subst (λ us. Adds P us old new) (sym (ap (λ n. flat_map (with_stores stores) (take n loads)) (add-one k)
      ∙ ap (flat_map (with_stores stores)) (take-suc loads k d within) ∙ flat_more stores (take k loads) x))
      (adds_both P (flat_map (with_stores stores) (take k loads)) (with_stores stores x) old mid new before here)

-- ---- of each store the first

with_cases : (b : Bool) (us : List LostUpdate) (u v : LostUpdate) → Has (if b then us else us ++ u ∷ []) v
    → Has us v ⊎ (v ≡ u)
with_cases true us u v h = inl h
with_cases false us u v h = (behind us u v).0 h

folded : (us before : List LostUpdate) (v : LostUpdate) → Has (fold with_update before us) v → Has before v ⊎ Has us v
folded [] before v h = inl h
folded (u ∷ us) before v h = elim (folded us (with_update before u) v h) [
  | inl there ↦ elim (with_cases (has_store before u.store) before u v there)
      [ inl earlier ↦ inl earlier | inr is ↦ inr (inl (sym is)) ]
  | inr later ↦ inr (inr later)
]

once_among : (us : List LostUpdate) (v : LostUpdate) → Has (once us) v → Has us v
once_among us v h = elim (folded us [] v h) [ inl none ↦ absurd none | inr there ↦ there ]

-- a lost update is one of a load and a store of the program
pub lost_is : (c : CompiledView) (us : List LostUpdate) → AreLost c us → (u : LostUpdate) → Has us u
    → Has (accesses Read c) u.load × Has (accesses Write c) u.store × IsLost c u
lost_is c us (all, chosen, is) u h =
    let told = selected (IsLost c) (all_pairs c) all chosen u (once_among all u (subst (λ l. Has l u) is h)) in
    let pair = pairs_of (accesses Write c) (accesses Read c) u told.0 in
    (pair.0, pair.1, told.1)

module _ (c : CompiledView) (ws : List Warning) (are : AreOfFlows c ws) where
  from_update : (w : Warning) → Has ws w → (u : LostUpdate) × Has are.0 u × (lost_warning u ≡ w)
  from_update w h = Has-unmap lost_warning are.0 w (subst (λ l. Has l w) are.2 h)

  -- each of these warnings is due
  pub flows_due : (w : Warning) → Has ws w → IsDue c w
  flows_due w h =
      let (u, there, is) = from_update w h in
      let told = lost_is c are.0 are.1 u there in
      subst (IsDue c) is (refl, told.0, told.1, told.2)

  -- and stands at the item of its store
  pub flows_at : (w : Warning) → Has ws w → (a : Access) × Has (accesses Write c) a × (w.item ≡ a.item)
  flows_at w h =
      let (u, there, is) = from_update w h in
      (u.store, (lost_is c are.0 are.1 u there).1, ap (λ (v : Warning). v.item) (sym is))

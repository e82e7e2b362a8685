-- What nodes and sections come from lies in their text.
use Rattle.std.proofs.Common.{◌≡◌, ◌<◌, ℕ, zero, suc, List, [], ◌∷◌, length, map, get_or, Option, Some, None, sym}
use Rattle.std.proofs.{Common.{subst, arith}, lemmas.List.{length-map, get_or-map}, lemmas.Option.{slice_get_within}}
use Rattle.std.specs.{Prelude.{All}, Option.{option_map}}
use Rattle.sect_front.specs.{FaultPlaces.{IsWithin}, TreeView.{TreeView}, declared.span.Span.{Span}}
use Rattle.sect_types.specs.Items.{items}
use Rattle.sect_places.specs.{NodeSpans.{item_span, node_span, IsCallWithin, IsNodeWithin}, SectionItems.{IsAtomicItem}}
use Rattle.sect_places.specs.{Spans.{AreProper}, declared.origin.Origin.{Origin}}
use Rattle.sect_places.specs.steps.Placed.{IsAmong, IsPlaced}

item_within : (total : ℕ) (spans : List Span) → AreProper total spans → (n : ℕ) → n < length spans
    → IsWithin total (item_span spans n)
item_within total [] proper n inside = absurd (omega (arith, inside))
item_within total (s ∷ ss) proper zero inside = let least = proper.0.0 in (omega (arith, least), proper.0.1)
item_within total (s ∷ ss) proper (suc n) inside = item_within total ss proper.1 n (omega (arith, inside))

module _ (total : ℕ) (spans : List Span) (proper : AreProper total spans) where
  call_within : (call : Option ℕ) → IsAmong (length spans) call → IsCallWithin total (option_map (item_span spans) call)
  call_within None inside = tt
  call_within (Some n) inside = item_within total spans proper n inside

  node_within : (o : Origin) → IsPlaced (length spans) o → IsNodeWithin total (node_span spans o)
  node_within o placed = record {
    item = item_within total spans proper o.item placed.item;
    call = call_within o.call placed.call;
  }

  text_within : (os : List Origin) → All (IsPlaced (length spans)) os
      → All (IsNodeWithin total) (map (node_span spans) os)
  text_within os placed k d within =
      let first : Origin = record { item = 0; call = None } in
      let inside : k < length os = omega (arith, within, length-map os (node_span spans)) in
      subst (IsNodeWithin total) (sym (get_or-map (node_span spans) os k first d inside))
      (node_within (get_or os k first) (placed k first inside))

  -- the nodes of texts
  pub texts_within : (texts : List (List Origin)) → All (All (IsPlaced (length spans))) texts
      → All (All (IsNodeWithin total)) (map (map (node_span spans)) texts)
  texts_within texts placed k d within =
      let inside : k < length texts = omega (arith, within, length-map texts (map (node_span spans))) in
      subst (All (IsNodeWithin total)) (sym (get_or-map (map (node_span spans)) texts k [] d inside))
      (text_within (get_or texts k []) (placed k [] inside))

  -- items
  pub items_within : (ns : List ℕ) → All (λ n. n < length spans) ns
      → All (IsWithin total) (map (item_span spans) ns)
  items_within ns placed k d within =
      let inside : k < length ns = omega (arith, within, length-map ns (item_span spans)) in
      subst (IsWithin total) (sym (get_or-map (item_span spans) ns k 0 d inside))
      (item_within total spans proper (get_or ns k 0) (placed k 0 inside))

-- the sections of a tree are items of it
pub atomics_within : (t : TreeView) (ns : List ℕ) → All (IsAtomicItem t) ns → (count : ℕ) → count ≡ length (items t)
    → All (λ n. n < count) ns
atomics_within t ns atomic count same k d within =
    let found = atomic k d within in
    subst (λ n. get_or ns k d < n) (sym same) (slice_get_within (items t) (get_or ns k d) _ found.2)

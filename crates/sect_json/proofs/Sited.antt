-- Names and fields that are there.
use Rattle.std.proofs.Common.{◌≡◌, ◌≤◌, ◌<◌, ℕ, zero, suc, List, [], ◌∷◌, Option, Some, None, length, map, refl, subst}
use Rattle.std.proofs.{Common.{arith, get_or}, lemmas.List.{length-map}}
use Rattle.std.specs.Prelude.{All, slice_get, slice_index_or}
use Rattle.sect_front.specs.{declared.tree.Record.{Record}, declared.tree.Declaration.{Declaration}}
use Rattle.sect_types.specs.Environments.{type_of, types_of}
use Rattle.sect_types.specs.Programs.{ProgramView, IsOfTree, IsWithinLimits, sites_of}
use Rattle.sect_types.specs.Sight.{names_of_declared, names_of_records, all_fields}
use Rattle.sect_types.specs.declared.declarations.types.ValueType.{ValueType}
use Rattle.sect_places.specs.{NodeSpans.{IsCallWithin}, declared.name_use.NameSpan.{NameSpan}}
use Rattle.sect_places.proofs.shared.Names.{name_proper}
use Rattle.sect_lint.specs.Naming.{found}
use Rattle.sect_store.specs.Printing.{fields_at}
use Rattle.sect_json.specs.Sites.{name_bytes}
use Rattle.sect_json.specs.steps.Inspected.{AreNamesWithin}

-- a record has as many fields by name as by type
few : (names : List (List ℕ)) (rs : List Record) (i : ℕ)
    → ((k : ℕ) (d : List ValueType) → k < length (map (λ (r : Record). types_of names r.fields) rs)
    → length (get_or (map (λ (r : Record). types_of names r.fields) rs) k d) ≤ 16)
    → length (slice_index_or (all_fields rs) i []) ≤ 16
few names [] i h = omega arith
few names (r ∷ rs) zero h =
    let by_name : length (names_of_declared r.fields) ≡ length r.fields =
    length-map r.fields (λ (d : Declaration). d.name) in
    let by_type : length (types_of names r.fields) ≡ length r.fields =
    length-map r.fields (λ (d : Declaration). type_of names d.kind) in
    let most : length (types_of names r.fields) ≤ 16 = h 0 [] (omega arith) in
    omega (arith, most, by_name, by_type)
few names (r ∷ rs) (suc i) h = few names rs i (λ k d lt. h (suc k) d (omega (arith, lt)))

-- a site has few fields
pub few_fields : (p : ProgramView) → IsOfTree p → IsWithinLimits p → (s : ℕ) → length (fields_at p s) ≤ 16
few_fields p tree limits s =
    few (names_of_records p.source.records) p.source.records (slice_index_or (sites_of p.globals p.texts) s 0)
    (subst (All (λ (ts : List ValueType). length ts ≤ 16)) tree.records_are limits.few_fields)

module _ (total : ℕ) (names : List NameSpan) (within : AreNamesWithin total names) where
  by_number : (k : ℕ) (n : Option NameSpan) → slice_get names k ≡ n → IsCallWithin total (name_bytes n)
  by_number k None e = tt
  by_number k (Some n) e = let p = name_proper total names k n within e in (omega (arith, p.0), p.1)

  -- the bytes of a name that is found
  pub found_within : (o : Option ℕ) → IsCallWithin total (name_bytes (found names o))
  found_within None = tt
  found_within (Some k) = by_number k (slice_get names k) refl

-- What is found among names lies where they lie.
use Rattle.std.proofs.Common.{ℕ, List, [], ◌∷◌, Option, Some, None, map, filter, subst, sym, ⊎_elim, arith}
use Rattle.std.proofs.{lemmas.List.Elements.{All-nil, All-cons, All-filter, All-map}, lemmas.Option.{slice_get_cases}}
use Rattle.std.specs.Prelude.{option_and_then, slice_get}
use Rattle.sect_front.specs.FaultPlaces.{IsWithin}
use Rattle.sect_places.specs.{Spans.{AreProper}, declared.name_use.NameSpan.{NameSpan}, declared.name_use.Role.{Role}}
use Rattle.sect_lint.specs.Naming.{found, field_by}
use Rattle.sect_editor.specs.{declared.position.Encoding.{Encoding}, declared.position.Place.{Place}}
use Rattle.sect_editor.specs.Queries.{declared_at, uses_by}
use Rattle.sect_editor.specs.Referring.{base_record, declaration_by, declaration_of, name_at, refers}
use Rattle.sect_editor.specs.steps.Naming.{IsNameWithin, AreNamesWithin, AreSpansWithin, IsFoundWithin}
use Rattle.sect_places.specs.declared.name_use.Role.TheVariants as role

-- names whose spans are proper
pub proper_within : (total : ℕ) (names : List NameSpan) → AreProper total (map (λ n. n.span) names)
    → AreNamesWithin total names
proper_within total [] h = All-nil (IsNameWithin total)
proper_within total (n ∷ ns) h =
    let first = h.0 in
    All-cons (IsNameWithin total) n ns (omega (arith, first.0), first.1) (proper_within total ns h.1)

module _ (total : ℕ) (names : List NameSpan) (all : AreNamesWithin total names) where
  slice_within : (k : ℕ) → IsFoundWithin total (slice_get names k)
  slice_within k = ⊎_elim
      (λ there. subst (IsFoundWithin total) (sym there.2)
      (subst (IsNameWithin total) there.3 (all k there.0 there.1)))
      (λ past. subst (IsFoundWithin total) (sym past.1) tt)
      (slice_get_cases names k).1

  found_within : (o : Option ℕ) → IsFoundWithin total (found names o)
  found_within None = tt
  found_within (Some k) = slice_within k

  field_within : (f : List ℕ) (o : Option NameSpan) → IsFoundWithin total (field_by names f o)
  field_within f None = tt
  field_within f (Some d) = found_within _

  by_role_within : (n : NameSpan) (r : Role) → IsNameWithin total n → IsFoundWithin total (declaration_by names n r)
  by_role_within n (role.Declared what) h = h
  by_role_within n role.Type h = found_within _
  by_role_within n role.Guard h = found_within _
  by_role_within n role.Target h = found_within _
  by_role_within n role.Base h = found_within _
  by_role_within n role.Field h = field_within n.used.name (base_record names n.used.item)
  by_role_within n (role.Operand i) h = found_within _
  by_role_within n role.Procedure h = found_within _

  and_within : (o : Option NameSpan) → IsFoundWithin total o
      → IsFoundWithin total (option_and_then (declaration_of names) o)
  and_within None h = tt
  and_within (Some n) h = by_role_within n n.used.role h

  -- the declaration of a name at a place
  pub declared_within : (encoding : Encoding) (source : List ℕ) (place : Option Place)
      → IsFoundWithin total (declared_at encoding source names place)
  declared_within encoding source None = tt
  declared_within encoding source (Some place) = and_within (name_at names _) (found_within _)

  -- the names that refer to a declaration
  pub uses_within : (o : Option NameSpan) → AreSpansWithin total (uses_by names o)
  uses_within None = All-nil (IsWithin total)
  uses_within (Some d) =
      All-map (IsWithin total) (λ n. n.span) (filter (refers names d) names)
      (All-filter (refers names d) (IsNameWithin total) names all)

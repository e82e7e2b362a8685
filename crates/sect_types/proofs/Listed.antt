-- One field, global or local more.
use Rattle.std.proofs.Common.{◌≡◌, ℕ, ◌+◌, ◌<◌, List, [], ◌∷◌, ◌++◌, drop, get_or, length, refl, ◌∙◌, true, arith}
use Rattle.std.proofs.Common.{length-append, ap}
use Rattle.sect_lemmas.proofs.Elements.{drop_next}
use Rattle.sect_types.proofs.PassedElements.{judged_on, joined_on, tested_on}
use Rattle.sect_front.specs.{declared.tree.Declaration.{Declaration}, declared.tree.GlobalObject.{GlobalObject}}
use Rattle.sect_types.specs.Limits.{most_fields, most_globals, most_locals}
use Rattle.sect_types.specs.Sight.{has_name, names_of_records, names_of_globals, names_of_declared}
use Rattle.sect_types.specs.Items.{Item, AField, AGlobal, ALocal, field_items, global_items, local_items}
use Rattle.sect_types.specs.Rules.{Declared, Counts, knows_kind}
use Rattle.sect_types.specs.steps.{Judging.{judge}, Listing.{IsListed, AreGlobals, AreLocals, all_known, globals_known}}

pub field_more : (d : Declared) (all ds : List Declaration) (i : ℕ) (x : Declaration) (names new : List (List ℕ))
    (old now then : Counts)
    → i < length ds → x ≡ get_or ds i x → IsListed d all (drop i ds) names old now
    → ((w : List Item) → judge d now (AField x.kind x.name names ∷ w) ≡ judge d then w)
    → new ≡ names ++ x.name ∷ [] → then.sites ≡ now.sites → length names < most_fields
    → knows_kind (names_of_records d.records) x.kind ≡ true
    → IsListed d all (drop (i + 1) ds) new old then
field_more d all ds i x names new old now then h e so_far step named sites few known =
    record {
      walks =
          judged_on d field_items (field_items [] all) x rest (drop i ds) names (names ++ x.name ∷ []) new old now then
          so_far.walks (λ w. step (field_items (names ++ x.name ∷ []) rest w)) at named;
      named = joined_on names_of_declared x rest (drop i ds) all x.name names new named refl at so_far.named;
      sites = sites ∙ so_far.sites;
      few = omega (arith, ap length named, length-append names (x.name ∷ []));
      known =
          tested_on (all_known (names_of_records d.records)) x rest (drop i ds) all
          (knows_kind (names_of_records d.records) x.kind) refl known at so_far.known;
    }
  where
    rest : List Declaration
    rest = drop (i + 1) ds

    at : drop i ds ≡ x ∷ drop (i + 1) ds
    at = drop_next ds i x h e

pub global_more : (d : Declared) (all gs : List GlobalObject) (i : ℕ) (x : GlobalObject) (names new : List (List ℕ))
    (old now then : Counts)
    → i < length gs → x ≡ get_or gs i x → AreGlobals d all (drop i gs) names old now
    → ((w : List Item) → judge d now (AGlobal x.of x.name names ∷ w) ≡ judge d then w)
    → new ≡ names ++ x.name ∷ [] → then.sites ≡ now.sites + 1 → length names < most_globals
    → has_name x.of (names_of_records d.records) ≡ true
    → AreGlobals d all (drop (i + 1) gs) new old then
global_more d all gs i x names new old now then h e so_far step named sites few known =
    record {
      walks =
          judged_on d global_items (global_items [] all) x rest (drop i gs) names (names ++ x.name ∷ []) new old now
          then so_far.walks (λ w. step (global_items (names ++ x.name ∷ []) rest w)) at named;
      named = joined_on names_of_globals x rest (drop i gs) all x.name names new named refl at so_far.named;
      sites = omega (arith, sites, so_far.sites, ap length named, length-append names (x.name ∷ []));
      few = omega (arith, ap length named, length-append names (x.name ∷ []));
      known =
          tested_on (globals_known (names_of_records d.records)) x rest (drop i gs) all
          (has_name x.of (names_of_records d.records)) refl known at so_far.known;
    }
  where
    rest : List GlobalObject
    rest = drop (i + 1) gs

    at : drop i gs ≡ x ∷ drop (i + 1) gs
    at = drop_next gs i x h e

pub local_more : (d : Declared) (all ds : List Declaration) (i : ℕ) (x : Declaration) (names new : List (List ℕ))
    (old now then : Counts)
    → i < length ds → x ≡ get_or ds i x → AreLocals d all (drop i ds) names old now
    → ((w : List Item) → judge d now (ALocal x.kind x.name names ∷ w) ≡ judge d then w)
    → new ≡ names ++ x.name ∷ [] → length names < most_locals
    → knows_kind (names_of_records d.records) x.kind ≡ true
    → AreLocals d all (drop (i + 1) ds) new old then
local_more d all ds i x names new old now then h e so_far step named few known =
    record {
      walks =
          judged_on d local_items (local_items [] all) x rest (drop i ds) names (names ++ x.name ∷ []) new old now then
          so_far.walks (λ w. step (local_items (names ++ x.name ∷ []) rest w)) at named;
      named = joined_on names_of_declared x rest (drop i ds) all x.name names new named refl at so_far.named;
      few = omega (arith, ap length named, length-append names (x.name ∷ []));
      known =
          tested_on (all_known (names_of_records d.records)) x rest (drop i ds) all
          (knows_kind (names_of_records d.records) x.kind) refl known at so_far.known;
    }
  where
    rest : List Declaration
    rest = drop (i + 1) ds

    at : drop i ds ≡ x ∷ drop (i + 1) ds
    at = drop_next ds i x h e

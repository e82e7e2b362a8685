-- One record more.
use Rattle.std.proofs.Common.{◌≡◌, ℕ, ◌+◌, ◌<◌, ◌≤◌, List, [], ◌∷◌, ◌++◌, drop, get_or, length, Err, refl, ap, ◌∙◌}
use Rattle.std.proofs.{Common.{length-append, arith, true, ◌&&◌, nat_le, subst}, lemmas.List.{drop_all}}
use Rattle.std.proofs.lemmas.Bool.{and_from, le-leb}
use Rattle.sect_lemmas.proofs.Elements.{drop_next}
use Rattle.sect_types.proofs.PassedElements.{judged_on, joined_on, tested_on}
use Rattle.sect_front.specs.declared.tree.Record.{Record}
use Rattle.sect_types.specs.declared.rules.rule.WalkFault.{WalkFault}
use Rattle.sect_types.specs.Sight.{names_of_records, names_of_declared, all_fields}
use Rattle.sect_types.specs.{Items.{Item, ARecord, field_items, record_items}, Rules.{Declared, Counts}}
use Rattle.sect_types.specs.Limits.{most_fields, most_records}
use Rattle.sect_types.specs.steps.{Walks.{Walks}, Listing.{AreRecords, all_known, fields_fine}, Judging.{judge}}
use Rattle.sect_types.specs.declared.rules.rule.WalkFault.TheVariants as fault

pub go_on : (d : Declared) (all rs : List Record) (i : ℕ) (r : Record) (names new : List (List ℕ))
    (fields more : List (List (List ℕ))) (old now then : Counts)
    → i < length rs → r ≡ get_or rs i r
    → AreRecords d all (drop i rs) names fields old now
    → ((w : List Item) → judge d now (ARecord r.name names ∷ field_items [] r.fields w) ≡ judge d then w)
    → new ≡ names ++ r.name ∷ []
    → more ≡ fields ++ names_of_declared r.fields ∷ []
    → then.sites ≡ now.sites
    → length names < most_records → length r.fields ≤ most_fields
    → all_known (names_of_records d.records) r.fields ≡ true
    → AreRecords d all (drop (i + 1) rs) new more old then
go_on d all rs i r names new fields more old now then h e so_far step named with_fields sites few few_fields known =
    record {
      walks =
          judged_on d record_items (record_items [] all) r rest (drop i rs) names (names ++ r.name ∷ []) new old now
          then so_far.walks (λ w. step (record_items (names ++ r.name ∷ []) rest w)) at named;
      named = joined_on names_of_records r rest (drop i rs) all r.name names new named refl at so_far.named;
      with_fields =
          joined_on all_fields r rest (drop i rs) all (names_of_declared r.fields) fields more with_fields refl at
          so_far.with_fields;
      sites = sites ∙ so_far.sites;
      few = omega (arith, ap length named, length-append names (r.name ∷ []));
      fine =
          tested_on (fields_fine (names_of_records d.records)) r rest (drop i rs) all
          (all_known (names_of_records d.records) r.fields && nat_le (length r.fields) most_fields) refl
          (and_from (all_known (names_of_records d.records) r.fields) (nat_le (length r.fields) most_fields) known
          (le-leb (length r.fields) most_fields few_fields)) at so_far.fine;
    }
  where
    rest : List Record
    rest = drop (i + 1) rs

    at : drop i rs ≡ r ∷ drop (i + 1) rs
    at = drop_next rs i r h e

-- a fault in what comes next is the fault of the whole
pub fault_after : (d : Declared) (all first rest : List Item → List Item) (old now new : Counts) (e : WalkFault)
    → ((w : List Item) → judge d old (all w) ≡ judge d now (first (rest w)))
    → Walks {A = ℕ} d first now new (Err e) → Walks {A = ℕ} d all old new (Err e)
fault_after d all first rest old now new fault.Memory h k = k
fault_after d all first rest old now new (fault.Broken i r) h k = λ w. h w ∙ k (rest w)

pub fault_next : (d : Declared) (all rs : List Record) (i : ℕ) (r : Record) (names : List (List ℕ))
    (fields : List (List (List ℕ))) (old now : Counts)
    → i < length rs → r ≡ get_or rs i r
    → AreRecords d all (drop i rs) names fields old now
    → (w : List Item) → judge d old (record_items [] all w) ≡ judge d now (ARecord r.name names ∷
    field_items [] r.fields (record_items (names ++ r.name ∷ []) (drop (i + 1) rs) w))
fault_next d all rs i r names fields old now h e so_far w =
    so_far.walks w ∙ ap (λ l. judge d now (record_items names l w)) (drop_next rs i r h e)

-- none is left
pub records_done : (d : Declared) (all rs : List Record) (i : ℕ) (names : List (List ℕ))
    (fields : List (List (List ℕ))) (old now : Counts) → length rs ≤ i
    → AreRecords d all (drop i rs) names fields old now → AreRecords d all [] names fields old now
records_done d all rs i names fields old now h so_far =
    subst (λ l. AreRecords d all l names fields old now) (drop_all i rs h) so_far

-- How objects and stores are compared and hashed, and how far threads are: part by part.
use Rattle.std.specs.{Prelude.{◌++◌, ℕ, Bool, List, nat_eq}, Ordering.{on, eq_of_both, int_eq}}
use Rattle.std.specs.Cmp.{IsEquivalence, and_equiv, on_equiv, nat_eq_equiv, int_eq_equiv}
use Rattle.std.specs.Cmp.Lexicographic.{pointwise, lists_equiv}
use Rattle.std.specs.Hash.{HashWrites, Alike, slice, and-Alike, on_Alike, items_Alike}
use Rattle.sect_types.specs.{Store.{ObjectView, StoreView}, Meaning.{WorkView}}
use Rattle.sect_types.specs.contracts.meaning.store.DatumPartialEq.TheImpl.{ghosts as the_datum_eq}
use Rattle.sect_types.specs.contracts.meaning.store.DatumEq.TheImpl.Laws.{laws-law as the_datum_laws}
use Rattle.sect_types.specs.contracts.meaning.store.DatumHash.TheImpl.{ghosts as the_datum_hash}
use Rattle.sect_types.specs.contracts.meaning.store.DatumHash.TheImpl.Laws.{respects_eq-law as the_datum_alike}
use Rattle.std.specs.Hash as fed

abbrev pub site_of : ObjectView → ℕ
site_of o = o.site

abbrev pub object_eq : ObjectView → ObjectView → Bool
object_eq = eq_of_both (on site_of nat_eq) (on (λ (o : ObjectView). o.fields) (pointwise the_datum_eq.eq))

-- the sites of equal objects are equal, but their fields tell them apart
abbrev pub object_fed : ObjectView → HashWrites
object_fed o = slice the_datum_hash.hash_input o.fields

pub object_equivalence : IsEquivalence object_eq
object_equivalence = and_equiv (on_equiv site_of nat_eq_equiv)
    (on_equiv (λ (o : ObjectView). o.fields) (lists_equiv the_datum_laws))

pub object_alike : Alike object_eq object_fed
object_alike = fed.second_alike (on site_of nat_eq)
    (on_Alike (λ (o : ObjectView). o.fields) (items_Alike (record { fed = the_datum_alike })))

abbrev pub objects_eq : List ObjectView → List ObjectView → Bool
objects_eq = pointwise object_eq

abbrev pub objects_fed : List ObjectView → HashWrites
objects_fed = slice object_fed

pub objects_equivalence : IsEquivalence objects_eq
objects_equivalence = lists_equiv object_equivalence

pub objects_alike : Alike objects_eq objects_fed
objects_alike = items_Alike object_alike

abbrev pub store_eq : StoreView → StoreView → Bool
store_eq = eq_of_both (on (λ (s : StoreView). s.globals) objects_eq) (on (λ (s : StoreView). s.made)
    (pointwise objects_eq))

abbrev pub store_fed : StoreView → HashWrites
store_fed s = objects_fed s.globals ++ slice objects_fed s.made

pub store_equivalence : IsEquivalence store_eq
store_equivalence = and_equiv (on_equiv (λ (s : StoreView). s.globals) objects_equivalence)
    (on_equiv (λ (s : StoreView). s.made) (lists_equiv objects_equivalence))

pub store_alike : Alike store_eq store_fed
store_alike = and-Alike (on_Alike (λ (s : StoreView). s.globals) objects_alike)
    (on_Alike (λ (s : StoreView). s.made) (items_Alike objects_alike))

-- as far, whatever the locals hold
abbrev pub far_eq : WorkView → WorkView → Bool
far_eq = eq_of_both (on (λ (w : WorkView). w.fuel) nat_eq)
    (eq_of_both (on (λ (w : WorkView). w.made) nat_eq) (on (λ (w : WorkView). w.printed) (pointwise int_eq)))

pub far_equivalence : IsEquivalence far_eq
far_equivalence = and_equiv (on_equiv (λ (w : WorkView). w.fuel) nat_eq_equiv)
    (and_equiv (on_equiv (λ (w : WorkView). w.made) nat_eq_equiv)
    (on_equiv (λ (w : WorkView). w.printed) (lists_equiv int_eq_equiv)))

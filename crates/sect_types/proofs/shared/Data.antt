-- What data are, and what those of fresh objects are not.
use Rattle.std.proofs.Common.{◌≡◌, ℕ, zero, suc, refl, ap, List, [], ◌∷◌, length, slice_get}
use Rattle.std.specs.Prelude.{map, ℤ}
use Rattle.sect_types.specs.declared.declarations.types.ValueType.{ValueType}
use Rattle.sect_types.specs.declared.meaning.store.ObjectName.{ObjectName}
use Rattle.sect_types.specs.declared.meaning.store.Datum.TheVariants.{Number, Null, Refers}
use Rattle.sect_types.specs.Meaning.{datum_or_null, first_datum, name_in}
use Rattle.sect_lemmas.proofs.Options.{some_injective, none_or_some}
use Rattle.sect_types.specs.declared.declarations.types.ValueType.TheVariants as type

-- references to one object name it once
pub refers_injective : (o q : ObjectName) → Refers o ≡ Refers q → o ≡ q
refers_injective o q e = some_injective o q (ap name_in e)

-- null is no reference
pub null_refers : (o : ObjectName) → Null ≡ Refers o → ⊥
null_refers o e = none_or_some o (ap name_in e)

-- nor is a number
pub number_refers : (n : ℤ) (o : ObjectName) → Number n ≡ Refers o → ⊥
number_refers n o e = none_or_some o (ap name_in e)

-- a field of a fresh object refers to nothing
pub fresh_refers : (types : List ValueType) (f : ℕ) (o : ObjectName)
    → datum_or_null (slice_get (map first_datum types) f) ≡ Refers o → ⊥
fresh_refers [] f o e = null_refers o e
fresh_refers (type.Int ∷ types) zero o e = number_refers _ o e
fresh_refers (type.Refers r ∷ types) zero o e = null_refers o e
fresh_refers (ty ∷ types) (suc f) o e = fresh_refers types f o e

-- it has as many as its record
pub length-fresh : (types : List ValueType) → length (map first_datum types) ≡ length types
length-fresh [] = refl
length-fresh (ty ∷ types) = ap suc (length-fresh types)

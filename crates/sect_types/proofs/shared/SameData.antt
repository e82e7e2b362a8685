-- The derived `==` of data is `same_datum`.
use Rattle.std.proofs.{Common.{rules, ◌≡◌, refl, sym, ap, ◌∙◌}, lemmas.Bool.Decides.{same_from_decides}}
use Rattle.std.specs.Bool.{Decides}
use Rattle.sect_types.specs.declared.meaning.store.ObjectName.{ObjectName}
use Rattle.sect_types.specs.declared.meaning.store.ObjectName.TheVariants.{Global, Made}
use Rattle.sect_types.specs.declared.meaning.store.Datum.{Datum}
use Rattle.sect_types.specs.declared.meaning.store.Datum.TheVariants.{Number, Null, Refers}
use Rattle.sect_types.specs.contracts.meaning.store.ObjectNamePartialEq.TheImpl.{ghosts as the_name_eq}
use Rattle.sect_types.specs.contracts.meaning.store.DatumPartialEq.TheImpl.{ghosts as the_datum_eq}
use Rattle.sect_types.specs.Store.{same_datum, same_name}
use Rattle.sect_types.proofs.shared.Stores.{same_name-true, same_name-refl}

-- the derived `==` of names tells equality
pub name_tells : (m n : ObjectName) → Decides (the_name_eq.eq m n) (m ≡ n)
name_tells (Global g) (Global h) = search rules
name_tells (Global g) (Made t n) = search rules
name_tells (Made t n) (Global g) = search rules
name_tells (Made t n) (Made u m) = search rules

-- and so does the test of the definitions
same_name_tells : (m n : ObjectName) → Decides (same_name m n) (m ≡ n)
same_name_tells m n = (same_name-true m n, λ e. ap (same_name m) (sym e) ∙ same_name-refl m)

-- so both agree
pub same_tells : (d e : Datum) → the_datum_eq.eq d e ≡ same_datum d e
same_tells (Number n) (Number m) = search rules
same_tells (Number n) Null = refl
same_tells (Number n) (Refers m) = refl
same_tells Null (Number m) = refl
same_tells Null Null = refl
same_tells Null (Refers m) = refl
same_tells (Refers n) (Number m) = refl
same_tells (Refers n) Null = refl
same_tells (Refers n) (Refers m) =
    same_from_decides (the_name_eq.eq n m) (same_name n m) (name_tells n m) (same_name_tells n m)

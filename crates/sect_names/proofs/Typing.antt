-- Paths that refer to objects do so when they are carried back over a sound step, to objects of the same record.
use Rattle.std.proofs.Common.{◌≡◌, ℕ}
use Rattle.sect_types.specs.declared.declarations.types.ValueType.TheVariants.{Refers}

-- two types of one reference
pub same_refers : (q r : ℕ) → Refers q ≡ Refers r → q ≡ r
same_refers q r e = cc

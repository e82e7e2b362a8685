-- Few fields stand in a record.
use Rattle.std.proofs.Common.{◌<◌, ◌≤◌, ℕ, suc, zero, List, [], ◌∷◌, map, length, arith, All, slice_get, Some, None, Option, IfSome}
use Rattle.std.proofs.lemmas.List.{length-map}
use Rattle.sect_front.specs.{declared.tree.Record.{Record}, declared.tree.Declaration.{Declaration}}
use Rattle.sect_types.specs.declared.declarations.types.ValueType.{ValueType}
use Rattle.sect_asking.specs.Meaning.{fields_in}

pub few_in : (most : ℕ) (g : Declaration → ValueType) (rs : List Record) (i : ℕ)
    → All (λ (ts : List ValueType). length ts ≤ most) (map (λ (r : Record). map g r.fields) rs)
    → length (fields_in (slice_get rs i)) ≤ most
few_in most g [] i h = omega arith
few_in most g (r ∷ rs) zero h = omega (arith, h 0 [] (omega arith), length-map r.fields g)
few_in most g (r ∷ rs) (suc i) h = few_in most g rs i (λ k d less. h (suc k) d (omega (arith, less)))

pub place_below : (o : Option ℕ) (n m : ℕ) → n ≤ m → IfSome o (λ k. k < n) → IfSome o (λ k. k < m)
place_below None n m h w = tt
place_below (Some k) n m h w = omega (arith, h, w)

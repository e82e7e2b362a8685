-- What a place says of what is counted there.
use Rattle.std.proofs.Common.{◌≡◌, ℕ, zero, suc, [], ◌∷◌, Bool, refl, ap, subst, ◌∙◌, arith, Some, List, map, true}
use Rattle.std.proofs.Common.{false, ◌&&◌}
use Rattle.std.specs.Prelude.{slice_index_or}
use Rattle.sect_front.specs.declared.tree.Procedure.{Procedure}
use Rattle.sect_types.specs.declared.rules.place.Place.{Place}
use Rattle.sect_types.specs.declared.rules.place.Place.TheVariants.{InThread, InProcedure}
use Rattle.sect_types.specs.{declared.counting.sums.Sums.{Sums}, Sums.{nothing, sums, sums_at}, Rules.{by_place}}
use Rattle.sect_types.specs.steps.{Capped.{capped, IsSmall}, Standing.{IsReady}}

-- in a thread a test counts, in a procedure it doesn't
pub counted : (at : Place) (b : Bool) → (by_place at true false && b) ≡ by_place at b false
counted (InThread i d) b = refl
counted (InProcedure p) b = refl

pub here : {X : Type 0} (at : Place) (x y : X) → by_place at true false ≡ true → by_place at x y ≡ x
here (InThread i d) x y e = refl
here (InProcedure p) x y e = absurd cc

pub elsewhere : {X : Type 0} (at : Place) (x y : X) → by_place at true false ≡ false → by_place at x y ≡ y
elsewhere (InThread i d) x y e = absurd cc
elsewhere (InProcedure p) x y e = refl

pub small : (s : Sums) → IsSmall (capped s)
small s = record {
  statements = omega arith;
  sites = omega arith;
  calls = omega arith;
  fresh = omega arith;
  deep = omega arith;
}

-- the table of a thread
pub thread_table : (ps : List Procedure) (at : Place) (i : Bool) (d : ℕ) (table : List Sums) (returning : List Bool)
    → at ≡ InThread i d → IsReady ps at table returning → table ≡ map capped (sums ps)
thread_table ps at i d table returning e h = subst (λ a. IsReady ps a table returning) e h

-- what it says of a procedure
pub index_capped : (table : List Sums) (q : ℕ)
    → slice_index_or (map capped table) q nothing ≡ capped (sums_at table (Some q))
index_capped [] q = refl
index_capped (t ∷ table) zero = refl
index_capped (t ∷ table) (suc q) = index_capped table q

pub said : (ps : List Procedure) (at : Place) (i : Bool) (d q : ℕ) (table : List Sums) (returning : List Bool)
    → at ≡ InThread i d → IsReady ps at table returning
    → slice_index_or table q nothing ≡ capped (sums_at (sums ps) (Some q))
said ps at i d q table returning e h =
    ap (λ (t : List Sums). slice_index_or t q nothing) (thread_table ps at i d table returning e h)
    ∙ index_capped (sums ps) q

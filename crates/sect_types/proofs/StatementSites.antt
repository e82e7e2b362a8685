-- How many sites a statement by numbers has.
use Rattle.std.specs.Prelude.{Bool, true, false, ◌&&◌}
use Rattle.std.proofs.Common.{◌≡◌, ℕ, List, length, Option, Some, None, IfOk, refl}
use Rattle.sect_front.specs.declared.tree.Operator.{Operator}
use Rattle.sect_types.specs.{declared.expansion.action.Action.{Action}, declared.rules.resolve.Denoted.{Denoted}}
use Rattle.sect_types.specs.{declared.rules.resolve.Given.{Given}, declared.rules.resolve.Looked.{Looked}}
use Rattle.sect_types.specs.Sight.{Sight, place, names_of_records, base_of, operand_of, looked_of}
use Rattle.sect_types.specs.{Kinds.{same_kind, accepts}, Statements.{made_by}, Sections.{IsSite}, Sums.{primitive_sums}}
use Rattle.sect_types.proofs.Typing.{well_typed, primitive_of, assign_of, compute_of, new_of, load_of, store_of}
use Rattle.sect_types.proofs.Typing.{print_of}
use Rattle.sect_front.specs.declared.tree.Primitive as leaf
use Rattle.sect_front.specs.declared.tree.Primitive.TheVariants as primitive
use Rattle.sect_front.specs.declared.tree.Kind.TheVariants as kind
use Rattle.sect_types.specs.declared.rules.resolve.Denoted.TheVariants as denoted
use Rattle.sect_types.specs.declared.rules.resolve.Looked.TheVariants as looked

-- the action has so many sites, the first of them this
abbrev pub Makes : ℕ → ℕ → Action → Type 0
Makes n site a = (length (made_by a) ≡ n) × IsSite site a

well_typed_makes : (n site : ℕ) (b : Bool) (a : Action) → Makes n site a → IfOk (well_typed b a) (Makes n site)
well_typed_makes n site true a h = h
well_typed_makes n site false a h = tt

assign_makes : (site : ℕ) (x : Option Denoted) (v : Option Given) → IfOk (assign_of x v) (Makes 0 site)
assign_makes site (Some (denoted.Local i k)) (Some v) = well_typed_makes 0 site (accepts k v) _ (refl, tt)
assign_makes site (Some (denoted.Global i r)) (Some v) = tt
assign_makes site (Some x) None = tt
assign_makes site None v = tt

compute_makes : (site : ℕ) (x : Option Denoted) (v : Option Given) (o : Operator) (w : Option Given)
    → IfOk (compute_of x v o w) (Makes 0 site)
compute_makes site (Some (denoted.Local i k)) (Some v) o (Some w) =
    well_typed_makes 0 site (same_kind k kind.Int && accepts kind.Int v && accepts kind.Int w) _ (refl, tt)
compute_makes site (Some (denoted.Global i t)) (Some v) o (Some w) = tt
compute_makes site (Some x) (Some v) o None = tt
compute_makes site (Some x) None o w = tt
compute_makes site None v o w = tt

new_makes : (x : Option Denoted) (r : List ℕ) (n : Option ℕ) (site : ℕ) → IfOk (new_of x r n site) (Makes 1 site)
new_makes (Some (denoted.Local i k)) r (Some n) site =
    well_typed_makes 1 site (same_kind k (kind.Record r)) _ (refl, refl)
new_makes (Some (denoted.Global g t)) r (Some n) site = tt
new_makes (Some x) r None site = tt
new_makes None r n site = tt

load_makes : (site : ℕ) (x y : Option Denoted) (f : Looked) → IfOk (load_of x y f) (Makes 0 site)
load_makes site (Some (denoted.Local i k)) (Some y) (looked.At f) =
    well_typed_makes 0 site (same_kind k f.kind) _ (refl, tt)
load_makes site (Some (denoted.Global i q)) (Some y) (looked.At f) = tt
load_makes site (Some x) (Some y) looked.OfInt = tt
load_makes site (Some x) (Some y) looked.Missing = tt
load_makes site (Some x) None f = tt
load_makes site None y f = tt

store_makes : (site : ℕ) (y : Option Denoted) (f : Looked) (v : Option Given) → IfOk (store_of y f v) (Makes 0 site)
store_makes site (Some y) (looked.At f) (Some v) = well_typed_makes 0 site (accepts f.kind v) _ (refl, tt)
store_makes site (Some y) looked.OfInt (Some v) = tt
store_makes site (Some y) looked.Missing (Some v) = tt
store_makes site (Some y) f None = tt
store_makes site None f v = tt

print_makes : (site : ℕ) (v : Option Given) → IfOk (print_of v) (Makes 0 site)
print_makes site (Some v) = well_typed_makes 0 site (accepts kind.Int v) _ (refl, tt)
print_makes site None = tt

pub primitive_makes : (s : Sight) (site : ℕ) (p : leaf.Primitive)
    → IfOk (primitive_of s site p) (Makes (primitive_sums p).sites site)
primitive_makes s site (primitive.Assign x v) = assign_makes site (base_of s x) (operand_of s v)
primitive_makes s site (primitive.Compute x v o w) =
    compute_makes site (base_of s x) (operand_of s v) o (operand_of s w)
primitive_makes s site (primitive.New x r) = new_makes (base_of s x) r (place r (names_of_records s.records)) site
primitive_makes s site (primitive.Load x y f) =
    load_makes site (base_of s x) (base_of s y) (looked_of s (base_of s y) f)
primitive_makes s site (primitive.Store y f v) =
    store_makes site (base_of s y) (looked_of s (base_of s y) f) (operand_of s v)
primitive_makes s site (primitive.Print v) = print_makes site (operand_of s v)

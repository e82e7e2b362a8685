-- Where threads have stood is there.
use Rattle.std.proofs.Common.{◌≡◌, ◌∙◌, ℕ, zero, suc, ◌+◌, ◌-◌, ◌<◌, List, [], ◌∷◌, ◌++◌, Option, Some, None, ap, arith}
use Rattle.std.proofs.Common.{append_assoc}
use Rattle.std.specs.Prelude.{IfSome, replicate, true, false, Bool, if◌then◌else◌}
use Rattle.sect_lemmas.specs.Lists.{put_at}
use Rattle.sect_types.specs.declared.meaning.store.End.{End}
use Rattle.sect_types.specs.declared.meaning.store.End.TheVariants.{Done, Failed}
use Rattle.sect_emit.specs.Compiled.{CompiledView}
use Rattle.sect_world.specs.{declared.event.Event.{Event}, declared.standing.Standing.{Standing}}
use Rattle.sect_world.specs.Standings.{IsStandingThere}
use Rattle.sect_draw.specs.{Places.{is_run_first, ran_after, standing_at}, Placing.{AreThere}}

-- before the first turn none has
pub none_there : (c : CompiledView) (n : ℕ) → AreThere c (replicate n None)
none_there c zero t = tt
none_there c (suc n) zero = tt
none_there c (suc n) (suc t) = none_there c n t

put_there : (c : CompiledView) (t : ℕ) (d : Standing) (ran : List (Option Standing)) → IsStandingThere c d
    → AreThere c ran → AreThere c (put_at t (Some d) ran)
put_there c t d [] there are u = tt
put_there c zero d (x ∷ ran) there are zero = there
put_there c zero d (x ∷ ran) there are (suc u) = are (suc u)
put_there c (suc t) d (x ∷ ran) there are zero = are zero
put_there c (suc t) d (x ∷ ran) there are (suc u) = put_there c t d ran there (λ v. are (suc v)) u

-- and so it is after a turn
pub ran_there : (c : CompiledView) (t : ℕ) (d : Standing) (es : List Event) (ran : List (Option Standing))
    → IsStandingThere c d → AreThere c ran → AreThere c (ran_after t d es ran)
ran_there c t d es ran there are = by (is_run_first es) where
  by : (b : Bool) → AreThere c (if b then put_at t (Some d) ran else ran)
  by true = put_there c t d ran there are
  by false = are

-- where a fault stands
pub fault_there : (c : CompiledView) (end : Option End) (stood : Option Standing) → IfSome stood (IsStandingThere c)
    → IfSome (standing_at end stood) (IsStandingThere c)
fault_there c None stood there = tt
fault_there c (Some Done) stood there = tt
fault_there c (Some (Failed why)) stood there = there

-- one thread more that has run nothing
pub none_more : (old new all : List (Option Standing)) (n i : ℕ) → i < n → new ≡ old ++ None ∷ []
    → old ++ replicate (n - i) None ≡ all → new ++ replicate (n - (i + 1)) None ≡ all
none_more old new all n i lt pushed had =
    let rest : List (Option Standing) = replicate (n - (i + 1)) None in
    ap (λ ds. ds ++ rest) pushed
    ∙ (append_assoc old (None ∷ []) rest
    ∙ (ap (λ k. old ++ replicate k None) (let left : suc (n - (i + 1)) ≡ n - i = omega (arith, lt) in left) ∙ had))

-- A plan is met where each of its keys is, one after another.
use Rattle.std.proofs.Common.{◌≡◌, ◌<◌, ◌+◌, ℕ, zero, suc, Bool, false, List, [], ◌∷◌, Some, None, length, drop, get_or}
use Rattle.std.proofs.Common.{refl, sym, ap, ◌∙◌, arith, ◌&&◌}
use Rattle.sect_modes.specs.{declared.mode.Mode.{Mode}, Mode.{is_at_least}}
use Rattle.sect_table.specs.{declared.claims.Hold.{Hold}, Contents.{mode_in}}
use Rattle.sect_emit.specs.{declared.plan.Grip.{Grip}, Plan.{is_met, meets}}
use Rattle.sect_world.specs.Waiting.{grips}
use Rattle.sect_world.proofs.Claims.{held-grips}

drop_at : (i : ℕ) (gs : List Grip) (d : Grip) → i < length gs → drop i gs ≡ get_or gs i d ∷ drop (i + 1) gs
drop_at i [] d lt = absurd (omega arith)
drop_at zero (g ∷ gs) d lt = refl
drop_at (suc i) (g ∷ gs) d lt = drop_at i gs d (omega arith)
    ∙ ap (λ z. get_or gs i d ∷ drop z (g ∷ gs)) (let n : suc (i + 1) ≡ suc i + 1 = omega arith in n)

-- the next key decides, and then the others
pub next_meets : (hs : List Hold) (plan : List Grip) (i : ℕ) (d : Grip) → i < length plan
    → meets (grips hs) (drop i plan)
    ≡ (is_met (mode_in (get_or plan i d).key hs) (get_or plan i d).mode && meets (grips hs) (drop (i + 1) plan))
next_meets hs plan i d lt =
    ap (meets (grips hs)) (drop_at i plan d lt)
    ∙ ap (λ o. is_met o (get_or plan i d).mode && meets (grips hs) (drop (i + 1) plan))
    (held-grips (get_or plan i d).key hs)

-- where the key isn't held the plan isn't met
pub unmet : (hs : List Hold) (plan : List Grip) (i : ℕ) (d : Grip) → i < length plan
    → None ≡ mode_in (get_or plan i d).key hs → false ≡ meets (grips hs) (drop i plan)
unmet hs plan i d lt none = ap (λ o. is_met o (get_or plan i d).mode && meets (grips hs) (drop (i + 1) plan)) none
    ∙ sym (next_meets hs plan i d lt)

-- where it is held, its mode decides
pub met_by : (hs : List Hold) (plan : List Grip) (i : ℕ) (d : Grip) (m : Mode) (b : Bool) → i < length plan
    → Some m ≡ mode_in (get_or plan i d).key hs → b ≡ is_at_least m (get_or plan i d).mode
    → (b && meets (grips hs) (drop (i + 1) plan)) ≡ meets (grips hs) (drop i plan)
met_by hs plan i d m b lt some is =
    ap (λ z. z && meets (grips hs) (drop (i + 1) plan)) is
    ∙ ap (λ o. is_met o (get_or plan i d).mode && meets (grips hs) (drop (i + 1) plan)) some
    ∙ sym (next_meets hs plan i d lt)

-- Who is let in next.
use Rattle.std.proofs.Common.{◌≡◌, List, [], ◌∷◌, ◌++◌, true, false, ap}
use Rattle.std.specs.Prelude.{if◌then◌else◌}
use Rattle.sect_table.specs.{declared.claims.Claim.{Claim}, Contents.{may_join, let_through}}

pub let_through-yes : (hs : List Claim) (w : Claim) (ws : List Claim) → may_join hs w.thread w.mode ≡ true
    → let_through hs (w ∷ ws) ≡ w ∷ let_through (hs ++ w ∷ []) ws
let_through-yes hs w ws e = ap (λ b. if b then (w ∷ let_through (hs ++ w ∷ []) ws) else []) e

pub let_through-no : (hs : List Claim) (w : Claim) (ws : List Claim) → may_join hs w.thread w.mode ≡ false
    → let_through hs (w ∷ ws) ≡ []
let_through-no hs w ws e = ap (λ b. if b then (w ∷ let_through (hs ++ w ∷ []) ws) else []) e

-- Turns one after another.
use Rattle.std.proofs.Common.{◌≡◌, ℕ, ◌+◌, List, [], ◌∷◌, ◌++◌, length, Option, refl, sym, ap, subst, ◌∙◌, arith}
use Rattle.sect_emit.specs.{Compiled.{CompiledView}, State.{State}}
use Rattle.sect_draw.specs.Chart.{TurnView, Noted, IsTurnFrom, AreTurns, noted_by, turn_row, turn_rows}
use Rattle.sect_draw.specs.Places.{PlacesView}

-- turns, and others behind them
pub turns_then : (c : CompiledView) (s : State) (n : Noted) (xs : List TurnView) (between : State) (m : Noted)
    (ys : List TurnView) (after : State) (noted : Noted) → AreTurns c s n xs between m
    → AreTurns c between m ys after noted → AreTurns c s n (xs ++ ys) after noted
turns_then c s n [] between m ys after noted first then =
    subst (λ z. AreTurns c z n ys after noted) (sym first.0)
    (subst (λ k. AreTurns c between k ys after noted) (sym first.1) then)
turns_then c s n (x ∷ xs) between m ys after noted first then =
    (first.0, turns_then c x.after (noted_by x) xs between m ys after noted first.1 then)

-- one turn more
pub turns_more : (c : CompiledView) (s : State) (n : Noted) (xs : List TurnView) (between : State) (m : Noted)
    (x : TurnView) → AreTurns c s n xs between m → IsTurnFrom c between m x
    → AreTurns c s n (xs ++ x ∷ []) x.after (noted_by x)
turns_more c s n xs between m x are from =
    turns_then c s n xs between m (x ∷ []) x.after (noted_by x) are (from, (refl, refl))

-- and its row
pub rows_more : (c : CompiledView) (v : Option PlacesView) (n : ℕ) (xs : List TurnView) (x : TurnView)
    → turn_rows c v n (xs ++ x ∷ []) ≡ turn_rows c v n xs ++ turn_row c v (n + length xs) x ∷ []
rows_more c v n [] x = ap (λ m. turn_row c v m x ∷ []) (let e : n ≡ n + 0 = omega arith in e)
rows_more c v n (y ∷ xs) x =
    ap (λ r. turn_row c v n y ∷ r) (rows_more c v (n + 1) xs x
    ∙ ap (λ m. turn_rows c v (n + 1) xs ++ turn_row c v m x ∷ []) (omega arith))

-- Loops that write the tokens of a list.
use Rattle.std.proofs.Common.{◌≡◌, ℕ, ◌+◌, ◌<◌, List, ◌∷◌, ◌++◌, length, get_or, drop, ap, sym, ◌∙◌}
use Rattle.std.proofs.lemmas.List.{drop_more}
use Rattle.sect_front.specs.declared.token.Token.{Token}
use Rattle.sect_front.specs.steps.Writes.{Writes}

-- with one more item written, what is left begins behind it
pub next : {X : Type 0} (all : List X → List Token → List Token) (each : X → List Token → List Token) (xs : List X)
    (i : ℕ) (x : X) (old now new : List Token) → i < length xs → x ≡ get_or xs i x
    → ((y : X) (ys : List X) (w : List Token) → all (y ∷ ys) w ≡ each y (all ys w))
    → ((w : List Token) → now ++ all (drop i xs) w ≡ old ++ all xs w) → Writes now new (each x)
    → (w : List Token) → new ++ all (drop (i + 1) xs) w ≡ old ++ all xs w
next all each xs i x old now new lt is step read put w =
    let rest = drop (i + 1) xs in
    put (all rest w) ∙ (ap (λ y. now ++ y) (sym (step x rest w))
    ∙ (ap (λ y. now ++ all (y ∷ rest) w) is ∙ (ap (λ y. now ++ all y w) (sym (drop_more xs i x lt)) ∙ read w)))

-- Steps with their locks by number, one more.
use Rattle.std.proofs.Common.{◌≡◌, ℕ, ◌+◌, ◌<◌, List, [], ◌∷◌, ◌++◌, length, take, get_or, inl, inr, sym, ap, ◌∙◌}
use Rattle.std.proofs.{Common.{subst}, lemmas.List.{map-append, take_more}}
use Rattle.std.specs.Prelude.{map}
use Rattle.sect_lemmas.specs.Lists.{Has}
use Rattle.sect_lemmas.proofs.Membership.{Has-cases}
use Rattle.sect_names.specs.declared.lock.Lock.{Lock}
use Rattle.sect_chains.specs.declared.numbered.NumberedStep.{NumberedStep}
use Rattle.sect_chains.specs.Numbered.{links_by}

-- what has a property, and one more
pub all_has_more : {X : Type 0} (P : X → Type 0) (xs : List X) (x : X) → ((y : X) → Has xs y → P y) → P x
    → (y : X) → Has (xs ++ x ∷ []) y → P y
all_has_more P xs x all here y h = elim (Has-cases xs (x ∷ []) y h) [
  | inl old ↦ all y old
  | inr one ↦ elim one [ inl e ↦ subst P e here | inr none ↦ absurd none ]
]

-- what chains stand for, with one more
pub linked_more : {V : Type 0} (f : V → List NumberedStep) (keys : List Lock) (chains : List V) (x : V)
    → map (links_by keys) (map f (chains ++ x ∷ [])) ≡ map (links_by keys) (map f chains) ++ links_by keys (f x) ∷ []
linked_more f keys chains x =
    ap (map (links_by keys)) (map-append f chains (x ∷ [])) ∙ map-append (links_by keys) (map f chains) (f x ∷ [])

-- what is made of each element, of one more
pub made_more : {X Y : Type 0} (f : X → Y) (xs : List X) (i : ℕ) (x : X) (made : List Y) (y : Y) → i < length xs
    → x ≡ get_or xs i x → made ≡ map f (take i xs) → y ≡ f x → made ++ y ∷ [] ≡ map f (take (i + 1) xs)
made_more f xs i x made y within is before here =
    let next : take (i + 1) xs ≡ take i xs ++ x ∷ [] = take_more xs i x within
    ∙ ap (λ z. take i xs ++ z ∷ []) (sym is) in
    ap (λ ys. ys ++ y ∷ []) before ∙ ap (λ z. map f (take i xs) ++ z ∷ []) here
    ∙ sym (map-append f (take i xs) (x ∷ [])) ∙ ap (map f) (sym next)

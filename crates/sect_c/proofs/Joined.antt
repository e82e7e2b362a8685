-- Texts that are added one after another.
use Rattle.std.proofs.Common.{◌≡◌, List, ◌++◌, ap, ◌∙◌, append_assoc}

-- first one has been added, and then another
pub joined : {A : Type 0} (old a b mid new : List A) → mid ≡ old ++ a → new ≡ mid ++ b → new ≡ old ++ (a ++ b)
joined old a b mid new first second = second ∙ (ap (λ w. w ++ b) first ∙ append_assoc old a b)

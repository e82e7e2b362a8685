-- Texts of four parts.
use Rattle.std.proofs.Common.{◌≡◌, ℕ, List, ◌++◌, ap, ◌∙◌, append_assoc}

-- four parts behind one another
pub four_parts : (old one two three new a b c d : List ℕ) → one ≡ old ++ a → two ≡ one ++ b → three ≡ two ++ c
    → new ≡ three ++ d → new ≡ old ++ (a ++ (b ++ (c ++ d)))
four_parts old one two three new a b c d p q r s =
    let all : new ≡ ((old ++ a) ++ b) ++ (c ++ d) = s ∙ (ap (λ t. t ++ d)
    (r ∙ ap (λ t. t ++ c) (q ∙ ap (λ t. t ++ b) p)) ∙ append_assoc ((old ++ a) ++ b) c d) in
    all ∙ (append_assoc (old ++ a) b (c ++ d) ∙ append_assoc old a (b ++ (c ++ d)))

-- The node of a section, by the nodes before it.
use Rattle.std.proofs.Common.{◌≡◌, ◌<◌, ℕ, zero, suc, ◌+◌, List, [], ◌∷◌, Bool, true, false, Some, None, length, refl}
use Rattle.std.proofs.Common.{sym, subst, arith, ◌∙◌, true≢false}
use Rattle.std.specs.Prelude.{slice_get, if◌then◌else◌}
use Rattle.sect_graph.specs.declared.flow.Node.{Node}
use Rattle.sect_flows.specs.Flows.{is_section, node_of}

-- none of the first n nodes is section i
abbrev pub NoneBefore : ℕ → List Node → ℕ → Type 0
NoneBefore i xs n = (j : ℕ) (x : Node) → j < n → slice_get xs j ≡ Some x → is_section i x.label ≡ false

behind_first : (i : ℕ) (x : Node) (xs : List Node) (n : ℕ) → NoneBefore i (x ∷ xs) (suc n) → NoneBefore i xs n
behind_first i x xs n none j y lt at = none (suc j) y (omega (arith, lt)) at

passed_over : (i : ℕ) (x : Node) (xs : List Node) → is_section i x.label ≡ false → node_of i (x ∷ xs) ≡ node_of i xs
passed_over i x xs other = rw (other) refl

pub found_first : (i : ℕ) (xs : List Node) (n : ℕ) (x : Node) → NoneBefore i xs n → slice_get xs n ≡ Some x
    → is_section i x.label ≡ true → node_of i xs ≡ Some x
found_first i [] n x none at is = absurd cc
found_first i (y ∷ xs) zero x none at is =
    let e : y ≡ x = cc in
    subst (λ z. node_of i (z ∷ xs) ≡ Some x) (sym e) (rw (is) refl)
found_first i (y ∷ xs) (suc n) x none at is =
    passed_over i y xs (none zero y (omega arith) refl)
    ∙ found_first i xs n x (behind_first i y xs n none) at is

pub found_none : (i : ℕ) (xs : List Node) → NoneBefore i xs (length xs) → node_of i xs ≡ None
found_none i [] none = refl
found_none i (x ∷ xs) none =
    passed_over i x xs (none zero x (omega arith) refl)
    ∙ found_none i xs (behind_first i x xs (length xs) none)

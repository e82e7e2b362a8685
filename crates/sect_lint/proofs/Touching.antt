-- Whether some of the first elements pass a test.
use Rattle.std.proofs.Common.{◌≡◌, ℕ, zero, suc, ◌+◌, List, [], ◌∷◌, Option, Some, None, Bool, true, false, ◌||◌, take}
use Rattle.std.proofs.Common.{slice_get, refl, ap, ◌∙◌, add-one}
use Rattle.std.specs.{Prelude.{option_map}, List.{list_any}}
use Rattle.sect_lemmas.proofs.Options.{none_or_some, some_injective}
use Rattle.sect_types.specs.declared.expansion.action.Label.{Label}
use Rattle.sect_graph.specs.declared.flow.Node.{Node}
use Rattle.sect_lint.specs.Idle.{node_touches, touches}

module _ {X : Type 0} (p : X → Bool) where
  -- one that doesn't, behind those that don't
  next_fails : (xs : List X) (i : ℕ) (x : X) → slice_get xs i ≡ Some x → list_any p (take i xs) ≡ false
      → p x ≡ false → list_any p (take (suc i) xs) ≡ false
  next_fails [] i x at before here = absurd (none_or_some x at)
  next_fails (y ∷ xs) zero x at before here = ap (λ b. b || false) (ap p (some_injective y x at) ∙ here)
  next_fails (y ∷ xs) (suc i) x at before here = by (p y) (λ e. next_fails xs i x at e here) before
    where
      by : (b : Bool) → (list_any p (take i xs) ≡ false → list_any p (take (suc i) xs) ≡ false)
          → (b || list_any p (take i xs)) ≡ false → (b || list_any p (take (suc i) xs)) ≡ false
      by true later e = e
      by false later e = later e

  pub none_yet : (xs : List X) (i : ℕ) (x : X) → slice_get xs i ≡ Some x → list_any p (take i xs) ≡ false
      → p x ≡ false → list_any p (take (i + 1) xs) ≡ false
  none_yet xs i x at before here =
      ap (λ n. list_any p (take n xs)) (add-one i) ∙ next_fails xs i x at before here

  -- one that does
  pub found_at : (xs : List X) (i : ℕ) (x : X) → slice_get xs i ≡ Some x → p x ≡ true → list_any p xs ≡ true
  found_at [] i x at here = absurd (none_or_some x at)
  found_at (y ∷ xs) zero x at here = ap (λ b. b || list_any p xs) (ap p (some_injective y x at) ∙ here)
  found_at (y ∷ xs) (suc i) x at here = by (p y) (found_at xs i x at here)
    where
      by : (b : Bool) → list_any p xs ≡ true → (b || list_any p xs) ≡ true
      by true e = refl
      by false e = e

-- a node whose label is known
pub node_at : (o : Option Node) (l : Label) → option_map (λ (n : Node). n.label) o ≡ Some l
    → (n : Node) × (o ≡ Some n) × (n.label ≡ l)
node_at None l e = absurd (none_or_some l e)
node_at (Some n) l e = (n, refl, some_injective n.label l e)

pub touched_by : (r : ℕ) (n : Node) (l : Label) → n.label ≡ l → node_touches r n ≡ touches r l
touched_by r n l e = ap (touches r) e

-- Least sets in canonical order are one.
use Rattle.std.proofs.Common.{◌≡◌, ℕ, List, sym, ◌∙◌, subst}
use Rattle.sect_lemmas.specs.Lists.{Has}
use Rattle.sect_types.specs.Statements.{TextView}
use Rattle.sect_names.specs.{declared.lock.Lock.{Lock}, Schemes.{SchemeView}, Locks.{Covers}, Needed.{IsLeast}}
use Rattle.sect_names.specs.Order.{AreInOrder}
use Rattle.sect_names.proofs.shared.{Covering.{covers_trans, covers_antisym}, Uniqueness.{same_lists}}

module _ (s : SchemeView) (t : ℕ) (last : List Lock) (body : TextView) where
  -- each lock of one least set is in the other
  within : (xs ys : List Lock) → IsLeast s t last body xs → IsLeast s t last body ys → (l : Lock) → Has xs l → Has ys l
  within xs ys x y l h =
      let over = x.least ys y.protects l h in
      let back = y.least xs x.protects over.0 over.1 in
      let up = covers_trans s back.0 over.0 l back.2 over.2 in
      let same = x.apart l back.0 h back.1 up in
      let here = covers_antisym s over.0 back.0 (subst (λ z. Covers s over.0 z) (sym same) over.2) back.2 in
      subst (Has ys) (here ∙ same) over.1

  pub one_least : (xs ys : List Lock) → IsLeast s t last body xs → IsLeast s t last body ys → AreInOrder xs
      → AreInOrder ys → xs ≡ ys
  one_least xs ys x y a b = same_lists xs ys a b (within xs ys x y) (within ys xs y x)

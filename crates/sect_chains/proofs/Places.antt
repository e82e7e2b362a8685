-- Elements of lists and their places.
use Rattle.std.proofs.Common.{◌≡◌, ℕ, ◌<◌, List, Some, length, get_or, sym, ap, ◌∙◌}
use Rattle.std.proofs.lemmas.Option.{slice_get-get_or}
use Rattle.std.specs.Prelude.{slice_get}

-- what is read at an index, and turns out to be this, stands there
pub read_at : {X : Type 0} (xs : List X) (i : ℕ) (r x : X) → i < length xs → r ≡ get_or xs i r → r ≡ x
    → slice_get xs i ≡ Some x
read_at xs i r x within is e = slice_get-get_or xs i r within ∙ ap (λ z. Some z) (sym is ∙ e)

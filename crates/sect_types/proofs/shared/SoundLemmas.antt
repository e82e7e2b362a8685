-- Names that the test of names finds equal are equal.
use Rattle.std.proofs.{Common.{◌≡◌, ℕ, nat_eq, true, List, refl}, lemmas.Slice.Eq.{slice_eq-Decides}}
use Rattle.std.proofs.lemmas.Bool.Decides.{Decides-eqb}
use Rattle.std.specs.Cmp.Lexicographic.{pointwise}
use Rattle.sect_types.specs.Sight.{same_name}

pub same_names : (r q : List ℕ) → same_name r q ≡ true → r ≡ q
same_names r q e = (slice_eq-Decides Decides-eqb r q (pointwise nat_eq r q) refl).0 e

-- Lists of which an element repeats the one before.
use Rattle.std.proofs.Common.{◌≡◌, ℕ, ◌+◌, ◌-◌, ◌<◌, List, [], ◌∷◌, ◌++◌, Some, length, take, get_or}
use Rattle.std.proofs.{Common.{sym, ◌∙◌, ap, subst, arith}, lemmas.List.{length-take-le}}
use Rattle.std.proofs.{lemmas.Option.{get_or_from_slice_get, unwrap_or-slice_get}, lemmas.Slice.Zip.{AllZip-long}}
use Rattle.std.specs.{Prelude.{slice_get}, Option.{unwrap_or}, List.{AllZip}}
use Rattle.sect_lemmas.proofs.{Places.{at_of, zip_more, zipped_at}, Elements.{taken}}

-- what is equal at two places is so by either default
pub same_at : {X : Type 0} (xs : List X) (i j : ℕ) (d : X) → slice_get xs i ≡ slice_get xs j
    → get_or xs i d ≡ get_or xs j d
same_at xs i j d e = sym (unwrap_or-slice_get xs i d) ∙ ap (λ o. unwrap_or o d) e ∙ unwrap_or-slice_get xs j d

-- one pair more
pub zip_one_more : {A B : Type 0} (R : A → B → Type 0) (xs : List A) (n : ℕ) (x : A) (ys zs : List B) (y : B)
    → n < length xs → slice_get xs n ≡ Some x → AllZip R (take n xs) ys → R x y → zs ≡ ys ++ y ∷ []
    → AllZip R (take (n + 1) xs) zs
zip_one_more R xs n x ys zs y within at before here is =
    subst (AllZip R (take (n + 1) xs)) (sym is)
    (zip_more R xs n x ys y within (sym (get_or_from_slice_get xs n x x at)) before here)

-- the last pair once more
pub zip_again : {A B : Type 0} (R : A → B → Type 0) (xs : List A) (n : ℕ) (ys zs : List B) → 0 < n → n < length xs
    → slice_get xs n ≡ slice_get xs (n - 1) → AllZip R (take n xs) ys
    → ((y : B) → slice_get ys (length ys - 1) ≡ Some y → zs ≡ ys ++ y ∷ []) → AllZip R (take (n + 1) xs) zs
zip_again R xs n ys zs some within same before is =
    let long : length ys ≡ n = omega (
      arith,
      AllZip-long R (take n xs) ys before,
      length-take-le n xs (let le : n < length xs = within in omega (arith, le)),
    ) in
    let last : n - 1 < length ys = omega (arith, long, some) in
    let y = at_of ys (n - 1) last in
    let x = zipped_at R (take n xs) ys before (n - 1) y.0 y.1 in
    let at : slice_get xs n ≡ Some x.0 = same ∙ sym (taken xs n (n - 1) (omega (arith, some))) ∙ x.1 in
    zip_one_more R xs n x.0 ys zs y.0 within at before x.2 (is y.0 (ap (λ i. slice_get ys (i - 1)) long ∙ y.1))

-- An object that is taken back leaves the store as it was.
use Rattle.std.proofs.Common.{◌≡◌, ◌-◌, ℕ, zero, suc, List, [], ◌∷◌, ◌++◌, length, take, refl, ap, ◌∙◌, arith}
use Rattle.std.proofs.{lemmas.List.{length-append}, Math.Seq.{take-append_seam}}
use Rattle.sect_types.specs.Store.{ObjectView, StoreView, add}
use Rattle.sect_lemmas.specs.Lists.{changed_at}
use Rattle.sect_store.specs.Undoing.{without_end, without_last}

end_off : {X : Type 0} (xs : List X) (x : X) → without_end (xs ++ x ∷ []) ≡ xs
end_off xs x =
    let n : length (xs ++ x ∷ []) - 1 ≡ length xs = omega (arith, length-append xs (x ∷ [])) in
    ap (λ m. take m (xs ++ x ∷ [])) n ∙ take-append_seam xs (x ∷ [])

changed_back : {X : Type 0} (n : ℕ) (x : X) (rows : List (List X))
    → changed_at n without_end (changed_at n (λ row. row ++ x ∷ []) rows) ≡ rows
changed_back n x [] = refl
changed_back zero x (row ∷ rows) = ap (λ r. r ∷ rows) (end_off row x)
changed_back (suc n) x (row ∷ rows) = ap (λ rs. row ∷ rs) (changed_back n x rows)

pub taken_back : (s : StoreView) (t : ℕ) (o : ObjectView) → without_last (add s t o) t ≡ s
taken_back s t o = ap (λ rows. record { globals = s.globals; made = rows }) (changed_back t o s.made)

-- Parts of what is joined.
use Rattle.sect_cert.proofs.Counts.{same, last_at}
use Rattle.std.proofs.Common.{◌≡◌, ℕ, zero, suc, ◌-◌, Bool, true, false, not, cond, eqb, ◌&&◌, List, [], ◌∷◌, ◌++◌}
use Rattle.std.proofs.{Common.{length, refl, sym, ◌∙◌, ap, arith, length-append}, lemmas.Bool.{eqb-true}}
use Rattle.std.proofs.Math.Seq.{take-append_seam}
use Rattle.std.specs.Prelude.{◌==◌, slice_get, take, nat_le}
use Rattle.std.specs.List.{onto_first, join_with_byte, list_all, AllByRecursion}
use Rattle.sect_cert.specs.{Parts.{parts}, Texts.{fed}}
use Rattle.sect_front.specs.Words.{is_letter, is_name_byte, is_name, begins, is_keyword}
use Rattle.sect_cert.specs.steps.Numbers.{ends_with, without_end, is_byte}

-- the byte isn't among these
abbrev pub lacks : ℕ → List ℕ → Bool
lacks c [] = true
lacks c (b ∷ bs) = not (b == c) && lacks c bs

-- the parts of a text, up to its first mark
pub parts_front : (c : ℕ) (w bs : List ℕ) → lacks c w ≡ true → parts c (w ++ c ∷ bs) ≡ w ∷ parts c bs
parts_front c [] bs h = rw (same c) refl
parts_front c (b ∷ w) bs h = go (b == c) h (λ k. parts_front c w bs k)
  where
    go : (t : Bool) → (not t && lacks c w) ≡ true → (lacks c w ≡ true → parts c (w ++ c ∷ bs) ≡ w ∷ parts c bs) →
        cond t ([] ∷ parts c (w ++ c ∷ bs)) (onto_first b (parts c (w ++ c ∷ bs))) ≡ (b ∷ w) ∷ parts c bs
    go true h k = cc
    go false h k = ap (onto_first b) (k h)

-- a text without marks is one part
pub parts_one : (c : ℕ) (w : List ℕ) → lacks c w ≡ true → parts c w ≡ w ∷ []
parts_one c [] h = refl
parts_one c (b ∷ w) h = go (b == c) h (λ k. parts_one c w k)
  where
    go : (t : Bool) → (not t && lacks c w) ≡ true → (lacks c w ≡ true → parts c w ≡ w ∷ []) →
        cond t ([] ∷ parts c w) (onto_first b (parts c w)) ≡ (b ∷ w) ∷ []
    go true h k = cc
    go false h k = ap (onto_first b) (k h)

-- what is joined comes apart again
pub parts_join : (c : ℕ) (w : List ℕ) (ws : List (List ℕ)) → AllByRecursion (λ x. lacks c x ≡ true) (w ∷ ws)
    → parts c (join_with_byte c (w ∷ ws)) ≡ w ∷ ws
parts_join c w [] h = parts_one c w h.0
parts_join c w (v ∷ ws) h = parts_front c w (join_with_byte c (v ∷ ws)) h.0 ∙ ap (λ x. w ∷ x) (parts_join c v ws h.1)

-- bytes that pass a test lack what doesn't
pub bytes_lack : (f : ℕ → Bool) (c : ℕ) → f c ≡ false → (w : List ℕ) → list_all f w ≡ true → lacks c w ≡ true
bytes_lack f c out [] h = refl
bytes_lack f c out (b ∷ w) h = go (eqb b c) refl (f b) refl h (λ k. bytes_lack f c out w k)
  where
    go : (t : Bool) → eqb b c ≡ t → (n : Bool) → f b ≡ n → (n && list_all f w) ≡ true
        → (list_all f w ≡ true → lacks c w ≡ true) → (not t && lacks c w) ≡ true
    go t e false g h k = cc
    go false e true g h k = k h
    go true e true g h k = let same_byte : b ≡ c = eqb-true b c e in
        let bad : true ≡ false = sym g ∙ (ap f same_byte ∙ out) in cc

pub has_name_bytes : (w : List ℕ) → is_name w ≡ true → list_all is_name_byte w ≡ true
has_name_bytes w h = go (begins is_letter w) (list_all is_name_byte w) (nat_le (length w) 32) (not (is_keyword w)) h
  where
    go : (a b c d : Bool) → (a && b && c && d) ≡ true → b ≡ true
    go true true c d h = refl
    go true false c d h = cc
    go false b c d h = cc

-- names lack what is no byte of a name
pub names_lack : (c : ℕ) → is_name_byte c ≡ false → (p : List (List ℕ)) → list_all is_name p ≡ true
    → AllByRecursion (λ x. lacks c x ≡ true) p
names_lack c out [] h = tt
names_lack c out (w ∷ p) h = go (is_name w) refl h (λ k. names_lack c out p k)
  where
    go : (n : Bool) → is_name w ≡ n → (n && list_all is_name p) ≡ true
        → (list_all is_name p ≡ true → AllByRecursion (λ x. lacks c x ≡ true) p)
        → (lacks c w ≡ true) × AllByRecursion (λ x. lacks c x ≡ true) p
    go true e h k = (bytes_lack is_name_byte c out w (has_name_bytes w e), k h)
    go false e h k = cc

pub lacks_append : (c : ℕ) (v w : List ℕ) → lacks c v ≡ true → lacks c w ≡ true → lacks c (v ++ w) ≡ true
lacks_append c [] w h k = k
lacks_append c (b ∷ v) w h k = go (b == c) h (λ g. lacks_append c v w g k)
  where
    go : (t : Bool) → (not t && lacks c v) ≡ true → (lacks c v ≡ true → lacks c (v ++ w) ≡ true)
        → (not t && lacks c (v ++ w)) ≡ true
    go true h g = cc
    go false h g = g h

-- what is joined by points lacks what its parts and the point lack
pub joined_lacks : (c : ℕ) → (46 == c) ≡ false → (ws : List (List ℕ)) → AllByRecursion (λ x. lacks c x ≡ true) ws
    → lacks c (join_with_byte 46 ws) ≡ true
joined_lacks c dot [] h = refl
joined_lacks c dot (w ∷ []) h = h.0
joined_lacks c dot (w ∷ v ∷ ws) h =
    lacks_append c w (46 ∷ join_with_byte 46 (v ∷ ws)) h.0 (rw dot (joined_lacks c dot (v ∷ ws) h.1))

-- a word with a mark at its end, and without it
pub ends_end : (c : ℕ) (w : List ℕ) → ends_with c (w ++ c ∷ []) ≡ true
ends_end c w = let n : length (w ++ c ∷ []) - 1 ≡ length w = omega (arith, length-append w (c ∷ [])) in
    rw (n, last_at w c) (same c)

pub take_end : (c : ℕ) (w : List ℕ) → take (length (w ++ c ∷ []) - 1) (w ++ c ∷ []) ≡ w
take_end c w = let n : length (w ++ c ∷ []) - 1 ≡ length w = omega (arith, length-append w (c ∷ [])) in
    rw n (take-append_seam w (c ∷ []))

pub without_end_end : (c : ℕ) (w : List ℕ) → without_end c (w ++ c ∷ []) ≡ w
without_end_end c w = let n : length (w ++ c ∷ []) - 1 ≡ length w = omega (arith, length-append w (c ∷ [])) in
    rw (ends_end c w, n) (take-append_seam w (c ∷ []))

lacks_at : (c : ℕ) (w : List ℕ) (k : ℕ) → lacks c w ≡ true → is_byte c (slice_get w k) ≡ false
lacks_at c [] k h = refl
lacks_at c (b ∷ w) zero h = go (b == c) h
  where
    go : (t : Bool) → (not t && lacks c w) ≡ true → t ≡ false
    go true h = cc
    go false h = refl
lacks_at c (b ∷ w) (suc k) h = go (b == c) h (λ g. lacks_at c w k g)
  where
    go : (t : Bool) → (not t && lacks c w) ≡ true → (lacks c w ≡ true → is_byte c (slice_get w k) ≡ false)
        → is_byte c (slice_get w k) ≡ false
    go true h g = cc
    go false h g = g h

pub lacks_end : (c : ℕ) (w : List ℕ) → lacks c w ≡ true → ends_with c w ≡ false
lacks_end c w h = lacks_at c w (length w - 1) h

-- a text of lines, cut at its line feeds
pub parts_fed : (ts : List (List ℕ)) → AllByRecursion (λ x. lacks 10 x ≡ true) ts → parts 10 (fed ts) ≡ ts ++ [] ∷ []
parts_fed [] h = refl
parts_fed (t ∷ ts) h = parts_front 10 t (fed ts) h.0 ∙ ap (λ x. t ∷ x) (parts_fed ts h.1)

pub fed_join : (ts : List (List ℕ)) → join_with_byte 10 (ts ++ [] ∷ []) ≡ fed ts
fed_join [] = refl
fed_join (t ∷ []) = refl
fed_join (t ∷ u ∷ ts) = ap (λ x. t ++ 10 ∷ x) (fed_join (u ∷ ts))

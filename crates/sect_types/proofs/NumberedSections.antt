-- The section of a number is the one at that index.
use Rattle.std.proofs.Common.{◌≡◌, ℕ, zero, suc, ◌+◌, ◌<◌, true, false, List, [], ◌∷◌, ◌++◌, map, drop, length, Option}
use Rattle.std.proofs.Common.{Some, None, slice_get, nat_eq, if◌then◌else◌, refl, sym, ap, ◌∙◌, arith}
use Rattle.std.proofs.{lemmas.List.{length-map}, lemmas.Option.{slice_get-map}, lemmas.Bool.Decides.{nat_tests}}
use Rattle.std.specs.Option.{option_or, option_map}
use Rattle.sect_lemmas.proofs.Elements.{is_there}
use Rattle.sect_types.specs.Statements.{TextView, Stop, Do, Choose, Loop, Section as TheSection, section_body}
use Rattle.sect_types.specs.Statements.{section_bodies}
use Rattle.sect_types.specs.Sections.{SectionView, sections_from, sections_of, AreNumbered, AllNumbered, found_in}
use Rattle.sect_types.specs.{Sections.{section_from, section_shown}, declared.counting.section.Section.{Section}}
use Rattle.sect_types.specs.steps.FoundSections.{section_in}

-- what is found in the first list, and else in the second, is found in both together
append_at : {A : Type 0} (xs ys : List A) (h : ℕ → Option A) (m j : ℕ)
    → ((i : ℕ) → h (m + length xs + i) ≡ slice_get ys i)
    → option_or (slice_get xs j) (h (m + j)) ≡ slice_get (xs ++ ys) j
append_at [] ys h m j k = ap h (omega arith) ∙ k j
append_at (x ∷ xs) ys h m zero k = refl
append_at (x ∷ xs) ys h m (suc j) k =
    ap (λ n. option_or (slice_get xs j) (h n)) (omega arith)
    ∙ append_at xs ys h (m + 1) j (λ i. ap h (omega arith) ∙ k i)

same_number : (i m j : ℕ) → i ≡ m → nat_eq i (m + 0) ≡ true
same_number i m j e = grind (arith, nat_tests)

other_number : (i m j : ℕ) → i ≡ m → nat_eq i (m + suc j) ≡ false
other_number i m j e = grind (arith, nat_tests)

pub body_at : (p : TextView) (m j : ℕ) → AreNumbered m p → section_body (m + j) p ≡ slice_get (section_bodies p) j
body_at Stop m j h = refl
body_at (Do a k) m j h = body_at k m j h
body_at (Choose c p q k) m j (first, second, rest) =
    ap (λ x. option_or x (option_or (section_body (m + j) q) (section_body (m + j) k))) (body_at p m j first)
    ∙ append_at (section_bodies p) (section_bodies q ++ section_bodies k)
    (λ n. option_or (section_body n q) (section_body n k)) m j
    (λ i.
    ap (λ x. option_or x (section_body (m + length (section_bodies p) + i) k))
    (body_at q (m + length (section_bodies p)) i second)
    ∙ append_at (section_bodies q) (section_bodies k) (λ n. section_body n k) (m + length (section_bodies p)) i
    (λ n. body_at k (m + length (section_bodies p) + length (section_bodies q)) n rest))
body_at (Loop c p k) m j (first, rest) =
    ap (λ x. option_or x (section_body (m + j) k)) (body_at p m j first)
    ∙ append_at (section_bodies p) (section_bodies k) (λ n. section_body n k) m j
    (λ i. body_at k (m + length (section_bodies p)) i rest)
body_at (TheSection i p k) m zero (same, rest) =
    ap (λ b. if b then Some p else section_body (m + 0) k) (same_number i m 0 same)
body_at (TheSection i p k) m (suc j) (same, rest) =
    ap (λ b. if b then Some p else section_body (m + suc j) k) (other_number i m j same)
    ∙ (ap (λ n. section_body n k) (omega arith) ∙ body_at k (m + 1) j rest)

found_or : (t : ℕ) (o : Option TextView) (other : Option SectionView)
    → found_in t o other ≡ option_or (option_map (λ (b : TextView). record { thread = t; body = b }) o) other
found_or t None other = refl
found_or t (Some b) other = refl

section_at : (ps : List TextView) (t m j : ℕ) → AllNumbered m ps
    → section_from (m + j) t ps ≡ slice_get (sections_from t ps) j
section_at [] t m j h = refl
section_at (p ∷ ps) t m j (here, more) =
    ap (λ o. found_in t o (section_from (m + j) (t + 1) ps)) (body_at p m j here)
    ∙ (found_or t (slice_get (section_bodies p) j) (section_from (m + j) (t + 1) ps)
    ∙ (ap (λ o. option_or o (section_from (m + j) (t + 1) ps))
    (sym (slice_get-map (λ (b : TextView). record { thread = t; body = b }) (section_bodies p) j))
    ∙ append_at (map (λ (b : TextView). record { thread = t; body = b }) (section_bodies p)) (sections_from (t + 1) ps)
    (λ n. section_from n (t + 1) ps) m j
    (λ i. ap (λ n. section_from n (t + 1) ps)
    (omega (
      arith,
      length-map {B = SectionView} (section_bodies p)
          (λ (b : TextView). record { thread = t; body = b }),
    ))
    ∙ section_at ps (t + 1) (m + length (section_bodies p)) i more)))

pub section_of_number : (ps : List TextView) (n : ℕ) → AllNumbered 0 ps
    → section_from n 0 ps ≡ slice_get (sections_of ps) n
section_of_number ps n h = ap (λ k. section_from k 0 ps) (omega arith) ∙ section_at ps 0 0 n h

-- what a look through all texts gives for a section's number
pub found : (ps : List TextView) (n : ℕ) (r : Option Section) → AllNumbered 0 ps → section_in r ≡ section_from n 0 ps
    → n < length (sections_of ps)
    → (s : Section) × (r ≡ Some s) × (slice_get (sections_of ps) n ≡ Some (section_shown s))
found ps n None h e k = absurd (is_there (sections_of ps) n k (sym (e ∙ section_of_number ps n h)))
found ps n (Some s) h e k = (s, refl, sym (e ∙ section_of_number ps n h))

-- the texts from the thread on have what is sought in all
pub record IsSoughtIn (n : ℕ) (all : List TextView) (thread i : ℕ) : Type 0 where
  pub counted : thread ≡ i
  pub same : section_from n 0 all ≡ section_from n thread (drop i all)

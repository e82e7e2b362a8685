-- Marks that say which numbers are there.
use Rattle.std.proofs.Common.{◌≡◌, ◌↔◌, ℕ, zero, suc, ◌+◌, ◌<◌, ◌≤◌, List, [], ◌∷◌, ◌++◌, Bool, true, false, nat_eq}
use Rattle.std.proofs.Common.{length, get_or, set, take, drop, replicate, refl, sym, ap, ◌∙◌, subst, arith, inl, inr}
use Rattle.std.proofs.{Common.{true≢false}, lemmas.Bool.{cases_eq, or_right}}
use Rattle.std.proofs.lemmas.List.{get_or-set_same, get_or-set_other, take_more, take_all}
use Rattle.std.specs.{Prelude.{slice_index_or, ◌||◌}, Cmp.{unsigned_Decides}}
use Rattle.sect_lemmas.specs.Lists.{Has}
use Rattle.sect_lemmas.proofs.Elements.{drop_next, repeated}
use Rattle.sect_lemmas.proofs.Booleans.{or_false}
use Rattle.sect_infer.specs.Numbers.{has_number, with_number, with_numbers, AreApart, AreMarked}
use Rattle.sect_infer.proofs.shared.Apart.{apart_push, number_tells, number_absent}

-- a test is off where what it tells doesn't hold
off : {P : Type 0} (b : Bool) → (b ≡ true) ↔ P → (P → ⊥) → b ≡ false
off true tells n = absurd (n (tells.0 refl))
off false tells n = refl

-- a mark that is set is within the marks
pub mark_within : (marks : List Bool) (n : ℕ) → slice_index_or marks n false ≡ true → n < length marks
mark_within [] n e = absurd (true≢false (sym e))
mark_within (m ∷ marks) zero e = omega arith
mark_within (m ∷ marks) (suc n) e = let r = mark_within marks n e in omega (arith, r)

-- another number is there where it was
has_other : (x n : ℕ) (ns : List ℕ) → (n ≡ x → ⊥) → has_number (x ∷ ns) n ≡ has_number ns n
has_other x n ns apart = ap (λ b. b || has_number ns n) (off (nat_eq n x) (unsigned_Decides n x) apart)

-- the number at an index is there
pub has_at : (ns : List ℕ) (i x : ℕ) → i < length ns → x ≡ get_or ns i x → has_number (drop i ns) x ≡ true
has_at ns i x within is = (number_tells (drop i ns) x).1
    (subst (λ ms. Has ms x) (sym (drop_next ns i x within is)) (inl refl))

-- the rest of numbers without repetition
drop_apart : (ns : List ℕ) (i : ℕ) → AreApart ns → AreApart (drop i ns)
drop_apart ns zero a = a
drop_apart [] (suc i) a = a
drop_apart (n ∷ ns) (suc i) a = drop_apart ns i a.1

-- one mark is taken away
pub unmark_next : (ns : List ℕ) (marks : List Bool) (i x : ℕ) → AreApart ns → i < length ns → x ≡ get_or ns i x
    → ((n : ℕ) → slice_index_or marks n false ≡ has_number (drop i ns) n)
    → (n : ℕ) → slice_index_or (set marks x false) n false ≡ has_number (drop (i + 1) ns) n
unmark_next ns marks i x apart within is told n =
    let next : drop i ns ≡ x ∷ drop (i + 1) ns = drop_next ns i x within is in
    let there : x < length marks = mark_within marks x (told x ∙ has_at ns i x within is) in
    elim (cases_eq n x) [
      | inl e ↦
          let gone : has_number (drop (i + 1) ns) n ≡ false =
          off (has_number (drop (i + 1) ns) n) (number_tells (drop (i + 1) ns) n)
          (λ h. (subst AreApart next (drop_apart ns i apart)).0 (subst (Has (drop (i + 1) ns)) e h)) in
          ap (λ m. get_or (set marks x false) m false) e ∙ get_or-set_same marks x false false there ∙ sym gone
      | inr other ↦ get_or-set_other marks x n false false other ∙ told n ∙ ap (λ ms. has_number ms n) next
          ∙ has_other x n (drop (i + 1) ns) other
    ]

-- what is there with one number more
has_behind : (ns : List ℕ) (x n : ℕ) → has_number (ns ++ x ∷ []) n ≡ (has_number ns n || nat_eq n x)
has_behind [] x n = or_false (nat_eq n x)
has_behind (m ∷ ns) x n = ap (λ b. nat_eq n m || b) (has_behind ns x n)
    ∙ or_assoc (nat_eq n m) (has_number ns n) (nat_eq n x)
  where
    or_assoc : (a b c : Bool) → (a || (b || c)) ≡ ((a || b) || c)
    or_assoc true b c = refl
    or_assoc false b c = refl

-- one number more is marked
pub mark_one : (ns : List ℕ) (marks : List Bool) (x : ℕ) → has_number ns x ≡ false → x < length marks
    → ((n : ℕ) → slice_index_or marks n false ≡ has_number ns n) → AreApart ns
    → AreMarked (ns ++ x ∷ []) (set marks x true)
mark_one ns marks x absent there told apart = record {
  told = λ n. elim (cases_eq n x) [
    | inl e ↦ ap (λ m. get_or (set marks x true) m false) e ∙ get_or-set_same marks x true false there
        ∙ sym (has_behind ns x n ∙ or_right (has_number ns n) (nat_eq n x) ((unsigned_Decides n x).1 e))
    | inr other ↦ get_or-set_other marks x n true false other ∙ told n
        ∙ sym (has_behind ns x n ∙ or_off (has_number ns n) (nat_eq n x)
        (off (nat_eq n x) (unsigned_Decides n x) other))
  ];
  apart = apart_push ns x apart (number_absent ns x absent);
}
  where
    or_off : (a b : Bool) → b ≡ false → (a || b) ≡ a
    or_off true b e = refl
    or_off false b e = e

-- one number more of a list
pub with_next : (ns ms : List ℕ) (i m : ℕ) → i < length ms → m ≡ get_or ms i m
    → with_number (with_numbers ns (take i ms)) m ≡ with_numbers ns (take (i + 1) ms)
with_next ns ms i m within is =
    sym (ap (with_numbers ns) (take_more ms i m within ∙ ap (λ x. take i ms ++ x ∷ []) (sym is))
    ∙ behind ns (take i ms) m)
  where
    behind : (ns ms : List ℕ) (m : ℕ) → with_numbers ns (ms ++ m ∷ []) ≡ with_number (with_numbers ns ms) m
    behind ns [] m = refl
    behind ns (k ∷ ms) m = behind (with_number ns k) ms m

-- room for more marks marks nothing
pub room_marks_nothing : (marks : List Bool) (k n : ℕ)
    → get_or (marks ++ replicate k false) n false ≡ get_or marks n false
room_marks_nothing [] k n = repeated k n false
room_marks_nothing (m ∷ marks) k zero = refl
room_marks_nothing (m ∷ marks) k (suc n) = room_marks_nothing marks k n

-- marks that are grown up to a number
pub grown_marks : (old new : List Bool) (number k : ℕ) → length old ≤ number
    → new ≡ take number old ++ replicate k false → (n : ℕ) → slice_index_or new n false ≡ slice_index_or old n false
grown_marks old new number k short is n =
    ap (λ xs. get_or xs n false) (is ∙ ap (λ xs. xs ++ replicate k false) (take_all number old short))
    ∙ room_marks_nothing old k n

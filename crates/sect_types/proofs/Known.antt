-- The set of all names of records.
use Rattle.std.proofs.Common.{◌≡◌, ℕ, ◌+◌, Bool, true, false, ◌||◌, List, [], ◌∷◌, ◌++◌, take, nat_eq, if◌then◌else◌}
use Rattle.std.proofs.{Common.{refl, sym, ap, ◌∙◌}, lemmas.List.{map-append}, lemmas.List.Folds.{list_any-append}}
use Rattle.std.specs.Cmp.Lexicographic.{pointwise}
use Rattle.sect_lemmas.proofs.Booleans.{or_false}
use Rattle.sect_front.specs.declared.tree.Record.{Record}
use Rattle.sect_types.specs.Sight.{has_name, added, same_name, names_of_records}
use Rattle.sect_types.specs.steps.Listing.{Knows}
use Rattle.sect_types.proofs.shared.SoundLemmas.{same_names}

has_last : (x n : List ℕ) (ks : List (List ℕ)) → has_name x (ks ++ n ∷ []) ≡ (has_name x ks || same_name x n)
has_last x n ks = list_any-append (pointwise nat_eq x) ks (n ∷ [])
    ∙ ap (λ b. has_name x ks || b) (or_false (same_name x n))

-- a set to which a name was added has the names of the list to which it was added
has_added : (x n : List ℕ) (ks : List (List ℕ)) → has_name x (added ks n) ≡ (has_name x ks || same_name x n)
has_added x n ks = by (has_name n ks) refl
  where
    also : (b : Bool) → same_name x n ≡ b → has_name n ks ≡ true → has_name x ks ≡ (has_name x ks || b)
    also false e h = sym (or_false (has_name x ks))
    also true e h =
        let there : has_name x ks ≡ true = ap (λ y. has_name y ks) (same_names x n e) ∙ h in
        there ∙ sym (ap (λ b. b || true) there)

    by : (b : Bool) → has_name n ks ≡ b → has_name x (if b then ks else ks ++ n ∷ []) ≡ (has_name x ks || same_name x n)
    by true e = also (same_name x n) refl e
    by false e = has_last x n ks

pub knows_more : (ks : List (List ℕ)) (rs : List Record) (i : ℕ) (r : Record) → take (i + 1) rs ≡ take i rs ++ r ∷ []
    → Knows ks (take i rs) → Knows (added ks r.name) (take (i + 1) rs)
knows_more ks rs i r e knows x =
    has_added x r.name ks
    ∙ (ap (λ b. b || same_name x r.name) (knows x)
    ∙ (sym (has_last x r.name (names_of_records (take i rs)))
    ∙ (ap (has_name x) (sym (map-append (λ (q : Record). q.name) (take i rs) (r ∷ [])))
    ∙ ap (λ l. has_name x (names_of_records l)) (sym e))))

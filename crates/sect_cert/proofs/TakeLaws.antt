-- What a list of locks takes is what it spells.
use Rattle.std.proofs.Common.{◌≡◌, ℕ, suc, ◌-◌, ◌<◌, Bool, true, false, cond, List, [], ◌∷◌, ◌++◌, Option, Some, None}
use Rattle.std.proofs.Common.{option_and_then, IfSome, length, take, refl, sym, ◌∙◌, ap, arith, append-nil}
use Rattle.std.proofs.lemmas.Bool.{eqb-true}
use Rattle.std.specs.{Prelude.{codes, slice_get}, Option.{option_map}, Str.{bytes_eq}, Fmt.{decimal}}
use Rattle.std.specs.List.{AllByRecursion}
use Rattle.sect_cert.specs.steps.Numbers.{ends_with, without_end, number_of, is_byte}
use Rattle.sect_cert.specs.steps.Subjects.{mode_of, class_lock, subject_of}
use Rattle.sect_cert.specs.steps.Lists.{place_behind, ListState, list_state, step_of, after}
use Rattle.sect_cert.specs.{Spelling.{lock_words}, Texts.{IsLock}, declared.subject.CertMode.{CertMode}}
use Rattle.sect_cert.specs.{declared.list.ListWord.{ListWord}, declared.lock.CertLock.{CertLock}}
use Rattle.sect_cert.proofs.{CutTexts.{same_bytes}, Counts.{all_more}}
use Rattle.sect_cert.proofs.SubjectLaws.{mode_word, mode_law, mapped, class_lock_law, IsSpelledBy, subject_law}
use Rattle.sect_cert.proofs.NumberLaws.{decimal_number}
use Rattle.sect_cert.specs.declared.list.ListWord.TheVariants as due

-- a word, and the byte that ends it
pub last_split : (c : ℕ) (w : List ℕ) → ends_with c w ≡ true → w ≡ take (length w - 1) w ++ c ∷ []
last_split c [] h = cc
last_split c (b ∷ []) h = ap (λ x. x ∷ []) (eqb-true b c h)
last_split c (b ∷ d ∷ w) h =
    let n : length (b ∷ d ∷ w) - 1 ≡ suc (length (d ∷ w) - 1) = omega arith in
    let g : ends_with c (d ∷ w) ≡ true = ap (λ k. is_byte c (slice_get (b ∷ d ∷ w) k)) (sym n) ∙ h in
    rw n (ap (λ x. b ∷ x) (last_split c (d ∷ w) g))

-- a comma, where one ends a word
abbrev ending : Bool → List ℕ
ending true = codes ","
ending false = []

end_split : (w : List ℕ) → without_end 44 w ++ ending (ends_with 44 w) ≡ w
end_split w = go (ends_with 44 w) refl
  where
    go : (b : Bool) → ends_with 44 w ≡ b → cond b (take (length w - 1) w) w ++ ending b ≡ w
    go true e = sym (last_split 44 w e)
    go false e = append-nil w

-- the words of locks, each before a comma, or all but the last
abbrev pub comma_words : List CertLock → List (List ℕ) → List (List ℕ)
comma_words [] ws = ws
comma_words (l ∷ ls) ws = lock_words l (codes ",") (comma_words ls ws)

abbrev pub whole_words : List CertLock → List (List ℕ) → List (List ℕ)
whole_words [] ws = ws
whole_words (l ∷ []) ws = lock_words l [] ws
whole_words (l ∷ k ∷ ls) ws = lock_words l (codes ",") (whole_words (k ∷ ls) ws)

-- the words that have been read, before what follows
abbrev pub place_words : List CertLock → ListWord → List (List ℕ) → List (List ℕ)
place_words ls due.Mode ws = comma_words ls ws
place_words ls (due.Subject m) ws = comma_words ls (mode_word m ∷ ws)
place_words ls (due.Class m) ws = comma_words ls (mode_word m ∷ codes "class" ∷ ws)
place_words ls due.Whole ws = whole_words ls ws

comma_more : (ls : List CertLock) (l : CertLock) (ws : List (List ℕ))
    → comma_words (ls ++ l ∷ []) ws ≡ comma_words ls (lock_words l (codes ",") ws)
comma_more [] l ws = refl
comma_more (k ∷ ls) l ws = ap (lock_words k (codes ",")) (comma_more ls l ws)

whole_more : (ls : List CertLock) (l : CertLock) (ws : List (List ℕ))
    → whole_words (ls ++ l ∷ []) ws ≡ comma_words ls (lock_words l [] ws)
whole_more [] l ws = refl
whole_more (k ∷ []) l ws = refl
whole_more (k ∷ j ∷ ls) l ws = ap (lock_words k (codes ",")) (whole_more (j ∷ ls) l ws)

behind : (ls : List CertLock) (l : CertLock) (b : Bool) (ws : List (List ℕ))
    → place_words (ls ++ l ∷ []) (place_behind b) ws ≡ comma_words ls (lock_words l (ending b) ws)
behind ls l true ws = comma_more ls l ws
behind ls l false ws = whole_more ls l ws

record Takes (ls : List CertLock) (p : ListWord) (w : List ℕ) (s : ListState) : Type 0 where
  words : (ws : List (List ℕ)) → place_words s.locks s.at ws ≡ place_words ls p (w ∷ ws)
  good : AllByRecursion IsLock ls → AllByRecursion IsLock s.locks

subject_take : (ls : List CertLock) (m : CertMode) (w : List ℕ)
    → IfSome (subject_of m (without_end 44 w))
    (λ l. Takes ls (due.Subject m) w (list_state (ls ++ l ∷ []) (place_behind (ends_with 44 w))))
subject_take ls m w = go (subject_of m (without_end 44 w)) (subject_law m (without_end 44 w))
  where
    go : (o : Option CertLock) → IfSome o (λ l. IsSpelledBy m (without_end 44 w) l)
        → IfSome o (λ l. Takes ls (due.Subject m) w (list_state (ls ++ l ∷ []) (place_behind (ends_with 44 w))))
    go None h = tt
    go (Some l) h = record {
      words = λ ws. behind ls l (ends_with 44 w) ws
          ∙ ap (comma_words ls) (h.words (ending (ends_with 44 w)) ws ∙ ap (λ x. mode_word m ∷ x ∷ ws) (end_split w));
      good = all_more IsLock ls l h.good;
    }

class_take : (ls : List CertLock) (m : CertMode) (w : List ℕ)
    → IfSome (number_of (without_end 44 w))
    (λ n. Takes ls (due.Class m) w (list_state (ls ++ class_lock m n ∷ []) (place_behind (ends_with 44 w))))
class_take ls m w = go (number_of (without_end 44 w)) refl
  where
    go : (o : Option ℕ) → number_of (without_end 44 w) ≡ o
        → IfSome o (λ n. Takes ls (due.Class m) w
        (list_state (ls ++ class_lock m n ∷ []) (place_behind (ends_with 44 w))))
    go None e = tt
    go (Some n) e = let t : (without_end 44 w ≡ decimal n) × (n < 4294967296) = decimal_number (without_end 44 w) n e in
        let h : IsLock (class_lock m n)
        × ((e : List ℕ) (ws : List (List ℕ))
        → lock_words (class_lock m n) e ws ≡ mode_word m ∷ codes "class" ∷ (decimal n ++ e) ∷ ws) =
        class_lock_law m n t.1 in record {
          words = λ ws. behind ls (class_lock m n) (ends_with 44 w) ws
              ∙ ap (comma_words ls) (h.1 (ending (ends_with 44 w)) ws
              ∙ ap (λ x. mode_word m ∷ codes "class" ∷ x ∷ ws)
              (ap (λ x. x ++ ending (ends_with 44 w)) (sym t.0) ∙ end_split w));
          good = all_more IsLock ls (class_lock m n) h.0;
        }

step_law : (ls : List CertLock) (p : ListWord) (w : List ℕ) → IfSome (step_of ls p w) (λ s. Takes ls p w s)
step_law ls due.Mode w = mapped (mode_of w) (λ m. list_state ls (due.Subject m)) (λ m. mode_word m ≡ w)
    (λ s. Takes ls due.Mode w s) (mode_law w)
    (λ m e. record { words = λ ws. ap (λ x. comma_words ls (x ∷ ws)) e; good = λ g. g })
step_law ls (due.Subject m) w = go (bytes_eq w (codes "class")) refl
  where
    go : (b : Bool) → bytes_eq w (codes "class") ≡ b
        → IfSome (cond b (Some (list_state ls (due.Class m)))
        (option_map (λ l. list_state (ls ++ l ∷ []) (place_behind (ends_with 44 w))) (subject_of m (without_end 44 w))))
        (λ s. Takes ls (due.Subject m) w s)
    go true e = record {
      words = λ ws. ap (λ x. comma_words ls (mode_word m ∷ x ∷ ws))
          (sym (same_bytes w (codes "class") e));
      good = λ g. g;
    }
    go false e = mapped (subject_of m (without_end 44 w))
        (λ l. list_state (ls ++ l ∷ []) (place_behind (ends_with 44 w)))
        (λ l. Takes ls (due.Subject m) w (list_state (ls ++ l ∷ []) (place_behind (ends_with 44 w))))
        (λ s. Takes ls (due.Subject m) w s) (subject_take ls m w) (λ l h. h)
step_law ls (due.Class m) w = mapped (number_of (without_end 44 w))
    (λ n. list_state (ls ++ class_lock m n ∷ []) (place_behind (ends_with 44 w)))
    (λ n. Takes ls (due.Class m) w (list_state (ls ++ class_lock m n ∷ []) (place_behind (ends_with 44 w))))
    (λ s. Takes ls (due.Class m) w s) (class_take ls m w) (λ n h. h)
step_law ls due.Whole w = tt

pub record TakesAll (ls : List CertLock) (p : ListWord) (ws : List (List ℕ)) (s : ListState) : Type 0 where
  pub words : (vs : List (List ℕ)) → place_words s.locks s.at vs ≡ place_words ls p (ws ++ vs)
  pub good : AllByRecursion IsLock ls → AllByRecursion IsLock s.locks

-- words that are read as locks are theirs
pub after_law : (ls : List CertLock) (p : ListWord) (ws : List (List ℕ))
    → IfSome (after (list_state ls p) ws) (λ s. TakesAll ls p ws s)
after_law ls p [] = record { words = λ vs. refl; good = λ g. g }
after_law ls p (w ∷ ws) = go (step_of ls p w) (step_law ls p w) (λ t. after_law t.locks t.at ws)
  where
    more : (t : ListState) → Takes ls p w t → (o : Option ListState) → IfSome o (λ s. TakesAll t.locks t.at ws s)
        → IfSome o (λ s. TakesAll ls p (w ∷ ws) s)
    more t h None k = tt
    more t h (Some s) k = record { words = λ vs. k.words vs ∙ h.words (ws ++ vs); good = λ g. k.good (h.good g) }

    go : (o : Option ListState) → IfSome o (λ t. Takes ls p w t)
        → ((t : ListState) → IfSome (after t ws) (λ s. TakesAll t.locks t.at ws s))
        → IfSome (option_and_then (λ t. after t ws) o) (λ s. TakesAll ls p (w ∷ ws) s)
    go None h k = tt
    go (Some t) h k = more t h (after t ws) (k t)

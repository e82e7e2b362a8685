-- The steps of a chain are read as what they spell.
use Rattle.std.proofs.Common.{◌≡◌, ◌≢◌, ℕ, ◌<◌, Bool, true, false, cond, List, [], ◌∷◌, ◌++◌, Option, Some, None}
use Rattle.std.proofs.Common.{option_and_then, IfSome, refl, sym, ◌∙◌, ap, subst, append-nil, append_assoc}
use Rattle.std.specs.{Prelude.{codes, ⊤}, Option.{option_map}, Fmt.{decimal}, Str.{bytes_eq}, List.{AllByRecursion}}
use Rattle.sect_cert.specs.steps.{Numbers.{number_of}, Subjects.{mode_of, path_lock, class_lock, subject_of}}
use Rattle.sect_cert.specs.steps.Chains.{ChainState, chain_state, walk_of, walk_on, steps_in, steps_when, steps_of}
use Rattle.sect_cert.specs.steps.Certificates.{step_with}
use Rattle.sect_cert.specs.{Paths.{path_text}, Spelling.{lock_words, step_words, steps_words, chain_words}}
use Rattle.sect_cert.specs.{Texts.{IsLock, IsStep, IsNumber, IsPath}, declared.subject.CertMode.{CertMode}}
use Rattle.sect_cert.specs.{declared.chain.ChainWord.{ChainWord}, declared.lock.CertLock.{CertLock}}
use Rattle.sect_cert.specs.{declared.certificate.CertStep.{CertStep}, declared.lock.CertPath.{CertPath}}
use Rattle.sect_cert.proofs.{CutTexts.{same_bytes}, Counts.{all_more}}
use Rattle.sect_cert.proofs.SubjectLaws.{mode_word, mode_law, mapped, number_law, class_lock_law, no_class}
use Rattle.sect_cert.proofs.{SubjectLaws.{subject_again, IsSpelledBy, subject_law}, NumberLaws.{number_decimal}}
use Rattle.sect_cert.specs.declared.subject.CertMode.TheVariants as mode
use Rattle.sect_cert.specs.declared.chain.ChainWord.TheVariants as due
use Rattle.sect_cert.specs.declared.lock.CertLock.TheVariants as lock

subject_word : (m : CertMode) (n : ℕ) (w : List ℕ) (l : CertLock) (ss : List CertStep) → subject_of m w ≡ Some l
    → walk_of ss (due.Subject n m) (w ++ []) ≡ Some (chain_state (ss ++ step_with n l ∷ []) due.Whole)
subject_word m n w l ss g =
    let is : subject_of m (w ++ []) ≡ Some l = ap (subject_of m) (append-nil w) ∙ g in
    rw (no_class (λ x. x) refl m (w ++ []) l is, is) refl

path_word : (m : CertMode) (n : ℕ) (p : CertPath) (l : CertLock) (ss : List CertStep) → IsPath p
    → path_lock m p ≡ Some l →
    walk_of ss (due.Subject n m) (path_text p ++ []) ≡ Some (chain_state (ss ++ step_with n l ∷ []) due.Whole)
path_word m n p l ss h g = subject_word m n (path_text p) l ss (subject_again m p l h g)

class_word : (m : CertMode) (n c : ℕ) (ss : List CertStep) → IsNumber c
    → walk_of ss (due.Class n m) (decimal c ++ []) ≡ Some
    (chain_state (ss ++ step_with n (class_lock m c) ∷ []) due.Whole)
class_word m n c ss h = rw (append-nil (decimal c), number_decimal c h) refl

step_passes : (n : ℕ) (l : CertLock) → IsNumber n → IsLock l → (ss : List CertStep) (ws : List (List ℕ)) →
    walk_on (chain_state ss due.Node) (step_words (step_with n l) ws) ≡ walk_on
    (chain_state (ss ++ step_with n l ∷ []) due.Whole) ws
step_passes n lock.WriteAll h k ss ws = rw (number_decimal n h) refl
step_passes n (lock.ReadPath p) h k ss ws =
    rw (number_decimal n h, path_word mode.Read n p (lock.ReadPath p) ss k refl) refl
step_passes n (lock.WritePath p) h k ss ws =
    rw (number_decimal n h, path_word mode.Write n p (lock.WritePath p) ss k refl) refl
step_passes n (lock.ReadClass c) h k ss ws = rw (number_decimal n h, class_word mode.Read n c ss k) refl
step_passes n (lock.WriteClass c) h k ss ws = rw (number_decimal n h, class_word mode.Write n c ss k) refl
step_passes n (lock.MakeClass c) h k ss ws = rw (number_decimal n h, class_word mode.Make n c ss k) refl

steps_pass : (s : CertStep) (ss done : List CertStep) → AllByRecursion IsStep (s ∷ ss)
    → walk_on (chain_state done due.Node) (steps_words s ss) ≡ Some (chain_state (done ++ s ∷ ss) due.Whole)
steps_pass s [] done h = step_passes s.node s.lock h.0.0 h.0.1 done []
steps_pass s (t ∷ ss) done h =
    step_passes s.node s.lock h.0.0 h.0.1 done (codes ">" ∷ steps_words t ss)
    ∙ (steps_pass t ss (done ++ s ∷ []) h.1
    ∙ ap (λ x. Some (chain_state x due.Whole)) (append_assoc done (s ∷ []) (t ∷ ss)))

-- the words of a chain are read as it
pub steps_again : (ss : List CertStep) → ss ≢ [] → AllByRecursion IsStep ss → steps_of (chain_words ss) ≡ Some ss
steps_again [] n h = absurd (n refl)
steps_again (s ∷ ss) n h = ap (option_and_then steps_in) (steps_pass s ss [] h)

-- the words of steps, and before the next
abbrev done_words : List CertStep → List (List ℕ) → List (List ℕ)
done_words [] ws = ws
done_words (s ∷ []) ws = step_words s ws
done_words (s ∷ t ∷ ss) ws = step_words s (codes ">" ∷ done_words (t ∷ ss) ws)

abbrev next_words : List CertStep → List (List ℕ) → List (List ℕ)
next_words [] ws = ws
next_words (s ∷ ss) ws = done_words (s ∷ ss) (codes ">" ∷ ws)

abbrev spot_words : List CertStep → ChainWord → List (List ℕ) → List (List ℕ)
spot_words ss due.Node ws = next_words ss ws
spot_words ss (due.Mode n) ws = next_words ss (decimal n ∷ ws)
spot_words ss (due.Subject n m) ws = next_words ss (decimal n ∷ mode_word m ∷ ws)
spot_words ss (due.Class n m) ws = next_words ss (decimal n ∷ mode_word m ∷ codes "class" ∷ ws)
spot_words ss due.Whole ws = done_words ss ws

abbrev IsSpot : List CertStep → ChainWord → Type 0
IsSpot ss due.Node = ⊤
IsSpot ss (due.Mode n) = IsNumber n
IsSpot ss (due.Subject n m) = IsNumber n
IsSpot ss (due.Class n m) = IsNumber n
IsSpot ss due.Whole = ss ≢ []

done_more : (ss : List CertStep) (s : CertStep) (ws : List (List ℕ))
    → done_words (ss ++ s ∷ []) ws ≡ next_words ss (step_words s ws)
done_more [] s ws = refl
done_more (t ∷ []) s ws = refl
done_more (t ∷ u ∷ ss) s ws = ap (λ x. step_words t (codes ">" ∷ x)) (done_more (u ∷ ss) s ws)

some_more : (ss : List CertStep) (s : CertStep) → (ss ++ s ∷ []) ≢ []
some_more [] s h = cc
some_more (t ∷ ss) s h = cc

record Takes (ss : List CertStep) (p : ChainWord) (w : List ℕ) (t : ChainState) : Type 0 where
  sound : IsSpot t.steps t.at
  words : (ws : List (List ℕ)) → spot_words t.steps t.at ws ≡ spot_words ss p (w ∷ ws)
  good : AllByRecursion IsStep ss → AllByRecursion IsStep t.steps

subject_take : (ss : List CertStep) (n : ℕ) (m : CertMode) (w : List ℕ) → IsNumber n
    → IfSome (subject_of m w) (λ l. Takes ss (due.Subject n m) w (chain_state (ss ++ step_with n l ∷ []) due.Whole))
subject_take ss n m w num = go (subject_of m w) (subject_law m w)
  where
    go : (o : Option CertLock) → IfSome o (λ l. IsSpelledBy m w l)
        → IfSome o (λ l. Takes ss (due.Subject n m) w (chain_state (ss ++ step_with n l ∷ []) due.Whole))
    go None h = tt
    go (Some l) h = record {
      sound = some_more ss (step_with n l);
      words = λ ws. done_more ss (step_with n l) ws
          ∙ ap (λ x. next_words ss (decimal n ∷ x)) (h.words [] ws ∙ ap (λ x. mode_word m ∷ x ∷ ws) (append-nil w));
      good = all_more IsStep ss (step_with n l) (num, h.good);
    }

walk_law : (ss : List CertStep) (p : ChainWord) (w : List ℕ) → IsSpot ss p
    → IfSome (walk_of ss p w) (λ t. Takes ss p w t)
walk_law ss due.Node w h = mapped (number_of w) (λ n. chain_state ss (due.Mode n))
    (λ n. (w ≡ decimal n) × (n < 4294967296)) (λ t. Takes ss due.Node w t) (number_law w)
    (λ n k. record { sound = k.1; words = λ ws. ap (λ x. next_words ss (x ∷ ws)) (sym k.0); good = λ g. g })
walk_law ss (due.Mode n) w h =
    mapped (mode_of w) (λ m. chain_state ss (due.Subject n m)) (λ m. mode_word m ≡ w) (λ t. Takes ss (due.Mode n) w t)
    (mode_law w)
    (λ m e. record { sound = h; words = λ ws. ap (λ x. next_words ss (decimal n ∷ x ∷ ws)) e; good = λ g. g })
walk_law ss (due.Subject n m) w h = go (bytes_eq w (codes "class")) refl
  where
    go : (b : Bool) → bytes_eq w (codes "class") ≡ b
        → IfSome (cond b (Some (chain_state ss (due.Class n m)))
        (option_map (λ l. chain_state (ss ++ step_with n l ∷ []) due.Whole) (subject_of m w)))
        (λ t. Takes ss (due.Subject n m) w t)
    go true e = record {
      sound = h;
      words =
          λ ws. ap (λ x. next_words ss (decimal n ∷ mode_word m ∷ x ∷ ws)) (sym (same_bytes w (codes "class") e));
      good =
          λ g. g;
    }
    go false e = mapped (subject_of m w) (λ l. chain_state (ss ++ step_with n l ∷ []) due.Whole)
        (λ l. Takes ss (due.Subject n m) w (chain_state (ss ++ step_with n l ∷ []) due.Whole))
        (λ t. Takes ss (due.Subject n m) w t) (subject_take ss n m w h) (λ l k. k)
walk_law ss (due.Class n m) w h =
    mapped (number_of w) (λ c. chain_state (ss ++ step_with n (class_lock m c) ∷ []) due.Whole)
    (λ c. (w ≡ decimal c) × (c < 4294967296)) (λ t. Takes ss (due.Class n m) w t) (number_law w)
    (λ c k. let l : IsLock (class_lock m c)
    × ((e : List ℕ) (ws : List (List ℕ))
    → lock_words (class_lock m c) e ws ≡ mode_word m ∷ codes "class" ∷ (decimal c ++ e) ∷ ws) =
    class_lock_law m c k.1 in record {
      sound = some_more ss (step_with n (class_lock m c));
      words = λ ws. done_more ss (step_with n (class_lock m c)) ws
          ∙ ap (λ x. next_words ss (decimal n ∷ x))
          (l.1 [] ws ∙ ap (λ x. mode_word m ∷ codes "class" ∷ x ∷ ws) (append-nil (decimal c) ∙ sym k.0));
      good = all_more IsStep ss (step_with n (class_lock m c)) (h, l.0);
    })
walk_law ss due.Whole w h = go (bytes_eq w (codes ">")) refl
  where
    next : (ss : List CertStep) → ss ≢ [] → (ws : List (List ℕ)) → next_words ss ws ≡ done_words ss (codes ">" ∷ ws)
    next [] h ws = absurd (h refl)
    next (s ∷ ss) h ws = refl

    go : (b : Bool) → bytes_eq w (codes ">") ≡ b
        → IfSome (cond b (Some (chain_state ss due.Node)) None) (λ t. Takes ss due.Whole w t)
    go true e = record {
      sound = tt;
      words =
          λ ws. next ss h ws ∙ ap (λ x. done_words ss (x ∷ ws)) (sym (same_bytes w (codes ">") e));
      good = λ g. g;
    }
    go false e = tt

record TakesAll (ss : List CertStep) (p : ChainWord) (ws : List (List ℕ)) (t : ChainState) : Type 0 where
  sound : IsSpot t.steps t.at
  words : (vs : List (List ℕ)) → spot_words t.steps t.at vs ≡ spot_words ss p (ws ++ vs)
  good : AllByRecursion IsStep ss → AllByRecursion IsStep t.steps

walk_on_law : (ss : List CertStep) (p : ChainWord) (ws : List (List ℕ)) → IsSpot ss p
    → IfSome (walk_on (chain_state ss p) ws) (λ t. TakesAll ss p ws t)
walk_on_law ss p [] h = record { sound = h; words = λ vs. refl; good = λ g. g }
walk_on_law ss p (w ∷ ws) h = go (walk_of ss p w) (walk_law ss p w h) (λ t k. walk_on_law t.steps t.at ws k)
  where
    more : (t : ChainState) → Takes ss p w t → (o : Option ChainState) → IfSome o (λ s. TakesAll t.steps t.at ws s)
        → IfSome o (λ s. TakesAll ss p (w ∷ ws) s)
    more t h None k = tt
    more t h (Some s) k = record {
      sound = k.sound;
      words = λ vs. k.words vs ∙ h.words (ws ++ vs);
      good =
          λ g. k.good (h.good g);
    }

    go : (o : Option ChainState) → IfSome o (λ t. Takes ss p w t)
        → ((t : ChainState) → IsSpot t.steps t.at → IfSome (walk_on t ws) (λ s. TakesAll t.steps t.at ws s))
        → IfSome (option_and_then (λ t. walk_on t ws) o) (λ s. TakesAll ss p (w ∷ ws) s)
    go None h k = tt
    go (Some t) h k = more t h (walk_on t ws) (k t h.sound)

done_chain : (s : CertStep) (ss : List CertStep) → done_words (s ∷ ss) [] ≡ steps_words s ss
done_chain s [] = refl
done_chain s (t ∷ ss) = ap (λ x. step_words s (codes ">" ∷ x)) (done_chain t ss)

done_is : (ss : List CertStep) → ss ≢ [] → done_words ss [] ≡ chain_words ss
done_is [] h = absurd (h refl)
done_is (s ∷ ss) h = done_chain s ss

-- words that are read as steps are theirs
pub steps_take : (ws : List (List ℕ)) (ss : List CertStep) → steps_of ws ≡ Some ss → (ws ≡ chain_words ss) × (ss ≢ [])
    × AllByRecursion IsStep ss
steps_take ws ss h = go (walk_on (chain_state [] due.Node) ws) (walk_on_law [] due.Node ws tt) h
  where
    at : (ks : List CertStep) (p : ChainWord) → TakesAll [] due.Node ws (chain_state ks p) → steps_when ks p ≡ Some ss
        → (ws ≡ chain_words ss) × (ss ≢ []) × AllByRecursion IsStep ss
    at ks due.Whole k g = let is : ks ≡ ss = cc in
        subst (λ y. (ws ≡ chain_words y) × (y ≢ []) × AllByRecursion IsStep y) is
        (sym (append-nil ws) ∙ (sym (k.words []) ∙ done_is ks k.sound), k.sound, k.good tt)
    at ks _ k g = cc

    go : (o : Option ChainState) → IfSome o (λ t. TakesAll [] due.Node ws t) → option_and_then steps_in o ≡ Some ss
        → (ws ≡ chain_words ss) × (ss ≢ []) × AllByRecursion IsStep ss
    go None k g = cc
    go (Some t) k g = at t.steps t.at k g

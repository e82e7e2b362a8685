-- The mode and the subject of a lock are read as what they spell.
use Rattle.std.proofs.Common.{◌≡◌, ℕ, ◌<◌, Bool, true, false, cond, List, ◌∷◌, ◌++◌, Option, Some, None}
use Rattle.std.proofs.Common.{option_and_then, IfSome, refl, sym, ◌∙◌, ap}
use Rattle.std.specs.{Prelude.{codes}, Option.{option_map}, Str.{bytes_eq}, Fmt.{decimal}}
use Rattle.sect_cert.specs.steps.Numbers.{number_of}
use Rattle.sect_cert.specs.steps.Subjects.{mode_of, path_of, path_lock, class_lock, all_lock, subject_of}
use Rattle.sect_cert.specs.{Paths.{path_text}, Spelling.{lock_words}, Texts.{IsPath, IsLock, IsNumber}}
use Rattle.sect_cert.specs.{declared.lock.CertPath.{CertPath}, declared.lock.CertLock.{CertLock}}
use Rattle.sect_cert.specs.declared.subject.CertMode.{CertMode}
use Rattle.sect_cert.proofs.{CutTexts.{same_bytes}, PathLaws.{path_again, path_takes}, NumberLaws.{decimal_number}}
use Rattle.sect_cert.specs.declared.subject.CertMode.TheVariants as mode

abbrev pub mode_word : CertMode → List ℕ
mode_word mode.Read = codes "R"
mode_word mode.Write = codes "W"
mode_word mode.Make = codes "M"

-- a word that is read as a mode is its word
pub mode_law : (w : List ℕ) → IfSome (mode_of w) (λ m. mode_word m ≡ w)
mode_law w = go (bytes_eq w (codes "R")) refl (bytes_eq w (codes "W")) refl (bytes_eq w (codes "M")) refl
  where
    go : (a : Bool) → bytes_eq w (codes "R") ≡ a → (b : Bool) → bytes_eq w (codes "W") ≡ b → (c : Bool)
        → bytes_eq w (codes "M") ≡ c →
        IfSome (cond a (Some mode.Read) (cond b (Some mode.Write) (cond c (Some mode.Make) None)))
        (λ m. mode_word m ≡ w)
    go true e b f c g = sym (same_bytes w (codes "R") e)
    go false e true f c g = sym (same_bytes w (codes "W") f)
    go false e false f true g = sym (same_bytes w (codes "M") g)
    go false e false f false g = tt

-- what holds of a value holds of what is made of it
pub mapped : {A B : Type 0} (o : Option A) (f : A → B) (P : A → Type 0) (Q : B → Type 0) → IfSome o P
    → ((x : A) → P x → Q (f x)) → IfSome (option_map f o) Q
mapped None f P Q h k = tt
mapped (Some x) f P Q h k = k x h

pub number_law : (w : List ℕ) → IfSome (number_of w) (λ n. (w ≡ decimal n) × (n < 4294967296))
number_law w = go (number_of w) refl
  where
    go : (o : Option ℕ) → number_of w ≡ o → IfSome o (λ n. (w ≡ decimal n) × (n < 4294967296))
    go None e = tt
    go (Some n) e = decimal_number w n e

-- a lock is spelled by the word of a mode and this word
pub record IsSpelledBy (m : CertMode) (w : List ℕ) (l : CertLock) : Type 0 where
  pub good : IsLock l
  pub words : (e : List ℕ) (ws : List (List ℕ)) → lock_words l e ws ≡ mode_word m ∷ (w ++ e) ∷ ws

-- no path is the word `all`
not_all : (p : CertPath) → IsPath p → bytes_eq (path_text p) (codes "all") ≡ false
not_all p h = go (bytes_eq (path_text p) (codes "all")) refl
  where
    go : (b : Bool) → bytes_eq (path_text p) (codes "all") ≡ b → b ≡ false
    go false e = refl
    go true e = let none : None ≡ Some p = ap path_of (sym (same_bytes (path_text p) (codes "all") e))
        ∙ path_again p h in cc

-- the text of a path is read as the lock of it
pub subject_again : (m : CertMode) (p : CertPath) (l : CertLock) → IsPath p → path_lock m p ≡ Some l
    → subject_of m (path_text p) ≡ Some l
subject_again m p l h g = rw (not_all p h, path_again p h) g

all_lock_law : (m : CertMode) (w : List ℕ) → w ≡ codes "all" → IfSome (all_lock m) (λ l. IsSpelledBy m w l)
all_lock_law mode.Read w h = tt
all_lock_law mode.Write w h = record { good = tt; words = λ e ws. ap (λ x. codes "W" ∷ (x ++ e) ∷ ws) (sym h) }
all_lock_law mode.Make w h = tt

path_lock_law : (m : CertMode) (p : CertPath) → IsPath p → IfSome (path_lock m p) (λ l. IsSpelledBy m (path_text p) l)
path_lock_law mode.Read p h = record { good = h; words = λ e ws. refl }
path_lock_law mode.Write p h = record { good = h; words = λ e ws. refl }
path_lock_law mode.Make p h = tt

-- a word that is read as a lock spells it
pub subject_law : (m : CertMode) (w : List ℕ) → IfSome (subject_of m w) (λ l. IsSpelledBy m w l)
subject_law m w = with_all (bytes_eq w (codes "all")) refl
  where
    each : (p : CertPath) → w ≡ path_text p → (o : Option CertLock) → IfSome o (λ l. IsSpelledBy m (path_text p) l)
        → IfSome o (λ l. IsSpelledBy m w l)
    each p e None h = tt
    each p e (Some l) h = record {
      good = h.good;
      words = λ end ws. h.words end ws
          ∙ ap (λ x. mode_word m ∷ (x ++ end) ∷ ws) (sym e);
    }

    go : (o : Option CertPath) → path_of w ≡ o → IfSome (option_and_then (path_lock m) o) (λ l. IsSpelledBy m w l)
    go None e = tt
    go (Some p) e = let t : (w ≡ path_text p) × IsPath p = path_takes w p e in
        each p t.0 (path_lock m p) (path_lock_law m p t.1)

    with_all : (b : Bool) → bytes_eq w (codes "all") ≡ b
        → IfSome (cond b (all_lock m) (option_and_then (path_lock m) (path_of w))) (λ l. IsSpelledBy m w l)
    with_all true e = all_lock_law m w (same_bytes w (codes "all") e)
    with_all false e = go (path_of w) refl

-- the word of a subject isn't the word `class`
pub no_class : (f : List ℕ → List ℕ) → f (codes "class") ≡ codes "class" → (m : CertMode) (w : List ℕ) (l : CertLock)
    → subject_of m (f w) ≡ Some l → bytes_eq w (codes "class") ≡ false
no_class f same m w l h = go (bytes_eq w (codes "class")) refl
  where
    go : (b : Bool) → bytes_eq w (codes "class") ≡ b → b ≡ false
    go false e = refl
    go true e = let none : None ≡ Some l = ap (subject_of m) (sym (ap f (same_bytes w (codes "class") e) ∙ same)) ∙ h in
        cc

-- a lock of a class is spelled so
pub class_lock_law : (m : CertMode) (n : ℕ) → IsNumber n
    → IsLock (class_lock m n) × ((e : List ℕ) (ws : List (List ℕ))
    → lock_words (class_lock m n) e ws ≡ mode_word m ∷ codes "class" ∷ (decimal n ++ e) ∷ ws)
class_lock_law mode.Read n h = (h, λ e ws. refl)
class_lock_law mode.Write n h = (h, λ e ws. refl)
class_lock_law mode.Make n h = (h, λ e ws. refl)

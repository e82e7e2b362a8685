-- Lists of locks and chains are read as what they spell.
use Rattle.std.proofs.Common.{◌≡◌, ℕ, Bool, true, false, List, [], ◌∷◌, ◌++◌, Some, option_and_then, refl, ◌∙◌, ap}
use Rattle.std.proofs.Common.{append-nil, append_assoc}
use Rattle.std.specs.{Prelude.{codes}, Fmt.{decimal}, List.{AllByRecursion}}
use Rattle.sect_front.specs.Words.{is_digit}
use Rattle.sect_cert.specs.steps.{Numbers.{ends_with, without_end}, Subjects.{path_lock, class_lock, subject_of}}
use Rattle.sect_cert.specs.steps.Lists.{place_behind, list_state, step_of, after, whole_of, locks_of, list_of}
use Rattle.sect_cert.specs.{Paths.{path_text}, Spelling.{lock_words, some_words, list_words}}
use Rattle.sect_cert.specs.Texts.{IsPath, IsLock, IsNumber}
use Rattle.sect_cert.specs.{declared.subject.CertMode.{CertMode}, declared.lock.CertLock.{CertLock}}
use Rattle.sect_cert.specs.declared.lock.CertPath.{CertPath}
use Rattle.sect_cert.proofs.{PartsLaws.{lacks, bytes_lack, ends_end, without_end_end, lacks_end}, PathLaws.{path_lacks}}
use Rattle.sect_cert.proofs.{SubjectLaws.{no_class, subject_again}, NumberLaws.{number_decimal, digits_of_decimal}}
use Rattle.sect_cert.specs.declared.subject.CertMode.TheVariants as mode
use Rattle.sect_cert.specs.declared.list.ListWord.TheVariants as due
use Rattle.sect_cert.specs.declared.lock.CertLock.TheVariants as lock

-- what ends the last word of a lock: nothing, or a comma
record IsEnding (e : List ℕ) (b : Bool) : Type 0 where
  tells : (w : List ℕ) → lacks 44 w ≡ true → ends_with 44 (w ++ e) ≡ b
  leaves : (w : List ℕ) → lacks 44 w ≡ true → without_end 44 (w ++ e) ≡ w

comma : IsEnding (codes ",") true
comma = record { tells = λ w h. ends_end 44 w; leaves = λ w h. without_end_end 44 w }

nothing : IsEnding [] false
nothing = record {
  tells = λ w h. ap (ends_with 44) (append-nil w) ∙ lacks_end 44 w h;
  leaves = λ w h. ap (without_end 44) (append-nil w) ∙ rw (lacks_end 44 w h) refl;
}

subject_word : (m : CertMode) (w : List ℕ) (l : CertLock) (e : List ℕ) (b : Bool) (ls : List CertLock) → IsEnding e b
    → lacks 44 w ≡ true → subject_of m w ≡ Some l →
    step_of ls (due.Subject m) (w ++ e) ≡ Some (list_state (ls ++ l ∷ []) (place_behind b))
subject_word m w l e b ls k low g =
    let is : subject_of m (without_end 44 (w ++ e)) ≡ Some l = ap (subject_of m) (k.leaves w low) ∙ g in
    rw (no_class (without_end 44) refl m (w ++ e) l is, is, k.tells w low) refl

path_word : (m : CertMode) (p : CertPath) (l : CertLock) (e : List ℕ) (b : Bool) (ls : List CertLock) → IsEnding e b
    → IsPath p → path_lock m p ≡ Some l →
    step_of ls (due.Subject m) (path_text p ++ e) ≡ Some (list_state (ls ++ l ∷ []) (place_behind b))
path_word m p l e b ls k h g =
    subject_word m (path_text p) l e b ls k (path_lacks 44 refl refl refl p h) (subject_again m p l h g)

digits_lack : (n : ℕ) → IsNumber n → lacks 44 (decimal n) ≡ true
digits_lack n h = bytes_lack is_digit 44 refl (decimal n) (digits_of_decimal n h)

class_word : (m : CertMode) (n : ℕ) (e : List ℕ) (b : Bool) (ls : List CertLock) → IsEnding e b → IsNumber n →
    step_of ls (due.Class m) (decimal n ++ e) ≡ Some (list_state (ls ++ class_lock m n ∷ []) (place_behind b))
class_word m n e b ls k h = rw (
  k.leaves (decimal n) (digits_lack n h),
  k.tells (decimal n) (digits_lack n h),
  number_decimal n h,
) refl

lock_passes : (l : CertLock) → IsLock l → (e : List ℕ) (b : Bool) (ls : List CertLock) (ws : List (List ℕ))
    → IsEnding e b →
    after (list_state ls due.Mode) (lock_words l e ws) ≡ after (list_state (ls ++ l ∷ []) (place_behind b)) ws
lock_passes lock.WriteAll h e b ls ws k =
    rw (subject_word mode.Write (codes "all") lock.WriteAll e b ls k refl refl) refl
lock_passes (lock.ReadPath p) h e b ls ws k = rw (path_word mode.Read p (lock.ReadPath p) e b ls k h refl) refl
lock_passes (lock.WritePath p) h e b ls ws k = rw (path_word mode.Write p (lock.WritePath p) e b ls k h refl) refl
lock_passes (lock.ReadClass n) h e b ls ws k = rw (class_word mode.Read n e b ls k h) refl
lock_passes (lock.WriteClass n) h e b ls ws k = rw (class_word mode.Write n e b ls k h) refl
lock_passes (lock.MakeClass n) h e b ls ws k = rw (class_word mode.Make n e b ls k h) refl

list_passes : (l : CertLock) (ls done : List CertLock) → AllByRecursion IsLock (l ∷ ls)
    → after (list_state done due.Mode) (some_words l ls) ≡ Some (list_state (done ++ l ∷ ls) due.Whole)
list_passes l [] done h = lock_passes l h.0 [] false done [] nothing
list_passes l (k ∷ ls) done h =
    lock_passes l h.0 (codes ",") true done (some_words k ls) comma
    ∙ (list_passes k ls (done ++ l ∷ []) h.1
    ∙ ap (λ x. Some (list_state x due.Whole)) (append_assoc done (l ∷ []) (k ∷ ls)))

list_long : (l : CertLock) (ls : List CertLock) → list_of (some_words l ls) ≡ locks_of (some_words l ls)
list_long lock.WriteAll [] = refl
list_long lock.WriteAll (k ∷ ls) = refl
list_long (lock.ReadPath p) [] = refl
list_long (lock.ReadPath p) (k ∷ ls) = refl
list_long (lock.WritePath p) [] = refl
list_long (lock.WritePath p) (k ∷ ls) = refl
list_long (lock.ReadClass n) [] = refl
list_long (lock.ReadClass n) (k ∷ ls) = refl
list_long (lock.WriteClass n) [] = refl
list_long (lock.WriteClass n) (k ∷ ls) = refl
list_long (lock.MakeClass n) [] = refl
list_long (lock.MakeClass n) (k ∷ ls) = refl

-- the words of a list are read as it
pub list_again : (ls : List CertLock) → AllByRecursion IsLock ls → list_of (list_words ls) ≡ Some ls
list_again [] h = refl
list_again (l ∷ ls) h = list_long l ls ∙ ap (option_and_then whole_of) (list_passes l ls [] h)

-- A list of locks, read word by word.
use Rattle.std.specs.Prelude.{◌≡◌, ℕ, Bool, true, false, if◌then◌else◌, List, [], ◌∷◌, ◌++◌, Option, Some, None}
use Rattle.std.specs.{Prelude.{option_and_then, codes, Result, Ok, Err, ⊤}, Option.{option_map}, Str.{bytes_eq}}
use Rattle.sect_cert.specs.steps.Numbers.{ends_with, without_end, number_of}
use Rattle.sect_cert.specs.steps.Subjects.{mode_of, class_lock, subject_of}
use Rattle.sect_cert.specs.{declared.fault.LineFault.{LineFault}, declared.lock.CertLock.{CertLock}}
use Rattle.sect_cert.specs.declared.list.ListWord.{ListWord}
use Rattle.sect_cert.specs.declared.fault.LineFault.TheVariants as fault
use Rattle.sect_cert.specs.declared.list.ListWord.TheVariants as due

abbrev pub place_behind : Bool → ListWord
place_behind true = due.Mode
place_behind false = due.Whole

-- locks, and what the next word is to be
pub record ListState : Type 0 where
  pub locks : List CertLock
  pub at : ListWord

abbrev pub list_state : List CertLock → ListWord → ListState
list_state ls p = record { locks = ls; at = p }

abbrev pub step_of : List CertLock → ListWord → List ℕ → Option ListState
step_of ls due.Mode w = option_map (λ m. list_state ls (due.Subject m)) (mode_of w)
step_of ls (due.Subject m) w =
    if bytes_eq w (codes "class") then Some (list_state ls (due.Class m)) else
    option_map (λ l. list_state (ls ++ l ∷ []) (place_behind (ends_with 44 w))) (subject_of m (without_end 44 w))
step_of ls (due.Class m) w =
    option_map (λ n. list_state (ls ++ class_lock m n ∷ []) (place_behind (ends_with 44 w)))
    (number_of (without_end 44 w))
step_of ls due.Whole w = None

abbrev pub StepsTo : Result ListWord LineFault → List CertLock → Option ListState → Type 0
StepsTo (Ok p) ls next = next ≡ Some (list_state ls p)
StepsTo (Err fault.Memory) ls next = ⊤
StepsTo (Err fault.Bad) ls next = next ≡ None
StepsTo (Err fault.Odd) ls next = ⊥

abbrev pub after : ListState → List (List ℕ) → Option ListState
after s [] = Some s
after s (w ∷ ws) = option_and_then (λ t. after t ws) (step_of s.locks s.at w)

abbrev pub whole_at : List CertLock → ListWord → Option (List CertLock)
whole_at ls due.Whole = Some ls
whole_at ls _ = None

abbrev pub whole_of : ListState → Option (List CertLock)
whole_of s = whole_at s.locks s.at

-- the locks that words are, of which there are two at least
abbrev pub locks_of : List (List ℕ) → Option (List CertLock)
locks_of ws = option_and_then whole_of (after (list_state [] due.Mode) ws)

-- the list that words are
abbrev pub list_of : List (List ℕ) → Option (List CertLock)
list_of [] = None
list_of (w ∷ []) = if bytes_eq w (codes "none") then Some [] else None
list_of (w ∷ v ∷ ws) = locks_of (w ∷ v ∷ ws)

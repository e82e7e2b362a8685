-- The steps of a chain, read word by word.
use Rattle.std.specs.Prelude.{◌≡◌, ℕ, if◌then◌else◌, List, [], ◌∷◌, ◌++◌, Option, Some, None, option_and_then, codes}
use Rattle.std.specs.{Prelude.{◌-◌, length, slice_get, Result, Ok, Err}, Option.{option_map}, Str.{bytes_eq}}
use Rattle.sect_cert.specs.steps.{Numbers.{number_of}, Certificates.{step_with}}
use Rattle.sect_cert.specs.steps.{Subjects.{mode_of, class_lock, subject_of}, Readers.{Refuses}}
use Rattle.sect_cert.specs.{declared.fault.LineFault.{LineFault}, declared.lock.CertLock.{CertLock}}
use Rattle.sect_cert.specs.{declared.subject.CertMode.{CertMode}, declared.certificate.CertStep.{CertStep}}
use Rattle.sect_cert.specs.declared.chain.ChainWord.{ChainWord}
use Rattle.sect_cert.specs.declared.chain.ChainWord.TheVariants as due

-- steps, and what the next word is to be
pub record ChainState : Type 0 where
  pub steps : List CertStep
  pub at : ChainWord

abbrev pub chain_state : List CertStep → ChainWord → ChainState
chain_state ss p = record { steps = ss; at = p }

abbrev pub walk_of : List CertStep → ChainWord → List ℕ → Option ChainState
walk_of ss due.Node w = option_map (λ n. chain_state ss (due.Mode n)) (number_of w)
walk_of ss (due.Mode n) w = option_map (λ m. chain_state ss (due.Subject n m)) (mode_of w)
walk_of ss (due.Subject n m) w =
    if bytes_eq w (codes "class") then Some (chain_state ss (due.Class n m)) else
    option_map (λ l. chain_state (ss ++ step_with n l ∷ []) due.Whole) (subject_of m w)
walk_of ss (due.Class n m) w =
    option_map (λ c. chain_state (ss ++ step_with n (class_lock m c) ∷ []) due.Whole) (number_of w)
walk_of ss due.Whole w = if bytes_eq w (codes ">") then Some (chain_state ss due.Node) else None

-- the lock of the last step is read from a mode and a word
abbrev pub WasRead : List CertStep → CertMode → List ℕ → Type 0
WasRead ss m w =
    (last : CertStep) × (slice_get ss (length ss - 1) ≡ Some last) × (subject_of m w ≡ Some last.lock)

-- a step with the lock that is read is put behind the others
abbrev pub PutsStep :
    {A : Type 0} → Result A LineFault → List CertStep → List CertStep → ℕ → Option CertLock → Type 0
PutsStep (Ok x) old new n read = (l : CertLock) × (read ≡ Some l) × (new ≡ old ++ step_with n l ∷ [])
PutsStep (Err f) old new n read = Refuses f read

abbrev pub walk_on : ChainState → List (List ℕ) → Option ChainState
walk_on s [] = Some s
walk_on s (w ∷ ws) = option_and_then (λ t. walk_on t ws) (walk_of s.steps s.at w)

abbrev pub steps_when : List CertStep → ChainWord → Option (List CertStep)
steps_when ss due.Whole = Some ss
steps_when ss _ = None

abbrev pub steps_in : ChainState → Option (List CertStep)
steps_in s = steps_when s.steps s.at

-- the steps that words are
abbrev pub steps_of : List (List ℕ) → Option (List CertStep)
steps_of ws = option_and_then steps_in (walk_on (chain_state [] due.Node) ws)

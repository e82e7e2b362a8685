-- Texts as they are written, piece by piece.
use Rattle.std.specs.Prelude.{◌≡◌, ℕ, zero, suc, ◌+◌, List, [], ◌∷◌, ◌++◌, Some, length, slice_get, codes}
use Rattle.std.specs.List.{flat_map}
use Rattle.sect_cert.specs.{Spelling.{spaced, lock_words, list_words, step_words}, Lines.{line_text}}
use Rattle.sect_cert.specs.Texts.{header_text}
use Rattle.sect_cert.specs.{declared.lock.CertLock.{CertLock}, declared.certificate.CertStep.{CertStep}}
use Rattle.sect_cert.specs.{declared.certificate.CertChain.{CertChain}, declared.certificate.CertSection.{CertSection}}
use Rattle.sect_cert.specs.declared.line.CertLine.{CertLine}
use Rattle.sect_cert.specs.declared.line.CertLine.TheVariants as line

-- a field behind its point
abbrev pub field_text : List ℕ → List ℕ
field_text name = 46 ∷ name

-- a lock, behind a blank, and behind a comma
abbrev pub lock_text : CertLock → List ℕ
lock_text l = spaced (lock_words l [] [])

abbrev pub next_lock : CertLock → List ℕ
next_lock l = 44 ∷ lock_text l

-- a step, behind a blank, and behind an arrow
abbrev pub step_text : CertStep → List ℕ
step_text s = spaced (step_words s [])

abbrev pub next_step : CertStep → List ℕ
next_step s = codes " >" ++ step_text s

-- where a list stands before this number, the text is of the last such
abbrev pub IsListBefore : List (List CertLock) → ℕ → List ℕ → Type 0
IsListBefore lists number text =
    (h : ℕ) (ls : List CertLock) → number ≡ h + 1 → slice_get lists h ≡ Some ls → text ≡ spaced (list_words ls)

-- where a step stands before this number, the text is of the lock of the last such
abbrev pub IsLockBefore : List CertStep → ℕ → List ℕ → Type 0
IsLockBefore steps number text =
    (h : ℕ) (x : CertStep) → number ≡ h + 1 → slice_get steps h ≡ Some x → text ≡ lock_text x.lock

-- what stands before a step: nothing before the first, else an arrow behind a blank
abbrev pub arrow_before : ℕ → List ℕ
arrow_before zero = []
arrow_before (suc n) = codes " >"

-- a line with its line feed
abbrev pub fed_line : CertLine → List ℕ
fed_line x = line_text x ++ 10 ∷ []

-- the lines before the first section
abbrev pub front_text : ℕ → ℕ → List ℕ
front_text k count = header_text ++ 10 ∷ (fed_line (line.K k) ++ fed_line (line.Sections count))

-- the lines of nodes, by number from this one
abbrev pub nodes_text : ℕ → List (List CertLock) → List ℕ
nodes_text j [] = []
nodes_text j (ls ∷ ns) = fed_line (line.Node j ls) ++ nodes_text (j + 1) ns

abbrev pub chain_text : CertChain → List ℕ
chain_text c = fed_line (line.Chain c)

-- the lines of a section
abbrev pub section_text : ℕ → CertSection → List ℕ
section_text i s =
    fed_line (line.Section i (length s.nodes))
    ++ (nodes_text 0 s.nodes ++ (fed_line (line.Entry s.entry) ++ flat_map chain_text s.chains))

abbrev pub sections_text : ℕ → List CertSection → List ℕ
sections_text i [] = []
sections_text i (s ∷ ss) = section_text i s ++ sections_text (i + 1) ss

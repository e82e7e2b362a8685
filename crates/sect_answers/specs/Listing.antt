-- What the command `locks` prints: a line for each section, or one document.
use Rattle.std.specs.{Prelude.{◌≡◌, ℕ, ◌+◌, List, [], ◌∷◌, ◌++◌, Some, length, slice_get, codes}, Fmt.{decimal}}
use Rattle.sect_front.specs.TreeView.{TreeView}
use Rattle.sect_types.specs.Sections.{SectionView, sections_of}
use Rattle.sect_names.specs.{declared.lock.Lock.{Lock}, Schemes.{SchemeView}, Needed.{IsLeast, end_of}}
use Rattle.sect_names.specs.{Order.{AreInOrder}, Printing.{locks_text}}
use Rattle.sect_json.specs.{Values.{document_text}, Locks.{locks_json}}
use Rattle.sect_answers.specs.{declared.format.Format.{Format}, declared.format.Format.TheVariants.{Text, Json}}

-- the line of a section: its number and its locks
abbrev pub section_line : TreeView → ℕ → List Lock → List ℕ
section_line t i locks = codes "section " ++ decimal i ++ codes ": " ++ locks_text t locks ++ codes "\n"

-- the lines of sections with these locks, the first of which has this number
abbrev pub lines_from : TreeView → ℕ → List (List Lock) → List ℕ
lines_from t i [] = []
lines_from t i (locks ∷ others) = section_line t i locks ++ lines_from t (i + 1) others

-- the least set of locks that protects the section of that number, in canonical order
abbrev pub IsLeastInOrder : SchemeView → ℕ → SectionView → List Lock → Type 0
IsLeastInOrder s i of locks = IsLeast s of.thread (end_of s i) of.body locks × AreInOrder locks

-- each of these is the least set of the section of its number
abbrev pub AreLeast : SchemeView → List (List Lock) → Type 0
AreLeast s sets = (i : ℕ) (of : SectionView) (locks : List Lock) → slice_get (sections_of s.program.texts) i ≡ Some of
    → slice_get sets i ≡ Some locks → IsLeastInOrder s i of locks

-- these are the lines of the first sections, with the least set of each
pub record IsListing (s : SchemeView) (count : ℕ) (text : List ℕ) : Type 0 where
  pub sets : List (List Lock)
  pub each : AreLeast s sets
  pub counted : length sets ≡ count
  pub lines : text ≡ lines_from s.program.source 0 sets

-- this is the document of all sections, with the least set of each
pub record IsSetsDocument (s : SchemeView) (text : List ℕ) : Type 0 where
  pub sets : List (List Lock)
  pub each : AreLeast s sets
  pub counted : length sets ≡ length (sections_of s.program.texts)
  pub printed : text ≡ document_text (locks_json s.program.source sets)

-- all sections with their least sets, as lines or as a document
abbrev pub AreSetsPrinted : SchemeView → Format → List ℕ → Type 0
AreSetsPrinted s Text text = IsListing s (length (sections_of s.program.texts)) text
AreSetsPrinted s Json text = IsSetsDocument s text

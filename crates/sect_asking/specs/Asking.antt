-- Which question a text asks of a program, and where it asks none. `read_question` cites it.
use Rattle.std.specs.Prelude.{◌≡◌, ℕ, ◌-◌, ◌≤◌, List, Ok, Err, ⊤, length, codes}
use Rattle.sect_front.specs.Gaps.{after_gap}
use Rattle.sect_types.specs.Programs.{ProgramView}
use Rattle.sect_questions.specs.declared.question.Question.{Question}
use Rattle.sect_asking.specs.{Marks.{IsFirst}, declared.cursor.Asks.{Asks}}
use Rattle.sect_asking.specs.{Phrases.{IsWritten}, Meaning.{question_meant}, Views.{question_view}}
use Rattle.sect_asking.specs.{declared.phrase.QuestionPhrase.{QuestionPhrase}, declared.resolving.Misfit.{Misfit}}
use Rattle.sect_asking.specs.declared.reading.QuestionFault.{QuestionFault}
use Rattle.sect_asking.specs.declared.mark.Mark.TheVariants as mark
use Rattle.sect_asking.specs.declared.cursor.Asks.TheVariants as asks
use Rattle.sect_asking.specs.declared.resolving.Misfit.TheVariants as misfit
use Rattle.sect_asking.specs.declared.reading.QuestionFault.TheVariants as fault

-- the text spells this question, by the program's names
pub record IsAskedBy (p : ProgramView) (bytes : List ℕ) (q : Question) : Type 0 where
  pub phrase : QuestionPhrase
  pub written : IsWritten bytes phrase
  pub meant : question_meant p phrase ≡ Ok (question_view q)

-- the word that begins a question
abbrev pub asks_word : Asks → List ℕ
asks_word asks.Always = codes "always"
asks_word asks.Exists = codes "exists"
asks_word asks.Never = codes "never"
asks_word asks.Keeps = codes "keeps"
asks_word asks.Ends = codes "ends"
asks_word asks.Outcomes = codes "outcomes"
asks_word asks.First = codes "first"

-- no such word stands at the front
abbrev pub IsNoQuestion : List ℕ → Type 0
IsNoQuestion here = (a : Asks) (n : ℕ) → IsFirst (mark.Name (asks_word a)) n here → ⊥

-- the text spells a question that means nothing in the program for this reason at this place
pub record IsMisfitAt (p : ProgramView) (bytes : List ℕ) (why : ℕ → Misfit) (at : ℕ) : Type 0 where
  pub phrase : QuestionPhrase
  pub written : IsWritten bytes phrase
  pub left : ℕ
  pub meant : question_meant p phrase ≡ Err (why left)
  pub place : at ≡ length bytes - left

-- why the text asks nothing of the program
abbrev pub IsFault : ProgramView → List ℕ → QuestionFault → Type 0
IsFault p bytes fault.Memory = ⊤
IsFault p bytes fault.BadQuestion = IsNoQuestion (after_gap bytes)
IsFault p bytes (fault.BadCondition at) = at ≤ length bytes
IsFault p bytes (fault.UnknownName at) = IsMisfitAt p bytes misfit.Unknown at
IsFault p bytes (fault.WrongKind at) = IsMisfitAt p bytes misfit.Kind at

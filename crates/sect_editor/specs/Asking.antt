-- What may be asked of an open document, and what is answered.
use Rattle.std.specs.Prelude.{ℕ, List, Option, Some, None, option_map}
use Rattle.serde_json.specs.Data.{Data}
use Rattle.sect_editor.specs.{declared.position.Encoding.{Encoding}, declared.position.Place.{Place}}
use Rattle.sect_editor.specs.{declared.question.Question.{Question}, declared.text.Reading.{Reading}}
use Rattle.sect_editor.specs.{declared.text.OpenText.{OpenText}, Accepted.{IsCompiledIf, IsToldOf}}
use Rattle.sect_editor.specs.Completing.{IsCompletion}
use Rattle.sect_editor.specs.{Hovering.{IsHoverIf}, Marks.{AreHints, AreLenses, hinted_range}, Positions.{offset}}
use Rattle.sect_editor.specs.{Queries.{IsAnswer, place_of}, Symbols.{AreSymbols}}
use Rattle.sect_editor.specs.declared.question.Question.TheVariants as question

-- the compiled program is that of the text, which has none if it is refused
abbrev pub IsJudged : OpenText → Type 0
IsJudged t = IsCompiledIf t.source.now t.reading.k (option_map (λ c. c.now) t.compiled)

-- the byte at the place that a message tells, if it tells one
abbrev pub byte_told : Encoding → List ℕ → Data → Option ℕ
byte_told encoding source d = option_map (λ (place : Place). offset encoding place source) (place_of d)

-- a value that is right is answered
abbrev pub IsValue : (Data → Type 0) → Option Data → Type 0
IsValue IsRight (Some value) = IsRight value
IsValue IsRight None = ⊥

-- what is answered of the text of a document, which is read so: a value, or nothing where what is asked can't be done
abbrev pub IsAnswerTo : Question → Reading → Data → List ℕ → List ℕ → Option Data → Type 0
IsAnswerTo (question.Names q) r d uri source answer = IsAnswer q r.encoding d uri source answer
IsAnswerTo question.Symbols r d uri source answer = IsValue (AreSymbols source r.k) answer
IsAnswerTo question.Hover r d uri source answer =
    IsValue (IsToldOf (IsHoverIf source (byte_told r.encoding source d)) source r.k) answer
IsAnswerTo question.Hints r d uri source answer =
    IsValue (IsToldOf (AreHints source (hinted_range d)) source r.k) answer
IsAnswerTo question.Lenses r d uri source answer = IsValue (IsToldOf (AreLenses source) source r.k) answer
IsAnswerTo question.Completion r d uri source answer =
    IsValue (IsCompletion source (byte_told r.encoding source d)) answer

-- What is wanted in place of a mistake.
use Rattle.std.specs.Prelude.{ℕ, List, [], ◌++◌, Option, Some, None, codes}
use Rattle.sect_front.specs.declared.span.Span.{Span}
use Rattle.sect_advice.specs.{Advising.{on_byte, on_token, on_name}, Wording.{words_of}}
use Rattle.sect_advice.specs.declared.advice.Advice.{Advice}
use Rattle.sect_lint.specs.{Labels.{bytes_of}, Mistakes.{note_of}, declared.mistake.Mistake.{Mistake}}
use Rattle.sect_lint.specs.{declared.diagnostic.Detail.{Detail}, declared.diagnostic.Diagnostic.{Diagnostic}}
use Rattle.sect_lint.specs.declared.mistake.Mistake.TheVariants as mistake
use Rattle.sect_lint.specs.declared.diagnostic.Detail.TheVariants as detail

-- what is said of what other languages have, by the mistake, its bytes and what is said beside the carets
abbrev pub advice_by : Mistake → List ℕ → Span → Detail → Option Advice
advice_by mistake.BadByte source span told = on_byte source span.start
advice_by mistake.Unexpected source span (detail.Expected kinds) = on_token source span kinds.items
advice_by mistake.Unknown source span told = on_name (bytes_of source span)
advice_by _ source span told = None

abbrev pub advice_of : List ℕ → Diagnostic → Option Advice
advice_of source d = advice_by d.mistake source d.span d.detail

abbrev pub wanted_by : Mistake → Option Advice → List ℕ
wanted_by m (Some a) = words_of a
wanted_by m None = note_of m

-- what is to be written instead, where that is known, and else what the rule wants
abbrev pub wanted : List ℕ → Diagnostic → List ℕ
wanted source d = wanted_by d.mistake (advice_of source d)

-- behind what is wrong
abbrev pub advised : Option Advice → List ℕ
advised (Some a) = codes "; " ++ words_of a
advised None = []

-- What is reported of a text that is refused.
use Rattle.std.specs.{Prelude.{◌≡◌, ◌⊎◌, ◌<◌, ◌≤◌, ℕ, Some, List, ◌++◌, length, map, codes}, Fmt.{decimal}}
use Rattle.sect_front.specs.{Front.{line_of}, FaultPlaces.{IsWithin, token_span}, TreeView.{TreeView}}
use Rattle.sect_front.specs.declared.span.Span.{Span}
use Rattle.sect_places.specs.{NameSpans.{AreNameSpans}, Positions.{position}, declared.name_use.NameSpan.{NameSpan}}
use Rattle.sect_names.specs.{Sources.{IsAccepted, IsDue}, declared.refusal.SourceRefusal.{SourceRefusal}}
use Rattle.sect_lint.specs.{declared.diagnostic.Detail.{Detail}, declared.diagnostic.Diagnostic.{Diagnostic}}
use Rattle.sect_lint.specs.{declared.judge.Judgment.{Judgment}, declared.mistake.Mistake.{Mistake}}
use Rattle.sect_lint.specs.{Mistakes.{mistake_of, number_of, title_of}, Places.{IsPlaceOf}, Advised.{wanted}}
use Rattle.sect_lint.specs.Details.{IsFrontDetail, IsDetailWithin, IsDetailBy, detail_text}
use Rattle.sect_lint.specs.{Excerpts.{excerpt, margin}, Files.{place_line}}
use Rattle.sect_names.specs.declared.fault.SchemeFault.TheVariants as scheme
use Rattle.sect_names.specs.declared.refusal.SourceRefusal.TheVariants as refusal
use Rattle.sect_lint.specs.declared.diagnostic.Detail.TheVariants as detail
use Rattle.sect_lint.specs.declared.judge.Judgment.TheVariants as judgment

abbrev pub IsDetail : List ℕ → SourceRefusal → Span → Detail → Type 0
IsDetail source (refusal.Front why) span told = IsFrontDetail source why span told
IsDetail source (refusal.Types why) span told =
    (tree : TreeView) × (names : List NameSpan) × (are : AreNameSpans source tree names)
    × IsDetailBy tree names (map token_span are.spelled.places) why told
IsDetail source _ span told = told ≡ detail.Nothing

-- the diagnostic names the mistake of a text that is refused so, and its bytes. All places are the text's
pub record IsDiagnosisOf (source : List ℕ) (why : SourceRefusal) (d : Diagnostic) : Type 0 where
  pub mistake : mistake_of why ≡ Some d.mistake
  pub place : IsPlaceOf source why d.mistake d.span
  pub within : IsWithin (length source) d.span
  pub detail : IsDetail source why d.span d.detail
  pub told_within : IsDetailWithin (length source) d.detail

-- the text is refused, and this is told of the mistake for which it is
abbrev pub IsRefusedFor : List ℕ → ℕ → Diagnostic → Type 0
IsRefusedFor source k d = (why : SourceRefusal) × IsDue source k why × IsDiagnosisOf source why d

-- the text is accepted with this scheme, or refused, and this is told of the mistake
abbrev pub IsJudged : List ℕ → ℕ → Judgment → Type 0
IsJudged source k (judgment.Accepted s) = IsAccepted source k s
IsJudged source k (judgment.Refused d) = IsRefusedFor source k d

-- memory ran out where a path may have so many fields, or none may
abbrev pub IsNotJudged : ℕ → SourceRefusal → Type 0
IsNotJudged k why = ((why ≡ refusal.Memory) × (k ≤ 3)) ⊎ ((why ≡ refusal.Scheme scheme.BadK) × (3 < k))

-- the number and the title of a mistake
unfoldable pub heading : Mistake → List ℕ
heading m = codes "error[" ++ decimal (number_of m) ++ codes "]: " ++ title_of m ++ codes "\n"

-- what is wanted, below a line of this number
unfoldable pub note_line : ℕ → List ℕ → List ℕ
note_line line words = codes "\n" ++ margin line ++ codes "= " ++ words

-- the report of a diagnostic: the mistake, its place behind this mark, its line with what is said beside the carets,
-- and what is wanted, but for the line feed at its end
abbrev pub report : List ℕ → List ℕ → Diagnostic → List ℕ
report mark source d =
    heading d.mistake ++ place_line mark (position source d.span.start) ++ excerpt source d.span
    ++ detail_text source d.detail
    ++ note_line (line_of source d.span.start) (wanted source d)

-- What is printed, in each form.
use Rattle.std.specs.Prelude.{ℕ, List, Option, [], ◌++◌, codes}
use Rattle.serde_json.specs.Written.{compact_text}
use Rattle.sect_lint.specs.declared.format.LintFormat.{LintFormat, TheVariants.{Text, Json, Sarif}}
use Rattle.sect_lint.specs.{declared.diagnostic.Diagnostic.{Diagnostic}, Reports.{report}, Json.{diagnostic_json}}
use Rattle.sect_lint.specs.{Files.{place_mark, uri_of}, Sarif.{diagnostic_log, empty_log}}

-- a diagnostic of the text of this file, but for the line feed at its end
abbrev pub report_as : LintFormat → Option (List ℕ) → List ℕ → Diagnostic → List ℕ
report_as Text file source d = report (place_mark file) source d
report_as Json file source d = compact_text (diagnostic_json source d)
report_as Sarif file source d = compact_text (diagnostic_log (uri_of file) source d)

-- what is printed of a text of which nothing is told: a log has no results then
abbrev pub clean : LintFormat → List ℕ
clean Text = []
clean Json = []
clean Sarif = compact_text empty_log ++ codes "\n"

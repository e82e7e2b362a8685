-- What the commands `lint` and `inspect` answer to a source text. `findings` and `inspection` cite it.
use Rattle.std.specs.{Prelude.{◌≡◌, ◌<◌, ℕ, Bool, List, Option, ⊤}, String.{string_bytes}}
use Rattle.sect_lint.specs.{declared.diagnostic.Diagnostic.{Diagnostic}, declared.format.LintFormat.{LintFormat}}
use Rattle.sect_lint.specs.{Formats.{report_as}, Reports.{IsRefusedFor}}
use Rattle.sect_emit.specs.Compiled.{CompiledView, IsCompiledFrom}
use Rattle.sect_json.specs.Inspecting.{IsInspectionDocument}
use Rattle.sect_warnings.specs.{Formats.{AreWarningsPrinted}, declared.ruling.Ruling.{Ruling}}
use Rattle.sect_answers.specs.declared.refusal.Refusal.{Refusal}
use Rattle.sect_names.specs.declared.fault.SchemeFault.TheVariants as scheme
use Rattle.sect_names.specs.declared.refusal.SourceRefusal.TheVariants as source_refusal
use Rattle.sect_answers.specs.declared.refusal.Refusal.TheVariants as refusal

-- the text of this file is accepted, and the bytes are the warnings that are due of its compiled program, but for those
-- that these rulings or its comments allow; and this is whether it is refused for one that is told
pub record IsUnblamed (file : Option (List ℕ)) (source : List ℕ) (k : ℕ) (format : LintFormat) (rulings : List Ruling)
    (bytes : List ℕ) (refused : Bool) : Type 0 where
  pub compiled : CompiledView
  pub from : IsCompiledFrom source k compiled
  pub warned : AreWarningsPrinted file source compiled format rulings bytes refused

-- the text is accepted, and the bytes are the document of its compiled program
pub record IsInspection (source : List ℕ) (k : ℕ) (bytes : List ℕ) : Type 0 where
  pub compiled : CompiledView
  pub from : IsCompiledFrom source k compiled
  pub told : IsInspectionDocument source compiled bytes

-- the bytes are the report of the mistake for which the text of this file is refused
abbrev pub IsReported : Option (List ℕ) → List ℕ → ℕ → LintFormat → List ℕ → Type 0
IsReported file source k format bytes =
    (d : Diagnostic) × IsRefusedFor source k d × (bytes ≡ report_as format file source d)

-- the refusal is due: the report of the text, or that no path may have so many fields
abbrev pub IsLintDue : Option (List ℕ) → List ℕ → ℕ → LintFormat → Refusal → Type 0
IsLintDue file source k format refusal.Memory = ⊤
IsLintDue file source k format (refusal.Report text) = IsReported file source k format (string_bytes text)
IsLintDue file source k format (refusal.Source why) = (why ≡ source_refusal.Scheme scheme.BadK) × (3 < k)
IsLintDue file source k format _ = ⊥

-- Open documents with what their texts are compiled to.
use Rattle.std.specs.{Prelude.{◌≡◌, ⊤, ℕ, if◌then◌else◌, List, [], ◌∷◌, Option, Some, None}, Str.{bytes_eq}}
use Rattle.sect_emit.specs.Compiled.{CompiledView}
use Rattle.sect_lsp.specs.{declared.server.Phase.{Phase}, Documents.{DocumentView}}
use Rattle.sect_editor.specs.Accepted.{IsCompiledIf}
use Rattle.sect_lsp.specs.declared.server.Phase.TheVariants as phase

-- a document with the compiled program of its text, unless that is refused
pub record KeptView : Type 0 where
  pub uri : List ℕ
  pub text : List ℕ
  pub compiled : Option CompiledView

abbrev pub document_of : KeptView → DocumentView
document_of d = record { uri = d.uri; text = d.text }

-- paths have at most k fields in it
abbrev pub IsKept : ℕ → KeptView → Type 0
IsKept k d = IsCompiledIf d.text k d.compiled

-- the document of this name, if it is open
abbrev pub kept_of : List ℕ → List KeptView → Option KeptView
kept_of uri [] = None
kept_of uri (d ∷ ds) = if bytes_eq d.uri uri then Some d else kept_of uri ds

-- the most fields of a path, and the open documents
pub record OpenView : Type 0 where
  pub k : ℕ
  pub documents : List DocumentView

-- before a server serves, no document is open
abbrev pub AreOpenIn : Phase → List DocumentView → Type 0
AreOpenIn phase.Waiting ds = ds ≡ []
AreOpenIn _ ds = ⊤

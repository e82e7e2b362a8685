use Rattle.std.proofs.Common.{◌≡◌, drop}
use Rattle.sect_lsp.specs.steps.Keeping.{kept_of}
use Rattle.sect_lsp.proofs.documents.document_in.Given as goal

-- no document so far has the name
abbrev pub invariant-loop-document : goal.invariant-loop-document
invariant-loop-document l = kept_of l.uri l.list ≡ kept_of l.uri (drop l.document-index l.list)

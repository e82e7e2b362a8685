use Rattle.std.proofs.Common.{IfSome, ap, sym, subst, ◌∙◌}
use Rattle.std.specs.Prelude.{option_map}
use Rattle.sect_lsp.specs.Documents.{text_of}
use Rattle.sect_lsp.specs.steps.Keeping.{OpenView, kept_of, IsKept}
use Rattle.sect_lsp.proofs.Keeping.{text_kept, found_kept, lent_text, lent_kept}
use Rattle.sect_lsp.proofs.documents.Documents.find.Goals as goal

pub returns-clause-text : goal.returns-clause-text
returns-clause-text c =
    let uri = c.args.uri.now in
    let ds = c.self.inside.list.items in
    lent_text c.document_in.result ∙ ap (λ o. option_map (λ e. e.text) o) c.document_in.ensures
    ∙ ap (λ es. option_map (λ e. e.text) (kept_of uri es)) c.as_slice.ensures.value ∙ text_kept uri ds
    ∙ ap (λ (v : OpenView). text_of uri v.documents) c.self.view_is

pub returns-clause-kept : goal.returns-clause-kept
returns-clause-kept c =
    let uri = c.args.uri.now in
    let ds = c.self.inside.list.items in
    let found = c.document_in.ensures ∙ ap (kept_of uri) c.as_slice.ensures.value in
    subst (λ (v : OpenView). IfSome c.document_in.result (λ d. IsKept v.k d.now)) c.self.view_is
    (lent_kept (IsKept c.self.inside.k) c.document_in.result
    (subst (λ o. IfSome o (IsKept c.self.inside.k)) (sym found)
    (found_kept uri (IsKept c.self.inside.k) ds c.self.invariant.1)))

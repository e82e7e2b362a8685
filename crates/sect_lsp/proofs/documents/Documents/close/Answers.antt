use Rattle.std.proofs.{Common.{ap, sym, subst, not, ◌∙◌}, lemmas.List.Elements.{All-filter}}
use Rattle.std.specs.{Prelude.{All, map}, Str.{bytes_eq}}
use Rattle.sect_lsp.specs.Documents.{closed}
use Rattle.sect_lsp.specs.steps.Keeping.{OpenView, document_of, IsKept}
use Rattle.sect_lsp.proofs.Keeping.{closed_kept}
use Rattle.sect_lsp.proofs.documents.Documents.close.Goals as goal

pub invariant_of-self : goal.invariant_of-self
invariant_of-self c = (
  c.self.invariant.0,
  subst (All (IsKept c.self.inside.k)) (sym c.forget.ensures)
      (All-filter (λ d. not (bytes_eq d.uri c.args.uri.now)) (IsKept c.self.inside.k) c.self.inside.list.items
      c.self.invariant.1),
)

pub returns : goal.returns
returns c =
    let uri = c.args.uri.now in
    ap (λ ds. record { k = c.self.inside.k; documents = map document_of ds }) c.forget.ensures
    ∙ ap (λ ds. record { k = c.self.inside.k; documents = ds }) (closed_kept uri c.self.inside.list.items)
    ∙ ap (λ (v : OpenView). record { k = v.k; documents = closed uri v.documents }) c.self.view_is

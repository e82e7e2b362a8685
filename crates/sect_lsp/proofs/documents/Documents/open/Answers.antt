use Rattle.std.proofs.{Common.{◌≡◌, ℕ, sym, ap, subst, ◌∙◌}, lemmas.List.Elements.{All-push}}
use Rattle.std.specs.Prelude.{All}
use Rattle.sect_editor.specs.Accepted.{IsCompiledIf}
use Rattle.sect_lsp.specs.steps.Keeping.{OpenView, IsKept}
use Rattle.sect_lsp.proofs.documents.Documents.open.Goals as goal

pub invariant_of-self-2 : goal.invariant_of-self-2
invariant_of-self-2 c =
    let k = c.self.inside.k in
    let same : k ≡ c.args.self.now.k = ap (λ (v : OpenView). v.k) (c.self.view_is ∙ c.close.ensures) in (
      c.self.invariant.0,
      subst (All (IsKept k)) (sym c.in_ok-push.ensures.items)
          (All-push (IsKept k) c.self.inside.list.items c.new.result c.self.invariant.1
          (subst (IsKept k) (sym c.new.ensures)
          (subst (λ (n : ℕ). IsCompiledIf c.args.text.items n c.args.compiled) (sym same) c.requires))),
    )

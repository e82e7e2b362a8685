use Rattle.std.proofs.{Common.{◌∙◌, length, ap, sym, eqb-true}, lemmas.List.{nil_from_length}}
use Rattle.std.specs.Prelude.{◌==◌}
use Rattle.sect_conflicts.proofs.comparing.is_none.Goals as goal

pub returns : goal.returns
returns c = (
  λ t. nil_from_length c.args.found.now (eqb-true (length c.args.found.now) 0 (sym c.is_empty.ensures ∙ t)),
  λ e. c.is_empty.ensures ∙ ap (λ xs. length xs == 0) e,
)

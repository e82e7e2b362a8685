use Rattle.std.proofs.Common.{◌≡◌, ◌-◌, ◌∙◌, ap, sym, subst, length, slice_get, Some, None}
use Rattle.std.specs.Prelude.{option_copied}
use Rattle.sect_types.specs.{Statements.{section_body}, Sections.{AreNumbered}}
use Rattle.sect_types.proofs.LastSections.{ends_at}
use Rattle.sect_types.proofs.expansion.text.Text.ends_below.Goals as goal

pub returns-in-Some : goal.returns-in-Some
returns-in-Some c below m h =
    let steps = c.as_slice.result.now in
    let last : slice_get steps (length steps - 1) ≡ Some c.in-Some.step.now =
    sym c.last.ensures.value ∙ ap option_copied c.in-Some.is in
    subst (λ p. section_body c.args.number p ≡ None) c.as_slice.ensures
    (ends_at steps c.args.number c.in-Some.step.now last (c.is_section_below.ensures below) m
    (subst (AreNumbered m) (sym c.as_slice.ensures) h))

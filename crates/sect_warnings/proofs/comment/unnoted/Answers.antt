-- The warning that comes next is told behind the others, or left out.
use Rattle.std.proofs.Common.{rules, ◌≡◌, ◌∷◌, ◌++◌, ◌∙◌, [], length, ap, sym, subst, append_assoc}
use Rattle.std.proofs.lemmas.List.Elements.{All-tail, filter-append}
use Rattle.std.specs.Prelude.{not}
use Rattle.sect_front.specs.FaultPlaces.{IsWithin}
use Rattle.sect_warnings.specs.{Comments.{is_noted, unnoted}, Placed.{PlacedView}, Reports.{AreWithin}}
use Rattle.sect_warnings.specs.Titles.{told_name}
use Rattle.sect_warnings.proofs.comment.unnoted.Goals as goal

pub loop-warning-preserved : goal.loop-warning-preserved
loop-warning-preserved c =
    let source = c.args.source.now in
    let w = c.in-Some.warning in
    let so_far = c.loop-warning.yielded in
    let left = c.next.new.self.rest.items in
    let step : c.loop-warning.warning-iterator.rest.items ≡ w ∷ left = search rules in (
      c.in_ok-add_unnoted.ensures
          ∙ ap (λ told. told ++ unnoted source (w ∷ [])) c.loop-warning.invariant.0
          ∙ sym (filter-append (λ (p : PlacedView). not (is_noted source p.span.start (told_name p.told))) so_far
          (w ∷ [])),
      append_assoc so_far (w ∷ []) left ∙ ap (λ rest. so_far ++ rest) (sym step) ∙ c.loop-warning.invariant.1,
      All-tail (λ (p : PlacedView). IsWithin (length source) p.span) w left
          (subst (AreWithin (length source)) step c.loop-warning.invariant.2),
    )

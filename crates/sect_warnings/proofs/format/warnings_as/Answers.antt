use Rattle.std.proofs.Common.{length, ap, sym, subst, ◌∙◌}
use Rattle.std.specs.Prelude.{option_map}
use Rattle.sect_warnings.specs.{Formats.{printed}, Reports.{AreWithin}, Rulings.{is_refused}}
use Rattle.sect_warnings.proofs.Filtered.{told_within}
use Rattle.sect_warnings.proofs.format.warnings_as.Goals as goal

pub printed-requires : goal.printed-requires
printed-requires c =
    let total = length c.args.source.now in
    subst (AreWithin total) (sym (c.as_slice.ensures.value ∙ c.in_ok-told.ensures))
    (told_within c.args.telling.rulings.now total c.in_ok-placed.placed.items c.in_ok-placed.ensures.within)

pub returns : goal.returns
returns c =
    let rulings = c.args.telling.rulings.now in
    let file = option_map (λ name. name.now) c.args.file in (
      c.in_ok-placed.placed.items,
      c.in_ok-placed.ensures.told,
      c.in_ok-text.ensures
          ∙ ap (printed c.args.telling.format file c.args.source.now)
          (c.as_slice.ensures.value ∙ c.in_ok-told.ensures),
      c.is_refused-is_refused.ensures ∙ ap (is_refused rulings) (c.as_slice-2.ensures.value ∙ c.in_ok-told.ensures),
    )

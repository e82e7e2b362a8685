use Rattle.std.proofs.Common.{Some, sym, ap, ◌∙◌}
use Rattle.std.specs.Prelude.{option_map}
use Rattle.sect_editor.specs.{declared.position.Place.{Place}, Positions.{offset}}
use Rattle.sect_editor.proofs.question.byte_told.Goals as goal

pub returns-clause-byte : goal.returns-clause-byte
returns-clause-byte c =
    ap Some c.offset.ensures.offset
    ∙ ap (option_map (λ (place : Place). offset c.args.encoding place c.args.source.now))
    (sym c.in_ok-place_at.was ∙ c.place_at.ensures)

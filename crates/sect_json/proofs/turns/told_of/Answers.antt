-- What is told of a turn is told part by part.
use Rattle.serde_json.proofs.Views.{view-Array}
use Rattle.sect_json.specs.steps.Turning.{told_by}
use Rattle.sect_json.proofs.SameTold.{same_told}
use Rattle.sect_json.proofs.turns.told_of.Goals as goal

pub returns : goal.returns
returns c =
    let of = c.args.of.now in
    same_told _ (told_by of.compiled.now of.source.now of.spans.now c.args.turn) (view-Array c.args.turn.fields)
    c.in_ok-locals_value.ensures c.in_ok-standing_value.ensures c.in_ok-place_value.ensures c.in_ok-state_text.ensures
    c.in_ok-deed_text.ensures

use Rattle.std.proofs.Common.{◌≡◌, map, take}
use Rattle.serde_json.specs.View.{view}
use Rattle.sect_editor.specs.Warned.{warning_json}
use Rattle.sect_editor.proofs.warned.warning_values.Given as goal

abbrev pub invariant-loop-warning : goal.invariant-loop-warning
invariant-loop-warning l =
    map view l.values.items ≡ map (warning_json l.source) (take l.warning-index l.placed)

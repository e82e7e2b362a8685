use Rattle.std.proofs.Common.{◌≡◌, map, take}
use Rattle.serde_json.specs.View.{view}
use Rattle.sect_editor.specs.Mistaken.{related_call}
use Rattle.sect_editor.proofs.mistakes.circle_value.Given as goal

abbrev pub invariant-loop-called : goal.invariant-loop-called
invariant-loop-called l = map view l.values.items ≡ map (related_call l.uri l.source) (take l.called-index l.calls)

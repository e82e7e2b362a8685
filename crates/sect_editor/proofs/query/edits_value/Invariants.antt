use Rattle.std.proofs.Common.{◌≡◌, map, take}
use Rattle.serde_json.specs.View.{view}
use Rattle.sect_editor.specs.Queries.{edit_json}
use Rattle.sect_editor.proofs.query.edits_value.Given as goal

abbrev pub invariant-loop-span : goal.invariant-loop-span
invariant-loop-span l = map view l.values.items ≡ map (edit_json l.source l.name) (take l.span-index l.spans)

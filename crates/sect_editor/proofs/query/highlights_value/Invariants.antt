use Rattle.std.proofs.Common.{◌≡◌, map, take}
use Rattle.serde_json.specs.View.{view}
use Rattle.sect_editor.specs.Queries.{highlight_json}
use Rattle.sect_editor.proofs.query.highlights_value.Given as goal

abbrev pub invariant-loop-span : goal.invariant-loop-span
invariant-loop-span l = map view l.values.items ≡ map (highlight_json l.source) (take l.span-index l.spans)

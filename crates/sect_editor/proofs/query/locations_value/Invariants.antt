use Rattle.std.proofs.Common.{◌≡◌, map, take}
use Rattle.serde_json.specs.View.{view}
use Rattle.sect_editor.specs.Ranges.{location_json}
use Rattle.sect_editor.proofs.query.locations_value.Given as goal

abbrev pub invariant-loop-span : goal.invariant-loop-span
invariant-loop-span l = map view l.values.items ≡ map (location_json l.uri l.source) (take l.span-index l.spans)

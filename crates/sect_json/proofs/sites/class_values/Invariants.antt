use Rattle.std.proofs.Common.{◌≡◌, map}
use Rattle.std.specs.List.{range_with_len}
use Rattle.serde_json.specs.View.{view}
use Rattle.sect_json.specs.Sites.{class_json}
use Rattle.sect_json.proofs.sites.class_values.Given as goal

abbrev pub invariant-loop-class : goal.invariant-loop-class
invariant-loop-class l = map view l.values.items ≡ map (class_json l.classes.numbers) (range_with_len 0 l.class)

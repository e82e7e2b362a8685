use Rattle.std.proofs.Common.{map}
use Rattle.serde_json.specs.View.{view}
use Rattle.sect_json.specs.steps.Explained.{AreExplained}
use Rattle.sect_json.proofs.explaining.explained_values.Given as goal

abbrev pub invariant-loop-section : goal.invariant-loop-section
invariant-loop-section l = AreExplained l.compiled l.section (map view l.values.items)

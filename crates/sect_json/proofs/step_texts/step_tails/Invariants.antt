use Rattle.std.proofs.Common.{◌≡◌, length, map}
use Rattle.sect_json.specs.steps.Stepping.{AreStepTails}
use Rattle.sect_json.proofs.step_texts.step_tails.Given as goal

abbrev pub invariant-loop-node : goal.invariant-loop-node
invariant-loop-node l = record {
  count : length l.tails.items ≡ l.node;
  tails : AreStepTails l.compiled l.section (map (λ v. v.items) l.tails.items);
}

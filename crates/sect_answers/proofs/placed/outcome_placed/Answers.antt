use Rattle.std.proofs.Common.{◌++◌, ◌∙◌, List, ℕ, Option, Some, sym, ap, subst}
use Rattle.std.specs.{Prelude.{option_map}, String.{string_bytes}}
use Rattle.sect_types.specs.Whole.{RunsWhole}
use Rattle.sect_emit.specs.Compiled.{program_of}
use Rattle.sect_world.specs.declared.standing.Standing.{Standing}
use Rattle.sect_draw.specs.{Chart.{AreRanInOrder}, Places.{ran_outcome}}
use Rattle.sect_answers.proofs.placed.outcome_placed.Goals as goal

pub returns : goal.returns
returns c =
    let v = c.args.compiled.now in
    let o = c.args.outcome.now in
    let (end, runs) = c.requires.runs in
    let (places, placed, printed) = c.in_ok-put_placed.ensures in
    record {
      places = places;
      placed = placed;
      ran = c.in_ok-ran.ran.items;
      told = subst (λ (order : List ℕ). AreRanInOrder v c.args.fuel order c.in_ok-ran.ran.items) c.order.ensures
          (c.in_ok-ran.ensures.told end
          (subst (λ (order : List ℕ). RunsWhole (program_of v) c.args.fuel order end) (sym c.order.ensures) runs));
      printed = printed
          ∙ ap (λ old. old ++ ran_outcome (program_of v) (Some places) c.as_slice.result.now o)
          c.new-printed.ensures.bytes
          ∙ ap (λ (ran : List (Option Standing)). ran_outcome (program_of v) (Some places) ran o)
          c.as_slice.ensures.value;
    }

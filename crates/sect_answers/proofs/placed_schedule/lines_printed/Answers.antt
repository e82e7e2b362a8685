use Rattle.std.proofs.Common.{◌++◌, List, Option, ap, sym, subst, ◌∙◌}
use Rattle.sect_lemmas.specs.Blocks.{blocks_of}
use Rattle.sect_names.specs.Schemes.{SchemeView}
use Rattle.sect_world.specs.declared.standing.Standing.{Standing}
use Rattle.sect_draw.specs.Chart.{AreRan}
use Rattle.sect_answers.specs.Turns.{turn_lines}
use Rattle.sect_answers.proofs.Scheduled.{made_are_enough, placed_printed}
use Rattle.sect_answers.proofs.placed_schedule.lines_printed.Goals as goal

pub put_progress-requires : goal.put_progress-requires
put_progress-requires c =
    made_are_enough c.args.compiled.now c.args.fuel c.args.schedule.now c.in_ok-progress.progress
    c.in_ok-progress.ensures.ok

pub returns-clause-answers : goal.returns-clause-answers
returns-clause-answers c =
    let v = c.args.compiled.now in
    let p = c.in_ok-progress.progress in
    let is = c.in_ok-progress.ensures.ok in
    let program = c.program.result.now in
    let ran = c.as_slice.result.now in
    let lines = turn_lines program (blocks_of p.made.items p.run.events.items) in
    let (places, placed, printed) = c.in_ok-put_placed.ensures in
    record {
      state = is.state;
      blocks = is.blocks;
      turns = is.turns;
      places = places;
      placed = placed;
      ran = ran;
      told = subst (λ (at : List (Option Standing)). AreRan v c.args.fuel c.args.schedule.now at)
          (sym c.as_slice.ensures.value) c.in_ok-ran.ensures.answers;
      printed = placed_printed v c.args.fuel c.args.schedule.now p is program places ran _ _
          (c.program.ensures ∙ ap (λ (s : SchemeView). s.program) c.scheme.ensures)
          (c.in_ok-put_progress.ensures ∙ ap (λ old. old ++ lines) c.new-printed.ensures.bytes) printed;
    }

-- What a schedule has come to, as it is printed.
use Rattle.std.proofs.Common.{◌≡◌, ◌++◌, ℕ, List, Option, Some, map, length, sym, ap, subst, ◌∙◌}
use Rattle.sect_types.specs.Programs.{ProgramView}
use Rattle.sect_store.specs.{Outcomes.{OutcomeView}, Printing.{outcome_text}}
use Rattle.sect_emit.specs.Compiled.{CompiledView, program_of}
use Rattle.sect_world.specs.{Runs.{order_of}, Schedules.{IsProgress, all_events}, Worlds.{outcome_at}}
use Rattle.sect_world.specs.declared.{schedule.Progress.{Progress}, standing.Standing.{Standing}}
use Rattle.sect_draw.specs.Places.{PlacesView, ran_outcome}
use Rattle.sect_answers.specs.{Scheduling.{AreTurnLines}, Turns.{turn_lines}}
use Rattle.sect_lemmas.specs.Blocks.{blocks_of, AreEnough}
use Rattle.sect_lemmas.proofs.Blocks.{cut_gives_back, joined_are_enough}

module _ (c : CompiledView) (fuel : ℕ) (schedule : List ℕ) (p : Progress) (is : IsProgress c fuel schedule p) where
  -- the turns have made no more events than there are
  pub made_are_enough : AreEnough p.made.items p.run.events.items
  made_are_enough = subst (λ ns. AreEnough ns p.run.events.items) (sym is.made)
      (subst (AreEnough (map length is.blocks)) (sym is.events) (joined_are_enough is.blocks))

  blocks_are : blocks_of p.made.items p.run.events.items ≡ is.blocks
  blocks_are = ap (λ ns. blocks_of ns p.run.events.items) is.made
      ∙ (ap (blocks_of (map length is.blocks)) is.events ∙ cut_gives_back is.blocks)

  -- the turns and the outcome are what is to be printed
  pub lines_printed : (program : ProgramView) (bytes : List ℕ) → program ≡ program_of c
      → bytes ≡ turn_lines program (blocks_of p.made.items p.run.events.items) ++ outcome_text program p.run.outcome
      → AreTurnLines c fuel schedule bytes
  lines_printed program bytes same printed = record {
    state = is.state;
    blocks = is.blocks;
    turns = is.turns;
    printed = printed
        ∙ (ap (λ bs. turn_lines program bs ++ outcome_text program p.run.outcome) blocks_are
        ∙ (ap (λ (o : OutcomeView). turn_lines program is.blocks ++ outcome_text program o)
        (is.outcome ∙ ap (λ es. outcome_at is.state (order_of es)) is.events)
        ∙ ap (λ (q : ProgramView). turn_lines q is.blocks
        ++ outcome_text q (outcome_at is.state (order_of (all_events is.blocks)))) same));
  }

  -- and so they are where the outcome is told with places
  pub placed_printed : (program : ProgramView) (v : PlacesView) (ran : List (Option Standing)) (lines bytes : List ℕ)
      → program ≡ program_of c → lines ≡ turn_lines program (blocks_of p.made.items p.run.events.items)
      → bytes ≡ lines ++ ran_outcome (program_of c) (Some v) ran p.run.outcome
      → bytes ≡ turn_lines (program_of c) is.blocks
      ++ ran_outcome (program_of c) (Some v) ran (outcome_at is.state (order_of (all_events is.blocks)))
  placed_printed program v ran lines bytes same begun printed =
      let told = λ (o : OutcomeView). ran_outcome (program_of c) (Some v) ran o in
      let first : lines ≡ turn_lines (program_of c) is.blocks =
      begun ∙ (ap (λ bs. turn_lines program bs) blocks_are ∙ ap (λ (q : ProgramView). turn_lines q is.blocks) same) in
      printed
      ∙ (ap (λ ls. ls ++ told p.run.outcome) first
      ∙ ap (λ (o : OutcomeView). turn_lines (program_of c) is.blocks ++ told o)
      (is.outcome ∙ ap (λ es. outcome_at is.state (order_of es)) is.events))

-- Outside sections a thread has ended, or something is left for it to do.
use Rattle.std.proofs.Common.{sym, ◌∙◌, subst}
use Rattle.sect_world.specs.steps.Moves.{IsNext}
use Rattle.sect_world.specs.Events.{IsFree}
use Rattle.sect_world.proofs.{TurnPlaces.{none_ended}, world.World.turn_outside.Goals.{After-label_of}}
use Rattle.sect_world.proofs.world.World.turn_outside.Goals as goal

pub label_of-requires : goal.label_of-requires
label_of-requires c =
    let h = c.requires in
    (h.0, h.1, (h.2, none_ended h.0.frame.ended (sym (c.has_ended.ensures h.0 h.1) ∙ c.if-has_ended.false)))

free : (c : After-label_of) → IsFree c.requires.0
free c = let h = c.requires in
    (h.2, none_ended h.0.frame.ended (sym (c.has_ended.ensures h.0 h.1) ∙ c.if-has_ended.false))

pub local-requires : goal.local-requires
local-requires c =
    let h = c.requires in (
      h.0,
      h.1,
      free (goal.at.local-requires c).After-label_of,
      subst (λ l. IsNext l h.0.frame.text) c.in-Act.is
          (c.label_of.ensures h.0 h.1),
    )

pub local-requires-in-Test : goal.local-requires-in-Test
local-requires-in-Test c =
    let h = c.requires in (
      h.0,
      h.1,
      free (goal.at.local-requires-in-Test c).After-label_of,
      subst (λ l. IsNext l h.0.frame.text) c.in-Test.is
          (c.label_of.ensures h.0 h.1),
    )

pub enter-requires : goal.enter-requires
enter-requires c =
    let h = c.requires in (
      h.0,
      h.1,
      free (goal.at.enter-requires c).After-label_of,
      subst (λ l. IsNext l h.0.frame.text) c.in-Section.is
          (c.label_of.ensures h.0 h.1),
    )

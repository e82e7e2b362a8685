use Rattle.std.proofs.Common.{◌<◌, ℕ, length, take}
use Rattle.sect_lemmas.specs.Lists.{Has}
use Rattle.sect_emit.specs.Compiled.{program_of}
use Rattle.sect_world.specs.Worlds.{first_world}
use Rattle.sect_draw.specs.{Chart.{nothing_noted}, Placing.{AreThere}, steps.Turning.{GoesOn, kept_shown}}
use Rattle.sect_draw.specs.steps.Resting.{IsResting}
use Rattle.sect_draw.proofs.Ordered.{AreThrough, AreBehind}
use Rattle.sect_draw.proofs.noting.ran_in_order.Given as goal

abbrev pub invariant-loop-thread : goal.invariant-loop-thread
invariant-loop-thread l = record {
  gone : GoesOn (first_world l.compiled l.fuel) (nothing_noted (length (program_of l.compiled).texts)) l.world
      (kept_shown l.kept);
  there : AreThere l.world.compiled l.kept.ran.items;
  rests : IsResting l.world.state;
  within : (t : ℕ) → Has (take l.thread-index l.order) t → t < length (program_of l.compiled).texts;
  through : AreThrough (program_of l.compiled) l.fuel l.order l.thread-index l.world;
}

abbrev pub invariant-loop-thread-2 : goal.invariant-loop-thread-2
invariant-loop-thread-2 l = record {
  gone : GoesOn (first_world l.compiled l.fuel) (nothing_noted (length (program_of l.compiled).texts)) l.world
      (kept_shown l.kept);
  there : AreThere l.world.compiled l.kept.ran.items;
  rests : IsResting l.world.state;
  behind : AreBehind (program_of l.compiled) l.fuel l.order l.thread l.world;
}

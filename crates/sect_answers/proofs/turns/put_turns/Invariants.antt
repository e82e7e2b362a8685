use Rattle.std.proofs.Common.{◌≡◌, ◌++◌, drop}
use Rattle.std.specs.String.{string_bytes}
use Rattle.sect_store.specs.Printing.{by_place}
use Rattle.sect_answers.specs.Turns.{turn_line}
use Rattle.sect_lemmas.specs.Blocks.{blocks_of, AreEnough}
use Rattle.sect_answers.proofs.turns.put_turns.Given as goal

abbrev pub invariant-loop-turn : goal.invariant-loop-turn
invariant-loop-turn l = record {
  enough : AreEnough (drop l.turn-counter l.made) l.left;
  added : string_bytes l.text
      ++ by_place (turn_line l.program) l.turn-counter (blocks_of (drop l.turn-counter l.made) l.left) ≡ string_bytes
      l.fn.text ++ by_place (turn_line l.program) 0 (blocks_of l.made l.events);
}

use Rattle.std.proofs.Common.{◌≡◌, ◌++◌, drop}
use Rattle.std.specs.String.{string_bytes}
use Rattle.sect_emit.specs.Compiled.{program_of}
use Rattle.sect_store.specs.Printing.{by_place}
use Rattle.sect_draw.specs.Waits.{holder_text, holders_text}
use Rattle.sect_draw.proofs.waits.put_holders.Given as goal

abbrev pub invariant-loop-holder : goal.invariant-loop-holder
invariant-loop-holder l = record {
  added : string_bytes l.text
      ++ by_place (holder_text (program_of l.world.compiled) l.wish) l.holder (drop l.holder l.world.state.threads)
      ≡ string_bytes l.fn.text ++ holders_text (program_of l.world.compiled) l.wish l.world.state;
}

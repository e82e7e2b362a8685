use Rattle.std.proofs.Common.{◌≡◌, ◌++◌, drop}
use Rattle.std.specs.{String.{string_bytes}, List.{flat_map}}
use Rattle.sect_emit.specs.Compiled.{program_of}
use Rattle.sect_draw.specs.Waits.{ahead_of, behind_text}
use Rattle.sect_draw.proofs.waits.put_ahead.Given as goal

abbrev pub invariant-loop-waiter : goal.invariant-loop-waiter
invariant-loop-waiter l = (let behind = behind_text (program_of l.world.compiled) l.world.state l.key in
    record {
      added : string_bytes l.text ++ flat_map behind (ahead_of l.thread (drop l.waiter-index l.waiting))
          ≡ string_bytes l.fn.text ++ flat_map behind (ahead_of l.thread l.waiting);
    })

use Rattle.std.proofs.Common.{◌≡◌, ◌++◌, take}
use Rattle.std.specs.{Prelude.{codes}, List.{flat_map}, String.{string_bytes}}
use Rattle.sect_names.specs.Printing.{lock_text}
use Rattle.sect_names.proofs.printing.put_locks.Given as goal

abbrev pub invariant-loop-lock : goal.invariant-loop-lock
invariant-loop-lock l =
    string_bytes l.text ≡ string_bytes l.initial.text
    ++ flat_map (λ m. codes ", " ++ lock_text l.program.source m) (take l.lock-index l.others)

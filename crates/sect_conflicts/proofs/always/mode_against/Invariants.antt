use Rattle.std.proofs.Common.{◌≡◌, false, take}
use Rattle.sect_lemmas.specs.Lists.{Has}
use Rattle.sect_modes.specs.Mode.{are_compatible}
use Rattle.sect_emit.specs.declared.plan.Grip.{Grip}
use Rattle.sect_conflicts.proofs.always.mode_against.Given as goal

abbrev pub invariant-loop-other : goal.invariant-loop-other
invariant-loop-other l = (y : Grip) → Has (take l.other-index l.others) y → l.wish.key ≡ y.key
    → are_compatible l.wish.mode y.mode ≡ false → ⊥

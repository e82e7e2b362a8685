use Rattle.std.proofs.Common.{◌≡◌, false, take}
use Rattle.sect_lemmas.specs.Lists.{Has}
use Rattle.sect_modes.specs.Mode.{are_compatible}
use Rattle.sect_emit.specs.declared.plan.Grip.{Grip}
use Rattle.sect_conflicts.proofs.always.first_clash.Given as goal

abbrev pub invariant-loop-wish : goal.invariant-loop-wish
invariant-loop-wish l = (x : Grip) → Has (take l.wish-index l.wishes) x → (y : Grip) → Has l.others y
    → x.key ≡ y.key → are_compatible x.mode y.mode ≡ false → ⊥

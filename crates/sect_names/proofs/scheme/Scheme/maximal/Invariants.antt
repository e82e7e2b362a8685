use Rattle.std.proofs.Common.{◌≡◌, ◌⊎◌, take}
use Rattle.sect_lemmas.specs.Lists.{Has}
use Rattle.sect_names.specs.{declared.lock.Lock.{Lock}, Locks.{IsOutdone}}
use Rattle.sect_lemmas.proofs.Making.{Makes}
use Rattle.sect_names.proofs.scheme.Scheme.maximal.Given as goal

abbrev pub invariant-loop-i : goal.invariant-loop-i
invariant-loop-i l = record {
  made : Makes (λ (x y : Lock). (y ≡ x) × (IsOutdone l.self (Has l.locks.keys) x → ⊥)) (take l.i l.locks.keys)
      l.kept.keys;
  told : (x : Lock) → Has (take l.i l.locks.keys) x → Has l.kept.keys x ⊎ IsOutdone l.self (Has l.locks.keys) x;
}

use Rattle.std.proofs.Common.{◌↔◌, ◌≡◌, sym, subst}
use Rattle.sect_names.specs.{Locks.{IsLockOf}, Carrying.{CarriedBack}}
use Rattle.sect_names.proofs.Untouched.{untouched_lock}
use Rattle.sect_names.proofs.touching.Change.leaves.Goals as goal

pub returns-in-Path : goal.returns-in-Path
returns-in-Path c = λ on s t step others lawful l.
    let p = c.in-Path.path in
    let e = c.in-Path.field-1 in
    subst (λ k. CarriedBack s t step k l ↔ (l ≡ k)) (sym c.in-Path.is)
    (untouched_lock s t step p e (others p (c.leaves_path.ensures on) s.classes)
    (subst (IsLockOf s t) c.in-Path.is lawful) l)

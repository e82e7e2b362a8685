-- Keys that are added to those of a plan.
use Rattle.std.specs.Prelude.{◌≡◌, ⊤, List, [], ◌∷◌}
use Rattle.sect_names.specs.{declared.lock.Lock.{Lock}, Locks.{IsClassed}, Schemes.{SchemeView}}
use Rattle.sect_emit.specs.{declared.plan.Grip.{Grip}, Plan.{with_grip, AreWishesFor}}
use Rattle.sect_names.specs.declared.lock.Lock.TheVariants as lock

-- the list with keys more, the last of them first
abbrev pub with_grips : List Grip → List Grip → List Grip
with_grips [] gs = gs
with_grips (w ∷ wishes) gs = with_grip w (with_grips wishes gs)

-- the list has come to have the keys that the lock asks for whatever the state
abbrev pub HasWishes : SchemeView → Lock → List Grip → List Grip → Type 0
HasWishes s l old new = (wishes : List Grip) × AreWishesFor s l wishes × (new ≡ with_grips wishes old)

-- the path of a lock has a class
abbrev pub IsClassedLock : SchemeView → Lock → Type 0
IsClassedLock s lock.All = ⊤
IsClassedLock s (lock.Class c r) = ⊤
IsClassedLock s (lock.Path p e) = IsClassed s p

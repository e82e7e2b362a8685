-- The locks above a lock, by its class and right, or by its path and effect.
use Rattle.std.specs.Prelude.{ℕ, List, [], ◌∷◌, Option, Some, None}
use Rattle.sect_points.specs.Paths.{PathView}
use Rattle.sect_names.specs.{declared.lock.Effect.{Effect}, declared.lock.Right.{Right}, declared.lock.Lock.{Lock}}
use Rattle.sect_names.specs.declared.lock.Effect.TheVariants as effect
use Rattle.sect_names.specs.declared.lock.Right.TheVariants as right
use Rattle.sect_names.specs.declared.lock.Lock.TheVariants as lock

-- the locks above one on a class
abbrev pub over_class : ℕ → Right → List Lock
over_class c right.Write = lock.All ∷ []
over_class c right.Read = lock.All ∷ lock.Class c right.Write ∷ []
over_class c right.Make = lock.All ∷ lock.Class c right.Write ∷ []

-- the locks above one on a path of this class, or of none
abbrev pub over_path : Option ℕ → PathView → Effect → List Lock
over_path None p effect.Write = lock.All ∷ []
over_path None p effect.Read = lock.All ∷ lock.Path p effect.Write ∷ []
over_path (Some c) p effect.Write = lock.All ∷ lock.Class c right.Write ∷ []
over_path (Some c) p effect.Read =
    lock.All ∷ lock.Class c right.Write ∷ lock.Class c right.Read ∷ lock.Path p effect.Write ∷ []

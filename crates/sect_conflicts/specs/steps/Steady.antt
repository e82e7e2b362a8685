-- What a lock set asks for in every state, as it is found: its fixed part, and the globals that it names.
use Rattle.std.specs.Prelude.{◌≡◌, ℕ, false, List, [], ◌∷◌, ◌++◌, slice_index_or}
use Rattle.sect_lemmas.specs.Lists.{Has}
use Rattle.sect_points.specs.Paths.{PathView, var, dot}
use Rattle.sect_modes.specs.{Mode.{are_compatible}, Key.{is_key_below}}
use Rattle.sect_names.specs.{declared.lock.Effect.{Effect}, declared.lock.Lock.{Lock}}
use Rattle.sect_emit.specs.{declared.plan.Grip.{Grip}, Plan.{grip, object_mode, gathered}, Compiled.{CompiledView}}
use Rattle.sect_conflicts.specs.{declared.conflict.KeyClash.{KeyClash}, Conflicts.{set_at}}
use Rattle.sect_points.specs.declared.holders.Variable.TheVariants as variable
use Rattle.sect_modes.specs.declared.key.Key.TheVariants as key
use Rattle.sect_names.specs.declared.lock.Lock.TheVariants as lock

-- the global that a path without fields names, as a lock on it asks for it
abbrev pub global_wish : PathView → Effect → List Grip
global_wish (var (variable.Global g)) e = grip (key.Global g) (object_mode e) ∷ []
global_wish (var (variable.Local t x)) e = []
global_wish (dot p f) e = []

-- those of the locks of a set
abbrev pub global_wishes : List Lock → List Grip
global_wishes [] = []
global_wishes (lock.All ∷ locks) = global_wishes locks
global_wishes (lock.Class n r ∷ locks) = global_wishes locks
global_wishes (lock.Path p e ∷ locks) = global_wish p e ++ global_wishes locks

-- the fixed part of a lock set, then the globals that it names, in key order
abbrev pub steady_of : List Grip → List Lock → List Grip
steady_of part locks = part ++ gathered (global_wishes locks)

-- those of section i
abbrev pub steady_at : CompiledView → ℕ → List Grip
steady_at c i = steady_of (slice_index_or c.parts i []) (set_at c i)

-- the key stands in both lists, in modes that aren't compatible, and no key below it does
pub record IsFirstIn (xs ys : List Grip) (clash : KeyClash) : Type 0 where
  pub first : Has xs (grip clash.key clash.first)
  pub second : Has ys (grip clash.key clash.second)
  pub apart : are_compatible clash.first clash.second ≡ false
  pub least : (x y : Grip) → Has xs x → Has ys y → x.key ≡ y.key → are_compatible x.mode y.mode ≡ false
      → is_key_below x.key clash.key ≡ false

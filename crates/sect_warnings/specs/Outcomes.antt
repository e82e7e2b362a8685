-- What comes of a change that is tried.
use Rattle.std.specs.Prelude.{◌≡◌, ◌⊎◌, ℕ, List, ◌++◌, codes}
use Rattle.sect_lemmas.specs.Lists.{Has}
use Rattle.sect_names.specs.{declared.lock.Lock.{Lock}, Printing.{locks_text}}
use Rattle.sect_emit.specs.Compiled.{CompiledView}
use Rattle.sect_conflicts.specs.Conflicts.{set_at}

-- section i takes the lock still, or others in its place
abbrev pub IsOutcome : CompiledView → ℕ → Lock → List ℕ → Type 0
IsOutcome d i l said =
    (Has (set_at d i) l × (said ≡ codes " doesn't help"))
    ⊎ ((Has (set_at d i) l → ⊥)
    × (said ≡ codes " would give `" ++ locks_text d.scheme.program.source (set_at d i) ++ codes "`"))

-- What a lock on a whole class means, and what would spare a section it, as it is found by trying.
use Rattle.std.specs.Prelude.{◌≡◌, ◌<◌, ◌⊎◌, ℕ, List, [], ◌++◌, Option, codes}
use Rattle.sect_places.specs.declared.name_use.NameSpan.{NameSpan}
use Rattle.sect_names.specs.declared.lock.Lock.{Lock}
use Rattle.sect_emit.specs.Compiled.{CompiledView, IsCompiledFrom}
use Rattle.sect_warnings.specs.{Hinting.{IsHintSaid}, Outcomes.{IsOutcome}, Titles.{class_note}}

-- where paths may have more fields, what the most of them come to
abbrev pub IsDeepSaid : List ℕ → CompiledView → ℕ → Lock → List ℕ → Type 0
IsDeepSaid source c i l text =
    ((c.scheme.most ≡ 3) × (text ≡ []))
    ⊎ ((c.scheme.most < 3)
    × ((d : CompiledView) × (said : List ℕ) × IsCompiledFrom source 3 d × IsOutcome d i l said
    × (text ≡ codes "; `--k 3`" ++ said)))

-- what the lock means; what longer paths come to; and what a hint of that record comes to, if it is of any
abbrev pub IsClassNote : List ℕ → List NameSpan → CompiledView → ℕ → Lock → Option ℕ → List ℕ → Type 0
IsClassNote source names c i l r note =
    (deep : List ℕ) × (hint : List ℕ) × IsDeepSaid source c i l deep × IsHintSaid source names c i l r hint
    × (note ≡ class_note ++ deep ++ hint)

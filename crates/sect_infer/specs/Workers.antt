-- How many workers infer the locks of a program. `check_workers` and `infer_all` cite it.
use Rattle.std.specs.Prelude.{◌≡◌, ◌≤◌, ◌<◌, ◌⊎◌, ℕ}

-- the most workers
abbrev pub most_workers : ℕ
most_workers = 16

-- so many are offered
abbrev pub AreOffered : ℕ → Type 0
AreOffered workers = (0 < workers) × (workers ≤ most_workers)

-- so many are refused
abbrev pub AreRefused : ℕ → Type 0
AreRefused workers = (workers ≡ 0) ⊎ (most_workers < workers)

-- Line feeds.
use Rattle.std.specs.{Prelude.{◌==◌, ℕ, List}, List.{count_by}}
use Rattle.sect_front.specs.Gaps.{line_feed}

-- how many line feeds these bytes have
abbrev pub feeds_in : List ℕ → ℕ
feeds_in bytes = count_by (λ b. b == line_feed) bytes

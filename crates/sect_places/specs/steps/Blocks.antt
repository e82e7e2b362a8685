-- A text in blocks.
use Rattle.std.specs.{Prelude.{ℕ, ◌+◌, ◌*◌, ◌/◌, List, map}, List.{range_with_len}}

-- how many bytes a block has
abbrev pub block_bytes : ℕ
block_bytes = 512

-- where the blocks of a text of so many bytes begin: as many as are full, and one behind them
abbrev pub block_starts : ℕ → List ℕ
block_starts total = map (λ i. i * block_bytes) (range_with_len 0 (total / block_bytes + 1))

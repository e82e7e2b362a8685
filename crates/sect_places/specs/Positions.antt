-- Lines and columns.
use Rattle.std.specs.Prelude.{ℕ, ◌+◌, ◌==◌, if◌then◌else◌, List, take, fold}
use Rattle.sect_front.specs.{Gaps.{line_feed}, Front.{line_of}}
use Rattle.sect_places.specs.declared.position.Position.{Position}

-- the column behind a byte that stands in this column
abbrev pub next_column : ℕ → ℕ → ℕ
next_column column byte = if byte == line_feed then 1 else column + 1

-- the column of a place, in bytes: one plus the bytes behind the last line feed before it
abbrev pub column_of : List ℕ → ℕ → ℕ
column_of bytes at = fold next_column 1 (take at bytes)

abbrev pub position : List ℕ → ℕ → Position
position bytes at = record { line = line_of bytes at; column = column_of bytes at }

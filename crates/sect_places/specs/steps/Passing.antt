-- Lines and columns, byte by byte.
use Rattle.std.specs.Prelude.{◌≡◌, ◌≤◌, ℕ, ◌+◌, ◌==◌, if◌then◌else◌, List, length}
use Rattle.sect_front.specs.Gaps.{line_feed}
use Rattle.sect_places.specs.{Positions.{position}, declared.position.Position.{Position}}
use Rattle.sect_places.specs.declared.positions.Cursor.{Cursor}

-- the line and the column behind a byte
abbrev pub next_position : Position → ℕ → Position
next_position p byte =
    if byte == line_feed then record { line = p.line + 1; column = 1 }
    else record { line = p.line; column = p.column + 1 }

-- the cursor has the line and the column of its place, which is the text's
pub record IsAt (source : List ℕ) (c : Cursor) : Type 0 where
  pub within : c.at ≤ length source
  pub is : c.position ≡ position source c.at
  pub line : c.position.line ≤ c.at + 1
  pub column : c.position.column ≤ c.at + 1

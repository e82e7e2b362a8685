-- The limits of a text.
use Rattle.std.specs.Prelude.{ℕ}

-- the most bytes of a text
abbrev pub most_bytes : ℕ
most_bytes = 1048576

-- the most bytes of a name
abbrev pub most_name_bytes : ℕ
most_name_bytes = 32

-- the most blocks that stand in one another, the braces of a record, a procedure or a thread counted
abbrev pub most_depth : ℕ
most_depth = 32

-- The limits of a conversation.
use Rattle.std.specs.Prelude.{ℕ}

-- the most bytes of the header lines of a message, with the empty line behind them
abbrev pub most_header : ℕ
most_header = 1024

-- the most bytes of a message: 16 MiB
abbrev pub most_message : ℕ
most_message = 16777216

-- the most fields that a path may be given
abbrev pub most_k : ℕ
most_k = 3

-- how many they are where the editor doesn't say
abbrev pub default_k : ℕ
default_k = 2

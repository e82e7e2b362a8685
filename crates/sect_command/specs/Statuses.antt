-- Exit statuses.
use Rattle.std.specs.Prelude.{ℕ}

-- what was asked is done
abbrev pub done : ℕ
done = 0

-- the input is refused
abbrev pub refused : ℕ
refused = 1

-- the command line is wrong, or asks for help or the version
abbrev pub wrong_words : ℕ
wrong_words = 2

-- memory ran out, or input or output failed
abbrev pub failed : ℕ
failed = 3

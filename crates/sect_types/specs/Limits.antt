-- The limits of a program.
use Rattle.std.specs.Prelude.{ℕ}

-- the most records
abbrev pub most_records : ℕ
most_records = 64

-- the most fields of a record
abbrev pub most_fields : ℕ
most_fields = 16

-- the most globals
abbrev pub most_globals : ℕ
most_globals = 256

-- the most procedures
abbrev pub most_procedures : ℕ
most_procedures = 64

-- the most threads
abbrev pub most_threads : ℕ
most_threads = 64

-- the most locals that a thread declares, and the most parameters and locals together that a procedure declares
abbrev pub most_locals : ℕ
most_locals = 64

-- the most statements of all expanded threads together; an `if`, a `while` and an `atomic` count too
abbrev pub most_statements : ℕ
most_statements = 4096

-- the most locals of an expanded thread: those that it declares, and one for each statement that sets a fresh one
abbrev pub most_all_locals : ℕ
most_all_locals = 4160

-- the most sites: globals and the `new` statements of the expanded threads
abbrev pub most_sites : ℕ
most_sites = 1024

-- the most sections of all threads together
abbrev pub most_sections : ℕ
most_sections = 256

-- the most calls that are met in expanding all threads, those in the bodies of the called procedures counted
abbrev pub most_calls : ℕ
most_calls = 4096

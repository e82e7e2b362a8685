-- What the command `c` answers to a source text. `program_in_c` cites it.
use Rattle.std.specs.Prelude.{ℕ, List}
use Rattle.sect_emit.specs.Compiled.{CompiledView, IsCompiledFrom}
use Rattle.sect_c.specs.Programs.{IsInC}

-- the source is accepted, and the bytes are its compiled program in C
pub record IsProgramInC (source : List ℕ) (k : ℕ) (bytes : List ℕ) : Type 0 where
  pub compiled : CompiledView
  pub from : IsCompiledFrom source k compiled
  pub spelled : IsInC compiled bytes

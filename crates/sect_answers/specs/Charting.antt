-- What the command `schedule --chart` answers to a source text. `schedule_chart` cites it.
use Rattle.std.specs.Prelude.{ℕ, List, None}
use Rattle.sect_emit.specs.Compiled.{CompiledView, IsCompiledFrom}
use Rattle.sect_draw.specs.Chart.{IsChart}

-- the source is accepted, and the bytes are the chart of these turns of its compiled program
pub record IsCharted (source : List ℕ) (k fuel : ℕ) (schedule : List ℕ) (bytes : List ℕ) : Type 0 where
  pub compiled : CompiledView
  pub from : IsCompiledFrom source k compiled
  pub chart : IsChart compiled fuel schedule None bytes

-- The program of what is compiled agrees with its declarations.
use Rattle.sect_names.specs.Records.{IsTypedProgram}
use Rattle.sect_emit.specs.Compiled.{CompiledView, IsCompiled, program_of}

-- its statements are sound, and its sites are numbered in text order
pub typed_program : (c : CompiledView) → IsCompiled c → IsTypedProgram (program_of c)
typed_program c is = is.typed

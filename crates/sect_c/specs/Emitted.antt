-- What is known of a program that becomes text.
use Rattle.std.specs.Prelude.{◌≡◌, List}
use Rattle.sect_types.specs.declared.expansion.action.Field.{Field}
use Rattle.sect_emit.specs.Compiled.{CompiledView}
use Rattle.sect_conflicts.specs.Taken.{TakenView, AreTaken, looked_of}

-- these are the keys that its sections have to take, and the fields that their paths follow
pub record IsEmitted (c : CompiledView) (taken : TakenView) (looked : List Field) : Type 0 where
  pub keys : AreTaken c taken
  pub fields : looked ≡ looked_of taken

-- What the text of the code stands for.
use Rattle.std.specs.Prelude.{List, [], ◌∷◌}
use Rattle.sect_types.specs.Statements.{TextView, Stop, Do, Choose, Loop, Section}
use Rattle.sect_types.specs.declared.expansion.text.Step.{Step}
use Rattle.sect_types.specs.declared.expansion.text.Step.TheVariants as step

-- a step of the code, and what follows it
abbrev pub step_then : Step → TextView → TextView
step_then (step.Do a) k = Do a k
step_then (step.If t p q) k = Choose t p q k
step_then (step.While t p) k = Loop t p k
step_then (step.Section i p) k = Section i p k

abbrev pub statements_of : List Step → TextView
statements_of [] = Stop
statements_of (s ∷ ss) = step_then s (statements_of ss)

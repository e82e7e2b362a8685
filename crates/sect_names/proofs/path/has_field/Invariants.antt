use Rattle.std.proofs.Common.{take}
use Rattle.sect_lemmas.specs.Lists.{Has}
use Rattle.sect_names.proofs.path.has_field.Given as goal

abbrev pub invariant-loop-other : goal.invariant-loop-other
invariant-loop-other l = Has (take l.other-index l.fields) l.field → ⊥

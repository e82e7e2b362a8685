use Rattle.std.proofs.Common.{take}
use Rattle.sect_names.specs.Carrying.{GoesOn}
use Rattle.sect_lemmas.proofs.Making.{Makes}
use Rattle.sect_names.proofs.carry.FieldStore.with_field.Given as goal

abbrev pub invariant-loop-path : goal.invariant-loop-path
invariant-loop-path l = Makes (GoesOn l.self.base l.self.field l.field) (take l.path-index l.paths) l.longer.items

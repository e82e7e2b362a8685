use Rattle.std.proofs.Common.{◌≡◌, take, map, true}
use Rattle.std.specs.List.{list_all}
use Rattle.sect_front.specs.Words.{is_name}
use Rattle.sect_names.specs.Printing.{field_name}
use Rattle.sect_emit.proofs.words.path_of.Given as goal

abbrev pub invariant-loop-field : goal.invariant-loop-field
invariant-loop-field l = (l.fields.items ≡ map (field_name l.program.source) (take l.field-index l.field-items))
    × (list_all is_name l.fields.items ≡ true)

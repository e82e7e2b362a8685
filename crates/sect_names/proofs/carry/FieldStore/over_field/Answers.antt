use Rattle.sect_names.proofs.Storing.{over_none, over_value}
use Rattle.sect_names.proofs.carry.FieldStore.over_field.Goals.{in-Some+in_ok-push, in_default}
use Rattle.sect_names.proofs.carry.FieldStore.over_field.Goals as goal

pub returns : goal.returns
returns c =
    let s = c.args.scheme.now.classes in
    let x = c.args.self in
    let a = c.args in
    elim c.match-value_read.branch [
      | in-Some+in_ok-push w ↦ rw (w.over-is, w.in_ok-push.ensures.items, w.new.ensures)
          (over_value s x.base x.field x.value a.beginning.now a.field a.paths.now c.in_ok-over.over.items
          c.in_ok-over.ensures c.value_read.result c.value_read.ensures w.in-Some.value w.in-Some.is)
      | in_default w ↦ rw w.over-is
          (over_none s x.base x.field x.value a.beginning.now a.field a.paths.now c.in_ok-over.over.items
          c.in_ok-over.ensures c.value_read.result c.value_read.ensures w.in_default.is)
    ]

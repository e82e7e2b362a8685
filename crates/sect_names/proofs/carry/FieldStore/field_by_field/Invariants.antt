use Rattle.std.proofs.Common.{◌≡◌, ◌↔◌, drop}
use Rattle.sect_lemmas.specs.Lists.{Has}
use Rattle.sect_points.specs.Paths.{PathView, dots}
use Rattle.sect_names.specs.Carrying.{BeforeStore}
use Rattle.sect_names.proofs.carry.FieldStore.field_by_field.Given as goal

abbrev pub invariant-loop-field : goal.invariant-loop-field
invariant-loop-field l = record {
  before : (q : PathView) → Has l.paths.items q
      ↔ BeforeStore l.scheme.classes l.self.base l.self.field l.self.value l.beginning q;
  rest : dots l.beginning (drop l.field-index l.field-items) ≡ l.path;
}

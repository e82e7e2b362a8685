use Rattle.std.proofs.Common.{◌≡◌, ◌∙◌, ap, sym, length}
use Rattle.sect_points.specs.Paths.{fields_of}
use Rattle.sect_names.proofs.Paths.{fields_of-place, depth-fields}
use Rattle.sect_names.proofs.path.Path.fields.Goals as goal

pub returns-clause-fields : goal.returns-clause-fields
returns-clause-fields c = fields_of-place c.self.inside.base c.self.inside.fields.items _ _ c.self.view_is
    c.as_slice.ensures

pub returns-clause-depth : goal.returns-clause-depth
returns-clause-depth c =
    let fields : c.as_slice.result.now ≡ fields_of c.args.self.now =
    fields_of-place c.self.inside.base c.self.inside.fields.items _ _ c.self.view_is c.as_slice.ensures in
    ap length fields ∙ sym (depth-fields c.args.self.now)

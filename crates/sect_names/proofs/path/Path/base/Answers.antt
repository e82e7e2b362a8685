use Rattle.sect_names.proofs.Paths.{base_of-place}
use Rattle.sect_names.proofs.path.Path.base.Goals as goal

pub returns : goal.returns
returns c = base_of-place c.self.inside.base c.self.inside.fields.items _ c.self.view_is

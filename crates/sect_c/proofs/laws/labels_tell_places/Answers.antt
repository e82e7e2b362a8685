use Rattle.sect_c.proofs.Labelling.{labels_tell}
use Rattle.sect_c.proofs.laws.labels_tell_places.Goals as goal

pub returns : goal.returns
returns c = labels_tell

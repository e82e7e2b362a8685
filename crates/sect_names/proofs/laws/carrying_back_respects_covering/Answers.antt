use Rattle.sect_names.proofs.shared.Respecting.{respects_cover}
use Rattle.sect_names.proofs.laws.carrying_back_respects_covering.Goals as goal

pub returns : goal.returns
returns c = respects_cover

use Rattle.sect_free.proofs.Freely.{fuel_only_helps}
use Rattle.sect_free.proofs.laws.fuel_only_helps.Goals as goal

pub returns : goal.returns
returns c = fuel_only_helps

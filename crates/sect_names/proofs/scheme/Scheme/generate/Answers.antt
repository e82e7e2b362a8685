use Rattle.std.proofs.Common.{sym}
use Rattle.sect_names.proofs.scheme.Scheme.generate.Goals as goal

pub returns-in-Load : goal.returns-in-Load
returns-in-Load c = rw (c.in-Act.is, c.in-Load.is, sym c.variable_of.ensures) c.access.ensures

pub returns-in-Store : goal.returns-in-Store
returns-in-Store c = rw (c.in-Act.is, c.in-Store.is, sym c.variable_of-in-Store.ensures) c.access-in-Store.ensures

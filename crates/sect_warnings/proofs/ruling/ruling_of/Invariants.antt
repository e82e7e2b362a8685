use Rattle.std.proofs.Common.{◌≡◌, take}
use Rattle.std.specs.Prelude.{None, fold}
use Rattle.sect_warnings.specs.Rulings.{with_ruling}
use Rattle.sect_warnings.proofs.ruling.ruling_of.Given as goal

abbrev pub invariant-loop-ruling : goal.invariant-loop-ruling
invariant-loop-ruling l = l.last ≡ fold (with_ruling l.name) None (take l.ruling-index l.rulings)

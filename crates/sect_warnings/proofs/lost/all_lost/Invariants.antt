use Rattle.std.proofs.Common.{[], take}
use Rattle.std.specs.List.{flat_map}
use Rattle.sect_conflicts.specs.Selecting.{Adds}
use Rattle.sect_warnings.specs.Lost.{IsLost, with_stores}
use Rattle.sect_warnings.proofs.lost.all_lost.Given as goal

abbrev pub invariant-loop-load : goal.invariant-loop-load
invariant-loop-load l =
    Adds (IsLost l.of.compiled.now) (flat_map (with_stores l.of.stores.now) (take l.load-index l.of.loads.now)) []
    l.all.items

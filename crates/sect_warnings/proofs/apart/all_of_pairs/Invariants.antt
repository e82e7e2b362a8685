use Rattle.std.proofs.Common.{[], map, take}
use Rattle.sect_conflicts.specs.Selecting.{Adds}
use Rattle.sect_warnings.specs.{Apart.{pair_warning}, Warnings.{IsDue}}
use Rattle.sect_warnings.proofs.apart.all_of_pairs.Given as goal

abbrev pub invariant-loop-pair : goal.invariant-loop-pair
invariant-loop-pair l =
    Adds (IsDue l.compiled) (map (pair_warning l.compiled.scheme.program.source) (take l.pair-index l.pairs)) []
    l.all.items

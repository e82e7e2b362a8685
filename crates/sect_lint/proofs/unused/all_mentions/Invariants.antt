use Rattle.std.proofs.Common.{◌↔◌, take}
use Rattle.std.specs.List.{flat_map}
use Rattle.sect_lemmas.specs.Lists.{Has}
use Rattle.sect_lint.specs.{declared.unused.Referent.{Referent}, Unused.{mentions}}
use Rattle.sect_lint.proofs.unused.all_mentions.Given as goal

abbrev pub invariant-loop-named : goal.invariant-loop-named
invariant-loop-named l =
    (r : Referent) → Has l.referents.keys r ↔ Has (flat_map mentions (take l.named-index l.names)) r

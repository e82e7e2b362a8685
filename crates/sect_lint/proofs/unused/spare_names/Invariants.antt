use Rattle.std.proofs.Common.{◌≡◌, take}
use Rattle.std.specs.Prelude.{filter}
use Rattle.sect_lint.specs.Unused.{referent_of}
use Rattle.sect_lint.specs.steps.Spare.{is_spare}
use Rattle.sect_lint.proofs.unused.spare_names.Given as goal

abbrev pub invariant-loop-named : goal.invariant-loop-named
invariant-loop-named l =
    l.list.items ≡ filter (λ n. is_spare l.referents.keys (referent_of n)) (take l.named-index l.names)

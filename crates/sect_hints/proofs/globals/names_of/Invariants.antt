use Rattle.std.proofs.Common.{◌≡◌, take}
use Rattle.sect_types.specs.Sight.{names_of_globals}
use Rattle.sect_hints.proofs.globals.names_of.Given as goal

abbrev pub invariant-loop-global : goal.invariant-loop-global
invariant-loop-global l = l.names.keys ≡ names_of_globals (take l.global-index l.globals)

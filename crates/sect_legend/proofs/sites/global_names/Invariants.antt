use Rattle.std.proofs.Common.{◌≡◌, map, take}
use Rattle.std.specs.String.{string_bytes}
use Rattle.sect_front.specs.declared.tree.GlobalObject.{GlobalObject}
use Rattle.sect_legend.proofs.sites.global_names.Given as goal

abbrev pub invariant-loop-global : goal.invariant-loop-global
invariant-loop-global l =
    map string_bytes l.names.items ≡ map (λ (g : GlobalObject). g.name) (take l.global-index l.globals)

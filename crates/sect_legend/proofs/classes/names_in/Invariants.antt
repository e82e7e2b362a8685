use Rattle.std.proofs.Common.{◌≡◌, ◌++◌, drop, map}
use Rattle.std.specs.String.{string_bytes}
use Rattle.sect_legend.specs.Legend.{names_of_class}
use Rattle.sect_legend.proofs.classes.names_in.Given as goal

abbrev pub invariant-loop-site : goal.invariant-loop-site
invariant-loop-site l =
    map (λ name. name.now) l.found.items
    ++ names_of_class l.class (drop l.site l.numbers) (drop l.site (map string_bytes l.names))
    ≡ names_of_class l.class l.numbers (map string_bytes l.names)

-- Whether what is declared isn't among what is referred to, by a test.
use Rattle.std.specs.{Prelude.{Bool, false, not, List, Option, Some, None}, List.{list_any}}
use Rattle.sect_lint.specs.declared.unused.Referent.{Referent}
use Rattle.sect_lint.specs.contracts.unused.ReferentPartialEq.TheImpl.{ghosts as the_referent_eq}

abbrev pub is_spare : List Referent → Option Referent → Bool
is_spare rs None = false
is_spare rs (Some r) = not (list_any (the_referent_eq.eq r) rs)

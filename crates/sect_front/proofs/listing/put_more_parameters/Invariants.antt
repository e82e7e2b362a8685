use Rattle.std.proofs.Common.{◌≡◌, ◌++◌, List, drop}
use Rattle.sect_front.specs.{Tokens.{more_parameters}, declared.token.Token.{Token}}
use Rattle.sect_front.proofs.listing.put_more_parameters.Given as goal

abbrev pub invariant-loop-parameter : goal.invariant-loop-parameter
invariant-loop-parameter l =
    (w : List Token) → l.out.items ++ more_parameters (drop l.parameter-index l.list) w ≡
    l.fn.out.items ++ more_parameters l.list w

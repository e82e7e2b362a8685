use Rattle.std.proofs.Common.{◌≡◌, ◌++◌, List, drop}
use Rattle.sect_front.specs.{Tokens.{more_operands}, declared.token.Token.{Token}}
use Rattle.sect_front.proofs.listing.put_more_operands.Given as goal

abbrev pub invariant-loop-value : goal.invariant-loop-value
invariant-loop-value l =
    (w : List Token) → l.out.items ++ more_operands (drop l.value-index l.values) w ≡
    l.fn.out.items ++ more_operands l.values w

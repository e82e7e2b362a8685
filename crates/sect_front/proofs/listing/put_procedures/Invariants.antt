use Rattle.std.proofs.Common.{◌≡◌, ◌++◌, List, drop}
use Rattle.sect_front.specs.{Tokens.{procedures_tokens}, declared.token.Token.{Token}}
use Rattle.sect_front.proofs.listing.put_procedures.Given as goal

abbrev pub invariant-loop-procedure : goal.invariant-loop-procedure
invariant-loop-procedure l =
    (w : List Token) → l.out.items ++ procedures_tokens (drop l.procedure-index l.procedures) w ≡
    l.fn.out.items ++ procedures_tokens l.procedures w

use Rattle.std.proofs.Common.{◌≡◌, ◌++◌, List, drop}
use Rattle.sect_front.specs.{Tokens.{hints_tokens}, declared.token.Token.{Token}}
use Rattle.sect_front.proofs.listing.put_hints.Given as goal

abbrev pub invariant-loop-hint : goal.invariant-loop-hint
invariant-loop-hint l =
    (l.hint-items ≡ l.hints) × ((w : List Token)
    → l.out.items ++ hints_tokens (drop l.hint-index l.hint-items) w ≡ l.fn.out.items ++ hints_tokens l.hints w)

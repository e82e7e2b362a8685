use Rattle.std.proofs.Common.{◌≡◌, ◌++◌, List, drop}
use Rattle.sect_front.specs.{Tokens.{records_tokens}, declared.token.Token.{Token}}
use Rattle.sect_front.proofs.listing.put_records.Given as goal

abbrev pub invariant-loop-record : goal.invariant-loop-record
invariant-loop-record l =
    (w : List Token) → l.out.items ++ records_tokens (drop l.record-index l.records) w ≡ l.fn.out.items
    ++ records_tokens l.records w

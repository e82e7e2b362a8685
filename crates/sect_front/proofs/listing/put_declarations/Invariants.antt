use Rattle.std.proofs.Common.{◌≡◌, ◌++◌, List, drop}
use Rattle.sect_front.specs.{Tokens.{declarations_tokens}, declared.token.Token.{Token}}
use Rattle.sect_front.proofs.listing.put_declarations.Given as goal

abbrev pub invariant-loop-declaration : goal.invariant-loop-declaration
invariant-loop-declaration l =
    (l.declaration-items ≡ l.list)
    × ((w : List Token) → l.out.items
    ++ declarations_tokens (drop l.declaration-index l.declaration-items) w ≡ l.fn.out.items
    ++ declarations_tokens l.list w)

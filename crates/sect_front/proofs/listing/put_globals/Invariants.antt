use Rattle.std.proofs.Common.{◌≡◌, ◌++◌, List, drop}
use Rattle.sect_front.specs.{Tokens.{globals_tokens}, declared.token.Token.{Token}}
use Rattle.sect_front.proofs.listing.put_globals.Given as goal

abbrev pub invariant-loop-global : goal.invariant-loop-global
invariant-loop-global l =
    (w : List Token) → l.out.items ++ globals_tokens (drop l.global-index l.globals) w ≡ l.fn.out.items
    ++ globals_tokens l.globals w

use Rattle.std.proofs.Common.{◌≡◌, ◌++◌, drop}
use Rattle.std.specs.List.{list_all}
use Rattle.sect_front.specs.Spelling.{is_proper}
use Rattle.sect_front.specs.steps.Spread.{spread}
use Rattle.sect_front.proofs.printing.put_tokens.Given as goal

abbrev pub invariant-loop-token : goal.invariant-loop-token
invariant-loop-token l =
    (l.text.items ++ spread (drop l.token-index l.tokens) ≡ l.fn.text.items ++ spread l.tokens)
    × (list_all is_proper (drop l.token-index l.tokens) ≡ list_all is_proper l.tokens)

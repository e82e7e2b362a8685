use Rattle.std.proofs.Common.{◌≡◌, ◌++◌, ◌+◌, ◌*◌, List, drop}
use Rattle.sect_front.specs.{Tokens.{block_tokens}, Trees.{statement_of, block_of, statement_size, block_size}}
use Rattle.sect_front.specs.declared.token.Token.{Token}
use Rattle.sect_front.proofs.listing.+put.Given as goal

abbrev pub decreases-put_statement : goal.decreases-put_statement
decreases-put_statement l = 3 * statement_size (statement_of l.s.now)

abbrev pub decreases-put_block : goal.decreases-put_block
decreases-put_block l = 3 * block_size l.b.now + 1

abbrev pub decreases-put_braced : goal.decreases-put_braced
decreases-put_braced l = 3 * block_size l.b.now + 2

abbrev pub invariant-put_block-loop-s : goal.invariant-put_block-loop-s
invariant-put_block-loop-s l =
    (block_of l.s-items ≡ l.b) × ((w : List Token)
    → l.out.items ++ block_tokens (block_of (drop l.s-index l.s-items)) w ≡ l.fn.out.items ++ block_tokens l.b w)

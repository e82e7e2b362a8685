use Rattle.std.proofs.Common.{arith, ap}
use Rattle.sect_front.specs.Trees.{statement_of, statement_size, block_size}
use Rattle.sect_front.proofs.shared.Bodies.{size_at}
use Rattle.sect_places.proofs.sections.+find.Goals as goal

pub put_block-put_statement-requires : goal.put_block-put_statement-requires
put_block-put_statement-requires t c =
    omega (
      arith,
      size_at c.as_slice-statement-items.result.now c.loop-statement.statement-index c.statement-item.result
          (omega arith),
      ap (λ s. statement_size (statement_of s)) c.statement-item.is,
      ap block_size c.loop-statement.invariant.0,
      c.decreases,
    )

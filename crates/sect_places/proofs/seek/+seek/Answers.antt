use Rattle.std.proofs.Common.{arith, ap, subst}
use Rattle.sect_lemmas.proofs.Results.{given}
use Rattle.sect_front.specs.{Trees.{statement_of, statement_size, block_size}, Syntax.{BlockView}}
use Rattle.sect_front.proofs.shared.Bodies.{size_at}
use Rattle.sect_places.specs.{Counts.{block_count}, Ranges.{block_ranges}}
use Rattle.sect_places.specs.steps.Seeking.{IsFound, IsBehind}
use Rattle.sect_places.proofs.Lists.{statements}
use Rattle.sect_places.proofs.Seeking.{sought_room, sought_here, sought_more, sought_count, sought_behind}
use Rattle.sect_places.proofs.seek.+seek.Goals as goal

pub seek_block-seek_statement-requires : goal.seek_block-seek_statement-requires
seek_block-seek_statement-requires t c = (
  omega (
    arith,
    size_at c.as_slice-s-items.result.now c.loop-s.s-index c.s-item.result (omega arith),
    ap (λ s. statement_size (statement_of s)) c.s-item.is,
    ap block_size c.loop-s.invariant.0,
    c.decreases,
  ),
  sought_room _ _ _ _ statements c.as_slice-s-items.result.now c.loop-s.s-index c.args.ahead.at c.loop-s.here.at
      c.args.ahead.items c.loop-s.here.items c.loop-s.invariant.1 c.s-item.result _ (omega arith) c.s-item.is
      (omega (arith, ap block_count c.loop-s.invariant.0, c.requires)),
)

pub seek_block-returns-in_err-here-clause-found : goal.seek_block-returns-in_err-here-clause-found
seek_block-returns-in_err-here-clause-found t c =
    given c.from_residual.result (IsFound c.args.ahead.items (block_ranges c.args.ahead.at c.args.b.now))
    c.in_err-here.field-0.0
    (subst (λ (b : BlockView). IsFound c.args.ahead.items (block_ranges c.args.ahead.at b) c.in_err-here.field-0.0)
    c.loop-s.invariant.0
    (sought_here _ _ _ _ statements c.as_slice-s-items.result.now c.loop-s.s-index c.args.ahead.at c.loop-s.here.at
    c.args.ahead.items c.loop-s.here.items c.loop-s.invariant.1 c.s-item.result _ (omega arith) c.s-item.is
    c.in_err-here.ensures.found)) c.from_residual.ensures.1

pub seek_block-loop-s-preserved : goal.seek_block-loop-s-preserved
seek_block-loop-s-preserved t c = (
  c.loop-s.invariant.0,
  sought_more _ _ _ _ statements c.as_slice-s-items.result.now c.loop-s.s-index c.args.ahead.at c.loop-s.here.at
      c.args.ahead.items c.loop-s.here.items c.loop-s.invariant.1 c.s-item.result _ _ (omega arith) c.s-item.is
      c.in_ok-here.ensures.next c.in_ok-here.ensures.behind,
)

pub seek_block-returns-clause-behind : goal.seek_block-returns-clause-behind
seek_block-returns-clause-behind t c =
    subst (λ (b : BlockView). IsBehind c.args.ahead.items (block_ranges c.args.ahead.at b) c.loop-s.here.items)
    c.loop-s.invariant.0
    (sought_behind _ _ _ _ statements c.as_slice-s-items.result.now c.loop-s.s-index c.args.ahead.at c.loop-s.here.at
    c.args.ahead.items c.loop-s.here.items c.loop-s.invariant.1 (omega arith))

pub seek_block-returns-clause-next : goal.seek_block-returns-clause-next
seek_block-returns-clause-next t c =
    omega (
      arith,
      ap block_count c.loop-s.invariant.0,
      sought_count _ _ _ _ statements c.as_slice-s-items.result.now
          c.loop-s.s-index c.args.ahead.at c.loop-s.here.at c.args.ahead.items c.loop-s.here.items c.loop-s.invariant.1
          (omega arith),
    )

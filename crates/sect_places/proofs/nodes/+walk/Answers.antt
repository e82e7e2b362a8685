use Rattle.std.proofs.Common.{◌≡◌, ◌<◌, ℕ, List, Some, length, get_or, slice_get, refl, sym, ap, ◌∙◌, arith}
use Rattle.std.proofs.lemmas.Option.{slice_get_read}
use Rattle.sect_front.specs.{Trees.{statement_of, statement_size, block_size}, declared.tree.Procedure.{Procedure}}
use Rattle.sect_front.proofs.shared.Bodies.{size_at}
use Rattle.sect_places.specs.steps.Ending.{EndsWithin, most_size}
use Rattle.sect_places.proofs.Expanding.{ends_at, size_most, call_ends, call_falls, call_origins_added}
use Rattle.sect_places.proofs.Expanding.{call_sections_added}
use Rattle.sect_places.proofs.nodes.+walk.Goals as goal

pub put_block-put_statement-requires : goal.put_block-put_statement-requires
put_block-put_statement-requires t c =
    let i = c.args.inside.now in (
      omega (
        arith,
        size_at c.as_slice-statement-items.result.now c.loop-statement.statement-index c.statement-item.result
            (omega arith),
        ap (λ s. statement_size (statement_of s)) c.statement-item.is,
        ap block_size c.loop-statement.invariant.0,
        c.decreases,
      ),
      ends_at i.procedures.now (EndsWithin i.procedures.now i.most) c.as_slice-statement-items.result.now
          c.loop-statement.statement-index c.statement-item.result c.loop-statement-test.true c.statement-item.is
          (rw (← c.loop-statement.invariant.0) at c.requires),
    )

-- the procedure that is called
there : (ps : List Procedure) (q : ℕ) (p : Procedure) → q < length ps → p ≡ get_or ps q p
    → slice_get ps q ≡ Some (get_or ps q p)
there ps q p lt is = slice_get_read ps (length ps) q p refl lt is ∙ ap Some is

pub put_call-put_block-requires : goal.put_call-put_block-requires
put_call-put_block-requires t c =
    let i = c.args.inside.now in
    let ps = i.procedures.now in
    let q = c.unwrap-number.result in
    let p = get_or ps q c.index-inside-number.result in
    let lt : q < length ps = rw c.unwrap-number.ensures at c.number_of.ensures.within in
    let here = there ps q c.index-inside-number.result lt c.index-inside-number.is in
    let body = call_ends ps i.most _ q p (sym c.number_of.ensures.number ∙ c.unwrap-number.ensures) here c.requires in
    let less = call_falls i.most (block_size p.body) (most_size ps) body.0 (size_most ps q p here) in
    (omega (arith, less, c.decreases), body.1)

pub put_call-returns-clause-nodes : goal.put_call-returns-clause-nodes
put_call-returns-clause-nodes t c =
    let i = c.args.inside.now in
    let ps = i.procedures.now in
    let q = c.unwrap-number.result in
    let p = get_or ps q c.index-inside-number.result in
    let lt : q < length ps = rw c.unwrap-number.ensures at c.number_of.ensures.within in
    let here = there ps q c.index-inside-number.result lt c.index-inside-number.is in
    let named = sym c.number_of.ensures.number ∙ c.unwrap-number.ensures in
    let some = (call_ends ps i.most _ q p named here c.requires).0 in
    rw (← c.or.ensures)
    (call_origins_added ps i.starts.now _ q p _ c.or.result named here refl i.most _ _ _ _ _ _ _ _ _ some
    c.as_slice.ensures c.as_slice-2.ensures c.in_ok-parameters.ensures c.in_ok-locals.ensures.next
    c.in_ok-body.ensures.next c.in_ok-locals.ensures.nodes c.in_ok-body.ensures.nodes c.in_ok-put_block.ensures.nodes)

pub put_call-returns-clause-sections : goal.put_call-returns-clause-sections
put_call-returns-clause-sections t c =
    let i = c.args.inside.now in
    let ps = i.procedures.now in
    let q = c.unwrap-number.result in
    let p = get_or ps q c.index-inside-number.result in
    let lt : q < length ps = rw c.unwrap-number.ensures at c.number_of.ensures.within in
    let here = there ps q c.index-inside-number.result lt c.index-inside-number.is in
    let named = sym c.number_of.ensures.number ∙ c.unwrap-number.ensures in
    let some = (call_ends ps i.most _ q p named here c.requires).0 in
    rw (← c.or.ensures)
    (call_sections_added ps i.starts.now _ q p _ c.or.result named here refl i.most _ _ _ _ _ _ _ some
    c.as_slice.ensures c.as_slice-2.ensures c.in_ok-parameters.ensures c.in_ok-locals.ensures.next
    c.in_ok-body.ensures.next c.in_ok-put_block.ensures.sections)

use Rattle.std.proofs.Common.{◌≡◌, ◌<◌, ◌∙◌, sym, ap, arith, length, true≢false}
use Rattle.sect_front.specs.Trees.{statement_of, statement_size, block_size}
use Rattle.sect_front.proofs.shared.Bodies.{size_at}
use Rattle.sect_front.proofs.Sameness.{same_length, same_at, same_so_far}
use Rattle.sect_front.proofs.same.+same.Goals as goal

pub same_block-returns-then-ours-theirs : goal.same_block-returns-then-ours-theirs
same_block-returns-then-ours-theirs t c =
    let ours = c.as_slice-ours.result.now in
    let theirs = c.as_slice-theirs.result.now in (
      λ f. absurd (true≢false (sym f)),
      λ e. absurd
          (omega (
            arith,
            c.if-ours-theirs.true,
            same_length ours theirs (c.as_slice-ours.ensures ∙ e ∙ sym c.as_slice-theirs.ensures),
          )),
    )

pub same_block-same_statement-requires : goal.same_block-same_statement-requires
same_block-same_statement-requires t c = (
  omega (
    arith,
    size_at c.as_slice-ours.result.now c.loop-place.place c.index-ours-place.result
        (omega (arith, c.loop-place-test.true)),
    ap (λ s. statement_size (statement_of s)) c.index-ours-place.is,
    ap block_size c.as_slice-ours.ensures,
    c.decreases,
  ),
  tt,
)

pub same_block-returns-then-not-same_statement : goal.same_block-returns-then-not-same_statement
same_block-returns-then-not-same_statement t c =
    let ours = c.as_slice-ours.result.now in
    let theirs = c.as_slice-theirs.result.now in
    let i = c.loop-place.place in
    let x = c.index-ours-place.result in
    let y = c.index-theirs-place.result in
    let within : i < length ours = omega (arith, c.loop-place-test.true) in
    let there : i < length theirs = omega (arith, c.loop-place-test.true, c.if-ours-theirs.false) in
    let same : c.args.left.now ≡ c.args.right.now → statement_of x ≡ statement_of y =
    λ e. ap statement_of c.index-ours-place.is
    ∙ same_at ours theirs i x y within there (c.as_slice-ours.ensures ∙ e ∙ sym c.as_slice-theirs.ensures)
    ∙ ap statement_of (sym c.index-theirs-place.is) in (
      λ f. absurd (true≢false (sym f)),
      λ e. absurd (true≢false (sym (c.same_statement.ensures.1 (same e)) ∙ c.if-not-same_statement.true)),
    )

pub same_block-loop-place-preserved : goal.same_block-loop-place-preserved
same_block-loop-place-preserved t c =
    let ours = c.as_slice-ours.result.now in
    let theirs = c.as_slice-theirs.result.now in
    let i = c.loop-place.place in
    let x = c.index-ours-place.result in
    let y = c.index-theirs-place.result in
    let here = ap statement_of (sym c.index-ours-place.is) ∙ c.same_statement.ensures.0 c.if-not-same_statement.false
    ∙ ap statement_of c.index-theirs-place.is in
    same_so_far ours theirs i x y (omega (arith, c.loop-place-test.true))
    (omega (arith, c.loop-place-test.true, c.if-ours-theirs.false)) c.loop-place.invariant here

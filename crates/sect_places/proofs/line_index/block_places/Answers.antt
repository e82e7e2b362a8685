use Rattle.std.proofs.Common.{◌++◌, ◌∷◌, [], ◌*◌, ◌+◌, ◌/◌, ◌≡◌, map, sym, ap, ◌∙◌, arith}
use Rattle.std.proofs.lemmas.List.FromFn.{map-range_with_len_more}
use Rattle.std.specs.List.{range_with_len}
use Rattle.sect_places.specs.steps.Blocks.{block_bytes}
use Rattle.sect_places.proofs.line_index.block_places.Goals as goal

pub loop-block-preserved : goal.loop-block-preserved
loop-block-preserved c =
    c.in_ok-push.ensures.items ∙ (ap (λ r. r ++ c.loop-block.block * block_bytes ∷ []) c.loop-block.invariant
    ∙ sym (map-range_with_len_more (λ i. i * block_bytes) 0 c.loop-block.block c.loop-block.block (omega arith)))

pub returns : goal.returns
returns c =
    let all : c.loop-block.block ≡ c.args.total / block_bytes + 1 =
    omega (arith, c.loop-block-test.false, c.loop-block.auto.block-end) in
    c.loop-block.invariant ∙ ap (λ n. map (λ i. i * block_bytes) (range_with_len 0 n)) all

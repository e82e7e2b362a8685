use Rattle.std.proofs.Common.{◌≡◌, ◌*◌, map}
use Rattle.std.specs.List.{range_with_len}
use Rattle.sect_places.specs.steps.Blocks.{block_bytes}
use Rattle.sect_places.proofs.line_index.block_places.Given as goal

abbrev pub invariant-loop-block : goal.invariant-loop-block
invariant-loop-block l = l.places.items ≡ map (λ i. i * block_bytes) (range_with_len 0 l.block)

use Rattle.std.proofs.Common.{◌≡◌, ◌++◌, drop, codes}
use Rattle.std.specs.{String.{string_bytes}, List.{flat_map}, Fmt.{decimal}}
use Rattle.sect_draw.proofs.outcomes.put_order.Given as goal

abbrev pub invariant-loop-thread : goal.invariant-loop-thread
invariant-loop-thread l = record {
  added : string_bytes l.text ++ flat_map (λ t. codes " " ++ decimal t) (drop l.thread-index l.order)
      ≡ string_bytes l.fn.text ++ codes "order" ++ flat_map (λ t. codes " " ++ decimal t) l.order;
}

use Rattle.std.proofs.Common.{◌≡◌, map, slice_index}
use Rattle.std.specs.{Prelude.{◌==◌}, List.{filter, range_with_len}}
use Rattle.serde_json.specs.View.{view}
use Rattle.sect_json.specs.Values.{count}
use Rattle.sect_json.proofs.sites.class_value.Given as goal

abbrev pub invariant-loop-site : goal.invariant-loop-site
invariant-loop-site l =
    map view l.sites.items ≡ map count (filter (λ s. slice_index l.numbers s == l.class) (range_with_len 0 l.site))

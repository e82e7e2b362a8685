use Rattle.std.proofs.Common.{◌≡◌, map}
use Rattle.std.specs.List.{filter, range_with_len}
use Rattle.serde_json.specs.View.{view}
use Rattle.sect_json.specs.{Values.{count}, Sites.{may_hold}}
use Rattle.sect_json.proofs.sites.held_value.Given as goal

abbrev pub invariant-loop-site : goal.invariant-loop-site
invariant-loop-site l =
    map view l.values.items ≡ map count (filter (may_hold l.points l.holder) (range_with_len 0 l.site))

use Rattle.std.proofs.Common.{◌≡◌, ◌<◌, drop, IfSome, None}
use Rattle.sect_table.specs.steps.{Links.{list_at, head_or}, Arena.{holds_at}}
use Rattle.sect_table.specs.Contents.{mode_in}
use Rattle.sect_table.proofs.arena.mode_along.Given as goal

abbrev pub invariant-loop-step : goal.invariant-loop-step
invariant-loop-step l = (l.at ≡ head_or (drop l.step (list_at l.chains.lists l.list)) None)
    × IfSome l.at (λ x. x < l.chains.size)
    × (mode_in l.key (holds_at l.nodes (drop l.step (list_at l.chains.lists l.list))) ≡ mode_in l.key
    (holds_at l.nodes (list_at l.chains.lists l.list)))

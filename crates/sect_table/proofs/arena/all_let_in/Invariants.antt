use Rattle.std.proofs.Common.{◌≡◌, ◌<◌, drop, IfSome, None}
use Rattle.sect_table.specs.steps.{Links.{list_at, head_or}, Arena.{claims}}
use Rattle.sect_table.specs.Contents.{may_join}
use Rattle.sect_table.proofs.arena.all_let_in.Given as goal

abbrev pub invariant-loop-step : goal.invariant-loop-step
invariant-loop-step l = (l.at ≡ head_or (drop l.step (list_at l.queues.lists l.list)) None)
    × IfSome l.at (λ x. x < l.queues.size)
    × (may_join (claims l.nodes (drop l.step (list_at l.queues.lists l.list))) l.thread l.mode ≡ may_join
    (claims l.nodes (list_at l.queues.lists l.list)) l.thread l.mode)

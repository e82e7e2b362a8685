use Rattle.std.proofs.Common.{◌≡◌, ◌<◌, ℕ, false}
use Rattle.sect_editor.specs.Hovering.{is_node_under}
use Rattle.sect_editor.proofs.hover.node_under.Given as goal

-- none so far
abbrev pub invariant-loop-node : goal.invariant-loop-node
invariant-loop-node l =
    (n : ℕ) → n < l.node → is_node_under l.pointed.spans.now l.pointed.at l.fn.section n ≡ false

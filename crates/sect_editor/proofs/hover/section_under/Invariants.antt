use Rattle.std.proofs.Common.{◌≡◌, ◌<◌, ℕ, false}
use Rattle.sect_editor.specs.Hovering.{is_head_under}
use Rattle.sect_editor.proofs.hover.section_under.Given as goal

-- none so far
abbrev pub invariant-loop-section : goal.invariant-loop-section
invariant-loop-section l =
    (i : ℕ) → i < l.section → is_head_under l.pointed.spans.now l.pointed.at i ≡ false

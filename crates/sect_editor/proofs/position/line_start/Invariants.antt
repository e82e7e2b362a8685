use Rattle.std.proofs.Common.{◌≡◌, ◌+◌, drop}
use Rattle.sect_editor.specs.Positions.{line_start}
use Rattle.sect_editor.proofs.position.line_start.Given as goal

-- the line begins as far behind here as one with fewer lines before it
abbrev pub invariant-loop-at : goal.invariant-loop-at
invariant-loop-at l = line_start l.line l.text ≡ line_start l.left (drop l.at l.text) + l.at

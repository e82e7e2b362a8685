use Rattle.std.specs.String.{string_bytes}
use Rattle.sect_editor.specs.Hovering.{AreAllNodesTold}
use Rattle.sect_editor.proofs.hover.all_nodes_text.Given as goal

-- of the sections so far
abbrev pub invariant-loop-section : goal.invariant-loop-section
invariant-loop-section l =
    AreAllNodesTold l.pointed.compiled.now l.pointed.spans.now l.pointed.at l.section (string_bytes l.text)

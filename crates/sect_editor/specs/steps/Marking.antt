-- A compiled program with its text.
use Rattle.sect_places.specs.NodeSpans.{AreNodeSpans}
use Rattle.sect_emit.specs.Compiled.{program_of}
use Rattle.sect_editor.specs.declared.marks.Marked.{Marked}

-- the places are those of the program's nodes in its text
abbrev pub IsMarked : Marked → Type 0
IsMarked m = AreNodeSpans m.source.now (program_of m.compiled.now) m.spans.now

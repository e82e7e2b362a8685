-- A place of a compiled program's text.
use Rattle.std.specs.Prelude.{◌≡◌, length}
use Rattle.sect_editor.specs.{Hovering.{section_count}, declared.hover.Pointed.{Pointed}}

-- there are places of each section and of its nodes
pub record IsPointed (p : Pointed) : Type 0 where
  pub heads : length p.spans.now.heads ≡ section_count p.compiled.now
  pub sections : length p.spans.now.sections ≡ section_count p.compiled.now

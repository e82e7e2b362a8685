-- The lines that the nodes of a program come from.
use Rattle.std.specs.{Prelude.{◌≡◌, ℕ, List, map, get_or}, Option.{option_map}}
use Rattle.sect_front.specs.declared.span.Span.{Span}
use Rattle.sect_types.specs.Programs.{ProgramView}
use Rattle.sect_places.specs.{declared.position.Position.{Position}, declared.origin.Origin.{Origin}}
use Rattle.sect_places.specs.{declared.lines.NodeLine.{NodeLine}, Positions.{position}, Items.{AreItemSpans}}
use Rattle.sect_places.specs.Origins.{section_origins_of}

-- the line of an item, where items begin at these places
abbrev pub item_line : List Position → ℕ → ℕ
item_line places n = (get_or places n (record { line = 1; column = 1 })).line

-- the line of a node that comes from there
abbrev pub node_line : List Position → Origin → NodeLine
node_line places o = record { line = item_line places o.item; call = option_map (item_line places) o.call }

-- where the items of a text begin
abbrev pub beginnings : List ℕ → List Span → List Position
beginnings source spans = map (λ (s : Span). position source s.start) spans

-- these are the lines of the nodes of each section of a program, which the text spells
pub record AreNodeLines (source : List ℕ) (p : ProgramView) (lines : List (List NodeLine)) : Type 0 where
  pub spans : List Span
  pub placed : AreItemSpans source p.source spans
  pub are : lines ≡ map (map (node_line (beginnings source spans))) (section_origins_of p.source)

-- What stands for calls where a walk stands.
use Rattle.std.specs.Prelude.{ℕ, List, Option}
use Rattle.sect_places.specs.{declared.inside.Inside.{Inside}, declared.origin.Origin.{Origin}}
use Rattle.sect_places.specs.Origins.{Expansion, origins_within, sections_within}
use Rattle.sect_places.specs.steps.Ending.{EndsWithin}

-- the nodes of a call
abbrev pub expands : Inside → Expansion Origin
expands i = origins_within i.most i.procedures.now i.starts.now

-- those of its sections
abbrev pub expands_sections : Inside → Expansion (List Origin)
expands_sections i = sections_within i.most i.procedures.now i.starts.now

-- a call comes to an end
abbrev pub ends : Inside → Option ℕ → Type 0
ends i = EndsWithin i.procedures.now i.most

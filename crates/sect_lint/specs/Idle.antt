-- Hints that protect nothing.
use Rattle.std.specs.Prelude.{ℕ, ◌+◌, Bool, false, not, ◌&&◌, if◌then◌else◌, List, [], ◌∷◌, ◌++◌, is_some, nat_eq}
use Rattle.std.specs.List.{list_any}
use Rattle.sect_types.specs.declared.expansion.action.Label.{Label}
use Rattle.sect_graph.specs.declared.flow.Node.{Node}
use Rattle.sect_places.specs.{declared.name_use.NameSpan.{NameSpan}, Declarations.{is_record}}
use Rattle.sect_names.specs.Schemes.{SchemeView, guard_of}
use Rattle.sect_types.specs.declared.expansion.action.Action.TheVariants as action
use Rattle.sect_types.specs.declared.expansion.action.Label.TheVariants as label

-- a load from an object of the record, or a store to one
abbrev pub touches : ℕ → Label → Bool
touches r (label.Act (action.Load x b f)) = nat_eq f.of r
touches r (label.Act (action.Store b f v)) = nat_eq f.of r
touches r _ = false

abbrev pub node_touches : ℕ → Node → Bool
node_touches r n = touches r n.label

abbrev pub is_touched_in : ℕ → List Node → Bool
is_touched_in r nodes = list_any (node_touches r) nodes

-- some section does so
abbrev pub is_touched : SchemeView → ℕ → Bool
is_touched s r = list_any (is_touched_in r) s.graphs.sections

-- the record has a guard, and no section touches an object of it
abbrev pub is_idle : SchemeView → ℕ → Bool
is_idle s r = is_some (guard_of s.guards r) && not (is_touched s r)

abbrev pub idle_at : SchemeView → ℕ → NameSpan → List NameSpan
idle_at s r n = if is_record n.used.role && is_idle s r then n ∷ [] else []

-- how many records stand before what follows a name
abbrev pub behind : ℕ → NameSpan → ℕ
behind r n = if is_record n.used.role then r + 1 else r

-- of the names of a text those of records with such a hint, where so many records stand before the first
abbrev pub idle_from : SchemeView → ℕ → List NameSpan → List NameSpan
idle_from s r [] = []
idle_from s r (n ∷ ns) = idle_at s r n ++ idle_from s (behind r n) ns

-- Labels tell places apart.
use Rattle.std.specs.Prelude.{◌≡◌, ◌<◌, ℕ}
use Rattle.sect_emit.specs.declared.graphs.GraphOf.{GraphOf}
use Rattle.sect_c.specs.Statements.{place_c}
use Rattle.sect_emit.specs.declared.graphs.GraphOf.TheVariants as graph

-- numbers of sections and of nodes have 16 bits
abbrev pub IsNumbered : GraphOf → ℕ → Type 0
IsNumbered (graph.Thread u) n = n < 65536
IsNumbered (graph.Section i) n = (i < 65536) × (n < 65536)

-- these are one node of a thread's own statements, or of one section
abbrev pub IsOnePlace : GraphOf → ℕ → GraphOf → ℕ → Type 0
IsOnePlace (graph.Thread u) n (graph.Thread v) m = n ≡ m
IsOnePlace (graph.Thread u) n (graph.Section j) m = ⊥
IsOnePlace (graph.Section i) n (graph.Thread v) m = ⊥
IsOnePlace (graph.Section i) n (graph.Section j) m = (i ≡ j) × (n ≡ m)

-- in the text of a thread two places with one label are one
abbrev pub LabelsTellPlaces : Type 0
LabelsTellPlaces =
    (g h : GraphOf) (n m : ℕ) → IsNumbered g n → IsNumbered h m → place_c g n ≡ place_c h m → IsOnePlace g n h m

-- Places as they are handed over. The functions that print them cite it.
use Rattle.std.specs.Prelude.{ℕ, List, Option, None, IfSome, option_map, slice_index_or}
use Rattle.sect_places.specs.NodeSpans.{AreNodeSpans}
use Rattle.sect_emit.specs.Compiled.{CompiledView, program_of}
use Rattle.sect_world.specs.{declared.standing.Standing.{Standing}, Standings.{IsStandingThere}}
use Rattle.sect_draw.specs.{Places.{PlacesView}, declared.places.Places.{Places}}
use Rattle.sect_draw.specs.declared.outcomes.Faults.{Faults}

-- the places as a reader is told of them
abbrev pub places_shown : Places → PlacesView
places_shown p =
    record { source = p.source.now; spans = p.spans.now; file = option_map (λ name. name.now) p.file }

-- they are those of the nodes of the compiled program in its text
abbrev pub IsPlaced : CompiledView → Places → Type 0
IsPlaced c p = AreNodeSpans p.source.now (program_of c) p.spans.now

-- where each thread stood is in a graph of the program
abbrev pub AreThere : CompiledView → List (Option Standing) → Type 0
AreThere c ran = (t : ℕ) → IfSome (slice_index_or ran t None) (IsStandingThere c)

-- by these, faults are found
pub record AreFound (f : Faults) : Type 0 where
  pub placed : IsPlaced f.compiled.now f.places
  pub there : AreThere f.compiled.now f.ran.now

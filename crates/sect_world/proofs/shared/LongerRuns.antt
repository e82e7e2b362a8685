-- Runs that go on: events after events, and one event more.
use Rattle.std.proofs.Common.{◌++◌, List, [], ◌∷◌, refl, sym, subst}
use Rattle.sect_emit.specs.{Compiled.{CompiledView}, State.{State}}
use Rattle.sect_world.specs.{declared.event.Event.{Event}, Events.{Happens}, Runs.{RunsTo}}

-- what follows events goes on from their end
pub leads_on : (c : CompiledView) (s a b : State) (es fs : List Event) → RunsTo c s es a → RunsTo c a fs b
    → RunsTo c s (es ++ fs) b
leads_on c s a b [] fs l m = subst (λ x. RunsTo c x fs b) (sym l) m
leads_on c s a b (e ∷ es) fs l m = (l.0, l.1, leads_on c l.0 a b es fs l.2 m)

-- one event more
pub leads_more : (c : CompiledView) (s between after : State) (es : List Event) (e : Event) → RunsTo c s es between
    → Happens c between e after
    → RunsTo c s (es ++ e ∷ []) after
leads_more c s between after es e leads happens = leads_on c s between after es (e ∷ []) leads (after, happens, refl)

-- Runs that go on: events after events, and one event more.
use Rattle.std.proofs.Common.{◌≡◌, ◌++◌, ℕ, List, [], ◌∷◌, refl, sym, ap, ◌∙◌, append-nil, append_assoc}
use Rattle.sect_emit.specs.{Compiled.{CompiledView}, State.{State, start}}
use Rattle.sect_world.specs.{declared.event.Event.{Event}, Events.{Happens}, Runs.{IsRun, leaver, order_of}}
use Rattle.sect_world.proofs.shared.LongerRuns.{leads_more}

-- a run and one event more
pub run_on : (c : CompiledView) (fuel : ℕ) (trace : List Event) (s after : State) (e : Event) → IsRun c fuel trace s
    → Happens c s e after
    → IsRun c fuel (trace ++ e ∷ []) after
run_on c fuel trace s after e run happens = leads_more c (start c fuel) s after trace e run happens

-- the order of leaving grows at its end
pub order_of-append : (es fs : List Event) → order_of (es ++ fs) ≡ order_of es ++ order_of fs
order_of-append [] fs = refl
order_of-append (e ∷ es) fs =
    ap (λ l. leaver e.thread e.deed ++ l) (order_of-append es fs)
    ∙ sym (append_assoc (leaver e.thread e.deed) (order_of es) (order_of fs))

-- by the new event's
pub order_of-more : (es : List Event) (e : Event) → order_of (es ++ e ∷ []) ≡ order_of es ++ leaver e.thread e.deed
order_of-more es e = order_of-append es (e ∷ []) ∙ ap (λ l. order_of es ++ l) (append-nil (leaver e.thread e.deed))

-- What clauses see of a trace. `Trace` cites it.
use Rattle.std.specs.Prelude.{ℕ, Bool, true, false, List, count_by}
use Rattle.sect_world.specs.{declared.event.Deed.{Deed}, declared.event.Event.{Event}}
use Rattle.sect_world.specs.declared.event.Deed.TheVariants as deed

-- the events in order, and how many more there is room for at least
pub record TraceView : Type 0 where
  pub items : List Event
  pub room : ℕ

abbrev pub is_again : Deed → Bool
is_again deed.Local = false
is_again deed.Enter = false
is_again (deed.Take k m) = false
is_again deed.Begin = false
is_again deed.Again = true
is_again deed.Act = false
is_again deed.Leave = false

-- how many of these events are an `again`
abbrev pub agains_in : List Event → ℕ
agains_in es = count_by (λ (e : Event). is_again e.deed) es

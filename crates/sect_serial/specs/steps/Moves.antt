-- What one step does. `step` cites it.
use Rattle.std.specs.Prelude.{ℕ, Option, Some, None}
use Rattle.sect_types.specs.{Statements.{TextView}, declared.meaning.store.Fault.{Fault}, Store.{StoreView}}
use Rattle.sect_types.specs.Meaning.{WorkView, after_change, Next, On, Off}

-- what a step leaves: what is still to run, what the thread works with, the store, and the fault, if it came to one
pub record Stepped : Type 0 where
  pub text : TextView
  pub work : WorkView
  pub store : StoreView
  pub fault : Option Fault

abbrev pub stepped : TextView → WorkView → StoreView → Option Fault → Stepped
stepped k w s fault = record { text = k; work = w; store = s; fault = fault }

-- the next step of thread t, from these statements and this store
abbrev pub stepped_by : ℕ → TextView → StoreView → Next → Stepped
stepped_by t k s (On rest w c) = stepped rest w (after_change t s c) None
stepped_by t k s (Off why w) = stepped k w s (Some why)

-- A running text goes on by one step.
use Rattle.std.specs.Prelude.{◌≡◌, ℕ, true}
use Rattle.sect_types.specs.{Programs.{ProgramView}, Statements.{TextView}, Store.{StoreView}}
use Rattle.sect_types.specs.Meaning.{WorkView, Change, after_change, found_at, On, next, looks, begins_step}

-- the text of thread t goes on without a fault from this store and work, with this rest, to those
abbrev pub GoesOnTo : ProgramView → ℕ → TextView → StoreView → WorkView → TextView → StoreView → WorkView → Type 0
GoesOnTo p t text store w rest after v =
    (begins_step text ≡ true)
    × ((change : Change) × (next p t text (found_at store (looks text w)) w ≡ On rest v change)
    × (after ≡ after_change t store change))

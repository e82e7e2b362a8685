-- An object that is taken back. `Store::unmake` cites it.
use Rattle.std.specs.Prelude.{ℕ, ◌-◌, List, length, take}
use Rattle.sect_types.specs.Store.{StoreView}
use Rattle.sect_lemmas.specs.Lists.{changed_at}

-- the list without its last element
abbrev pub without_end : {X : Type 0} → List X → List X
without_end xs = take (length xs - 1) xs

-- the store without the object that thread t made last
abbrev pub without_last : StoreView → ℕ → StoreView
without_last s t = record { globals = s.globals; made = changed_at t without_end s.made }

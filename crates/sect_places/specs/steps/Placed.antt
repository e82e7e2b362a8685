-- Origins of nodes whose items are there.
use Rattle.std.specs.Prelude.{◌<◌, ⊤, ℕ, Option, Some, None}
use Rattle.sect_places.specs.declared.origin.Origin.{Origin}

-- none, or one of so many items
abbrev pub IsAmong : ℕ → Option ℕ → Type 0
IsAmong count None = ⊤
IsAmong count (Some n) = n < count

-- the node comes from one of so many items, and the call that it is of is one
pub record IsPlaced (count : ℕ) (o : Origin) : Type 0 where
  pub item : o.item < count
  pub call : IsAmong count o.call

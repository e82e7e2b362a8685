-- A turn whose events are counted. `counted_turn` cites it.
use Rattle.std.specs.Prelude.{◌≡◌, ℕ, length}
use Rattle.sect_world.specs.{declared.turned.Turned.{Turned}, Worlds.{WorldView, IsTurned}}

-- the turn of thread t has made so many events
pub record IsCounted (t n : ℕ) (old new : WorldView) : Type 0 where
  pub what : Turned
  pub turned : IsTurned t what old new
  pub count : n ≡ length turned.events

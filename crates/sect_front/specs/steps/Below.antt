-- Numbers below another.
use Rattle.std.specs.{Prelude.{ℕ, ◌<◌, List}, List.{All}}

abbrev pub AreBelow : ℕ → List ℕ → Type 0
AreBelow total list = All (λ n. n < total) list

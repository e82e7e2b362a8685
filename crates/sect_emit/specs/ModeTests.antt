-- What a mode allows who holds it.
use Rattle.std.specs.Prelude.{Bool, true, false, Option, Some, None}
use Rattle.sect_modes.specs.declared.mode.Mode.{Mode}
use Rattle.sect_modes.specs.declared.mode.Mode.TheVariants.{IntentionShared, IntentionExclusive, Shared}
use Rattle.sect_modes.specs.{declared.mode.Mode.TheVariants.{SharedIntentionExclusive, Exclusive}, Mode.{is_at_least}}

-- there is a mode, and it passes the test
abbrev pub passes : (Mode → Bool) → Option Mode → Bool
passes test None = false
passes test (Some m) = test m

-- S or X
abbrev pub is_reading_object : Mode → Bool
is_reading_object IntentionShared = false
is_reading_object IntentionExclusive = false
is_reading_object Shared = true
is_reading_object SharedIntentionExclusive = false
is_reading_object Exclusive = true

-- X
abbrev pub is_writing : Mode → Bool
is_writing m = is_at_least m Exclusive

-- What is still to run, in parts. `Part` and `Rest` are seen so.
use Rattle.std.specs.Prelude.{◌≡◌, ⊤, Bool, true, false, List, [], ◌∷◌, Option, Some, None}
use Rattle.sect_types.specs.{Statements.{TextView, Stop, Do, Choose, Loop, Section, joined}, Texts.{step_then}}
use Rattle.sect_types.specs.declared.expansion.text.Step.{Step}

-- the last part is run first
abbrev pub rest_of : List TextView → TextView
rest_of [] = Stop
rest_of (k ∷ ks) = joined (rest_of ks) k

abbrev pub is_stop : TextView → Bool
is_stop Stop = true
is_stop (Do a k) = false
is_stop (Choose c p q k) = false
is_stop (Loop c p k) = false
is_stop (Section i p k) = false

-- no part is empty
abbrev pub AreFull : List TextView → Type 0
AreFull [] = ⊤
AreFull (k ∷ ks) = (is_stop k ≡ false) × AreFull ks

-- what follows the first statement
abbrev pub after_first : TextView → TextView
after_first Stop = Stop
after_first (Do a k) = k
after_first (Choose c p q k) = k
after_first (Loop c p k) = k
after_first (Section i p k) = k

-- this is the first statement, or there is none
abbrev pub Begins : Option Step → TextView → Type 0
Begins None k = k ≡ Stop
Begins (Some s) k = k ≡ step_then s (after_first k)

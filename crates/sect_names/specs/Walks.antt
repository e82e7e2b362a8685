-- What is done along the control paths through a text, without the numbers of nodes, and how a running text goes on.
use Rattle.std.specs.Prelude.{◌≡◌, ℕ, zero, suc, List, [], ◌∷◌, ◌++◌, ◌⊎◌}
use Rattle.sect_lemmas.specs.Lists.{Has}
use Rattle.sect_types.specs.{Statements.{TextView, Stop, Do, Choose, Loop, Section, joined}, Traces.{Visit}}
use Rattle.sect_types.specs.{declared.expansion.action.Action.{Action}, declared.expansion.action.Condition.{Condition}}
use Rattle.sect_types.specs.declared.expansion.action.Label.{Label}
use Rattle.sect_types.specs.declared.expansion.action.Label.TheVariants.{Act, Test, Section as WholeSection}
use Rattle.sect_points.specs.{Flow.{actions_of}, Statements.{thread_action, thread_actions}}
use Rattle.sect_names.specs.Schemes.{SchemeView}

-- what the steps do
abbrev pub labels_of : List Visit → List Label
labels_of [] = []
labels_of (s ∷ steps) = s.label ∷ labels_of steps

-- so many rounds of a loop: test and body each time, and then the test
abbrev pub Turns : Condition → (List Label → Type 0) → ℕ → List Label → Type 0
Turns t IsTurn zero ls = ls ≡ Test t ∷ []
Turns t IsTurn (suc n) ls =
    (turn : List Label) × (tail : List Label) × (ls ≡ Test t ∷ (turn ++ tail)) × IsTurn turn × Turns t IsTurn n tail

-- a trace of the statements, whatever the numbers of the nodes
abbrev pub IsWalk : TextView → List Label → Type 0
IsWalk Stop ls = ls ≡ []
IsWalk (Do a rest) ls = (tail : List Label) × (ls ≡ Act a ∷ tail) × IsWalk rest tail
IsWalk (Choose t p q rest) ls =
    (side : List Label) × (tail : List Label) × (ls ≡ Test t ∷ (side ++ tail))
    × (IsWalk p side ⊎ IsWalk q side) × IsWalk rest tail
IsWalk (Loop t p rest) ls =
    (n : ℕ) × (front : List Label) × (tail : List Label) × (ls ≡ front ++ tail)
    × Turns t (IsWalk p) n front × IsWalk rest tail
IsWalk (Section i p rest) ls = (tail : List Label) × (ls ≡ WholeSection i ∷ tail) × IsWalk rest tail

-- the text does this first, and k may be what is left then: a loop whose test holds runs its body and then itself
abbrev pub Leads : TextView → Label → TextView → Type 0
Leads Stop l k = ⊥
Leads (Do a rest) l k = (l ≡ Act a) × (k ≡ rest)
Leads (Choose t p q rest) l k = (l ≡ Test t) × ((k ≡ joined p rest) ⊎ (k ≡ joined q rest))
Leads (Loop t p rest) l k = (l ≡ Test t) × ((k ≡ joined p (Loop t p rest)) ⊎ (k ≡ rest))
Leads (Section i p rest) l k = (l ≡ WholeSection i) × (k ≡ rest)

-- the statements of the text are statements of thread t of the program
abbrev pub StandsInThread : SchemeView → ℕ → TextView → Type 0
StandsInThread s t text = (a : Action) → Has (actions_of text) a → Has (thread_actions s.program) (thread_action t a)

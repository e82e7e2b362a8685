-- Sets of states, and ways that lead through them.
use Rattle.std.specs.Prelude.{◌≡◌, ◌⊎◌, ◌<◌, ◌≤◌, ℕ, Bool, true, false, List, [], ◌∷◌, Some, None, get_or, length}
use Rattle.std.specs.{List.{count_by}, Bool.{Decides}}
use Rattle.std.specs.Prelude.{nat_lt}
use Rattle.sect_endings.specs.Graphs.{GraphView, go}

-- a state is in the set of those that are marked
abbrev pub In : List Bool → ℕ → Type 0
In marks s = get_or marks s false ≡ true

-- a way that stays in the set
abbrev pub IsWay : GraphView → List Bool → ℕ → List ℕ → ℕ → Type 0
IsWay g within s [] q = In within s × (s ≡ q)
IsWay g within s (t ∷ order) q = In within s × (x : ℕ) × (go g s t ≡ Some x) × IsWay g within x order q

-- a way within a set comes to a state of another
abbrev pub Reaches : GraphView → List Bool → List Bool → ℕ → Type 0
Reaches g within goals s = (order : List ℕ) × (q : ℕ) × IsWay g within s order q × In goals q

-- the thread may not go, or leads into the set
abbrev pub IsMet : GraphView → List Bool → ℕ → ℕ → Type 0
IsMet g within t s = (go g s t ≡ None) ⊎ ((q : ℕ) × (go g s t ≡ Some q) × In within q)

-- some thread leads into the set
abbrev pub MovesInto : GraphView → List Bool → ℕ → Type 0
MovesInto g within s = (t : ℕ) × (q : ℕ) × (go g s t ≡ Some q) × In within q

-- the rank of a state; one that has none has the number of all states
abbrev pub rank_of : GraphView → List ℕ → ℕ → ℕ
rank_of g ranks s = get_or ranks s g.states

-- some thread leads to a state whose rank is less than a bound
abbrev pub LeadsBelow : GraphView → List ℕ → ℕ → ℕ → Type 0
LeadsBelow g ranks s bound = (t : ℕ) × (q : ℕ) × (go g s t ≡ Some q) × (rank_of g ranks q < bound)

-- a state in the set is a goal, or leads below a bound
pub record Joins (g : GraphView) (within goals : List Bool) (ranks : List ℕ) (s bound : ℕ) : Type 0 where
  pub inside : In within s
  pub leads : In goals s ⊎ LeadsBelow g ranks s bound

-- ranks below a bound, as many as it says: each is that of a state that is a goal, or leads to a lower rank
pub record AreRanks (g : GraphView) (within goals : List Bool) (ranks : List ℕ) (bound : ℕ) : Type 0 where
  pub size : length ranks ≡ g.states
  pub count : count_by (λ r. nat_lt r g.states) ranks ≡ bound
  pub below : (s : ℕ) → rank_of g ranks s < g.states → rank_of g ranks s < bound
  pub joins : (s : ℕ) → rank_of g ranks s < g.states → Joins g within goals ranks s (rank_of g ranks s)

-- a state without a rank joins those that have one
abbrev pub JoinsNow : GraphView → List Bool → List Bool → List ℕ → ℕ → Type 0
JoinsNow g within goals ranks s =
    (g.states ≤ rank_of g ranks s) × Joins g within goals ranks s g.states

-- none does
abbrev pub AreAllRanks : GraphView → List Bool → List Bool → List ℕ → Type 0
AreAllRanks g within goals ranks = (s : ℕ) → s < g.states → JoinsNow g within goals ranks s → ⊥

-- the marks of the states below a number are those of what is so
pub record AreMarks (n : ℕ) (marks : List Bool) (IsSo : ℕ → Type 0) : Type 0 where
  pub size : length marks ≡ n
  pub is : (s : ℕ) → s < n → Decides (get_or marks s false) (IsSo s)

-- how many states are in the set
abbrev pub count_in : List Bool → ℕ
count_in marks = count_by (λ b. b) marks

-- the states of the set without a rank have been taken out, so many first ones at least: whether there were any
pub record AreKept (g : GraphView) (ranks : List ℕ) (old new : List Bool) (n : ℕ) (changed : Bool) : Type 0 where
  pub size : length new ≡ length old
  pub kept : (s : ℕ) → s < n → In old s → rank_of g ranks s < g.states → In new s
  pub ranked : (s : ℕ) → s < n → In new s → rank_of g ranks s < g.states
  pub among : (s : ℕ) → In new s → In old s
  pub others : (s : ℕ) → n ≤ s → get_or new s false ≡ get_or old s false
  pub fewer : changed ≡ true → count_in new < count_in old
  pub same : changed ≡ false → new ≡ old

-- the states of the set from which a way within it comes to a goal are left: whether they are fewer
pub record IsNarrowed (g : GraphView) (goals old new : List Bool) (changed : Bool) : Type 0 where
  pub size : length new ≡ length old
  pub kept : (s : ℕ) → s < g.states → Reaches g old goals s → In new s
  pub reach : (s : ℕ) → s < g.states → In new s → Reaches g old goals s
  pub among : (s : ℕ) → In new s → In old s
  pub fewer : changed ≡ true → count_in new < count_in old
  pub same : changed ≡ false → new ≡ old

-- What is declared and never used.
use Rattle.std.specs.{Prelude.{◌≡◌, ◌↔◌, ℕ, Bool, true, List, [], ◌∷◌, Option, Some, None, filter}, List.{flat_map}}
use Rattle.sect_lemmas.specs.Lists.{Has}
use Rattle.sect_places.specs.{declared.name_use.NameSpan.{NameSpan}, declared.name_use.Thing.{Thing}}
use Rattle.sect_places.specs.declared.name_use.Role.{Role}
use Rattle.sect_lint.specs.declared.unused.Referent.{Referent}
use Rattle.sect_places.specs.declared.name_use.Thing.TheVariants as thing
use Rattle.sect_places.specs.declared.name_use.Role.TheVariants as role
use Rattle.sect_lint.specs.declared.unused.Referent.TheVariants as referent

-- what a name of that role may refer to, in the declaration that is this item: a variable is a local or a global
abbrev pub mentioned_by : ℕ → List ℕ → Role → List Referent
mentioned_by scope x role.Type = referent.Record x ∷ []
mentioned_by scope x role.Guard = referent.Global x ∷ []
mentioned_by scope x role.Target = referent.Local scope x ∷ referent.Global x ∷ []
mentioned_by scope x role.Base = referent.Local scope x ∷ referent.Global x ∷ []
mentioned_by scope x (role.Operand i) = referent.Local scope x ∷ referent.Global x ∷ []
mentioned_by scope x role.Procedure = referent.Procedure x ∷ []
mentioned_by scope x role.Field = []
mentioned_by scope x (role.Declared what) = []

abbrev pub mentions : NameSpan → List Referent
mentions n = mentioned_by n.used.scope n.used.name n.used.role

-- what is declared, but for fields and threads
abbrev pub declared_by : ℕ → List ℕ → Thing → Option Referent
declared_by scope x thing.Record = Some (referent.Record x)
declared_by scope x thing.Field = None
declared_by scope x thing.Global = Some (referent.Global x)
declared_by scope x thing.Procedure = Some (referent.Procedure x)
declared_by scope x thing.Thread = None
declared_by scope x thing.Local = Some (referent.Local scope x)

abbrev pub referent_by : ℕ → List ℕ → Role → Option Referent
referent_by scope x (role.Declared what) = declared_by scope x what
referent_by scope x _ = None

abbrev pub referent_of : NameSpan → Option Referent
referent_of n = referent_by n.used.scope n.used.name n.used.role

-- it is declared, and nothing among these
abbrev pub IsNotAmong : List Referent → Option Referent → Type 0
IsNotAmong rs None = ⊥
IsNotAmong rs (Some r) = Has rs r → ⊥

-- it is declared, and no name of the text refers to it
abbrev pub IsUnused : List NameSpan → NameSpan → Type 0
IsUnused names n = IsNotAmong (flat_map mentions names) (referent_of n)

-- these are the names that are declared and never used, in text order
abbrev pub AreUnused : List NameSpan → List NameSpan → Type 0
AreUnused names list =
    (test : NameSpan → Bool) × ((n : NameSpan) → (test n ≡ true) ↔ IsUnused names n) × (list ≡ filter test names)

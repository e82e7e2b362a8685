-- TextView in rows, by what they read.
use Rattle.std.specs.Prelude.{◌≡◌, ◌⊎◌, ℕ, ◌+◌, ◌*◌, ◌%◌, List, [], ◌∷◌, ◌++◌, length, slice_index_or}
use Rattle.sect_lemmas.specs.Lists.{Has}
use Rattle.sect_types.specs.{declared.expansion.action.Value.{Value}, declared.expansion.action.Base.{Base}}
use Rattle.sect_types.specs.declared.expansion.action.Action.{Action}
use Rattle.sect_types.specs.declared.declarations.limits.TheConstants.{MOST_FIELDS, MOST_LOCALS}
use Rattle.sect_points.specs.declared.holders.Growth.{Growth}
use Rattle.sect_points.specs.declared.holders.ThreadAction.{ThreadAction}
use Rattle.sect_types.specs.declared.expansion.action.Value.TheVariants as value
use Rattle.sect_types.specs.declared.expansion.action.Base.TheVariants as base
use Rattle.sect_types.specs.declared.expansion.action.Action.TheVariants as action
use Rattle.sect_points.specs.declared.holders.Growth.TheVariants as growth

-- where there are n rows for the locals: the row of a local, and behind those the rows of the fields
abbrev pub local_row_of : ℕ → ℕ → ℕ → ℕ
local_row_of n t x = (t * MOST_LOCALS + x) % n

abbrev pub field_row_of : ℕ → ℕ → ℕ
field_row_of n f = n + f % MOST_FIELDS

-- the row of what grew
abbrev pub row_of : ℕ → Growth → ℕ
row_of n (growth.Local t x) = local_row_of n t x
row_of n (growth.Field f) = field_row_of n f

abbrev pub value_rows : ℕ → ℕ → Value → List ℕ
value_rows n t (value.Local x) = local_row_of n t x ∷ []
value_rows n t (value.Global g) = []
value_rows n t value.Null = []
value_rows n t (value.Number m) = []

abbrev pub base_rows : ℕ → ℕ → Base → List ℕ
base_rows n t (base.Local x) = local_row_of n t x ∷ []
base_rows n t (base.Global g) = []

-- the rows of what a statement reads
abbrev pub rows_read : ℕ → ℕ → Action → List ℕ
rows_read n t (action.Assign x v) = value_rows n t v
rows_read n t (action.Compute x v o w) = []
rows_read n t (action.New x r i) = []
rows_read n t (action.Load x b f) = base_rows n t b ++ field_row_of n f.number ∷ []
rows_read n t (action.Store b f v) = base_rows n t b ++ value_rows n t v
rows_read n t (action.Print v) = []

abbrev pub row_at : List (List ThreadAction) → ℕ → List ThreadAction
row_at rows r = slice_index_or rows r []

-- each statement stands in the rows of what it reads, and nothing else stands in a row
pub record AreFiled (n : ℕ) (all : List ThreadAction) (rows : List (List ThreadAction)) : Type 0 where
  pub long : length rows ≡ n + MOST_FIELDS
  pub each : (p : ThreadAction) → Has all p → (r : ℕ) → Has (rows_read n p.thread p.action) r → Has (row_at rows r) p
  pub only : (r : ℕ) (p : ThreadAction) → Has (row_at rows r) p → Has all p

-- a statement has come into these rows
pub record IsPut (old new : List (List ThreadAction)) (into : List ℕ) (p : ThreadAction) : Type 0 where
  pub long : length new ≡ length old
  pub there : (r : ℕ) → Has into r → Has (row_at new r) p
  pub keeps : (r : ℕ) (q : ThreadAction) → Has (row_at old r) q → Has (row_at new r) q
  pub only : (r : ℕ) (q : ThreadAction) → Has (row_at new r) q → Has (row_at old r) q ⊎ (p ≡ q)

-- a statement that stands in a row stands in the rows of all that it reads
abbrev pub AreWhole : ℕ → List (List ThreadAction) → Type 0
AreWhole n rows = (r : ℕ) (p : ThreadAction) → Has (row_at rows r) p
    → (s : ℕ) → Has (rows_read n p.thread p.action) s → Has (row_at rows s) p

-- rows in which nothing stands
pub record AreNoRows (count : ℕ) (rows : List (List ThreadAction)) : Type 0 where
  pub long : length rows ≡ count
  pub none : (r : ℕ) (p : ThreadAction) → Has (row_at rows r) p → ⊥

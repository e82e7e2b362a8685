-- Lists that lie in rows: the first numbers of a row. The type that keeps the numbers of each node cites it.
use Rattle.std.specs.Prelude.{◌≡◌, ◌<◌, ◌≤◌, ◌⊎◌, ◌++◌, ◌∷◌, [], ℕ, List, map, take, length, slice_index_or}
use Rattle.std.specs.{declared.vec.Vec.{Vec}, Global.{Global}}
use Rattle.sect_lemmas.specs.Lists.{Has}
use Rattle.sect_infer.specs.declared.lists.Front.{Front}

-- the numbers of rows
abbrev pub rows_of : Vec (Vec ℕ Global) Global → List (List ℕ)
rows_of rows = map (λ v. v.items) rows.items

-- the numbers of a front
abbrev pub front_of : List (List ℕ) → Front → List ℕ
front_of rows f = take f.count (slice_index_or rows f.row [])

-- and those of each
abbrev pub fronts_of : List (List ℕ) → List Front → List (List ℕ)
fronts_of rows fronts = map (front_of rows) fronts

-- the row is there, and has so many numbers
pub record IsFront (rows : List (List ℕ)) (f : Front) : Type 0 where
  pub row : f.row < length rows
  pub count : f.count ≤ length (slice_index_or rows f.row [])

abbrev pub AreFronts : List (List ℕ) → List Front → Type 0
AreFronts rows fronts = (f : Front) → Has fronts f → IsFront rows f

-- the rows are as they were, but for one more at most, which has these numbers
abbrev pub HasOneMore : List (List ℕ) → List (List ℕ) → List ℕ → Type 0
HasOneMore old new row = (new ≡ old) ⊎ (new ≡ old ++ row ∷ [])

-- so many fronts of the first row, without numbers
pub record AreEmpty (n : ℕ) (fronts : List Front) : Type 0 where
  pub count : length fronts ≡ n
  pub each : (f : Front) → Has fronts f → f ≡ record { row = 0; count = 0 }

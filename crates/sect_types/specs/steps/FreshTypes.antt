-- The types of fresh locals.
use Rattle.std.specs.Prelude.{ℕ, Bool, true, ◌&&◌, List, [], ◌∷◌, ◌++◌, map}
use Rattle.sect_front.specs.declared.tree.Thread.{Thread}
use Rattle.sect_types.specs.{declared.declarations.types.ValueType.{ValueType}, declared.expansion.expand.Fresh.{Fresh}}
use Rattle.sect_types.specs.{Rules.{knows_kind}, Environments.{type_of, types_of}}

abbrev pub fresh_types : List (List ℕ) → List Fresh → List ValueType
fresh_types records fs = map (λ (f : Fresh). type_of records f.declared.kind) fs

-- those of each thread, the fresh ones after its own
abbrev pub local_types : List (List ℕ) → List Thread → List (List Fresh) → List (List ValueType)
local_types records [] fss = []
local_types records (h ∷ hs) [] = types_of records h.locals ∷ local_types records hs []
local_types records (h ∷ hs) (fs ∷ fss) =
    (types_of records h.locals ++ fresh_types records fs) ∷ local_types records hs fss

-- all types of fresh locals are known
abbrev pub fresh_known : List (List ℕ) → List Fresh → Bool
fresh_known records [] = true
fresh_known records (f ∷ fs) = knows_kind records f.declared.kind && fresh_known records fs

abbrev pub all_fresh_known : List (List ℕ) → List (List Fresh) → Bool
all_fresh_known records [] = true
all_fresh_known records (fs ∷ fss) = fresh_known records fs && all_fresh_known records fss

-- Locks as they are printed.
use Rattle.std.specs.{Prelude.{ℕ, ⊤, List, [], ◌∷◌, ◌++◌, None, slice_index_or, codes}, List.{flat_map}, Fmt.{decimal}}
use Rattle.sect_front.specs.TreeView.{TreeView}
use Rattle.sect_lemmas.specs.Lists.{Has}
use Rattle.sect_types.specs.{Programs.{ProgramView}, Sight.{names_of_globals, all_fields}}
use Rattle.sect_types.specs.declared.expansion.action.Field.{Field}
use Rattle.sect_types.specs.declared.declarations.local_name.LocalName.{LocalName}
use Rattle.sect_types.specs.LocalNames.{local_text, all_local_names}
use Rattle.sect_points.specs.declared.holders.Variable.{Variable}
use Rattle.sect_points.specs.declared.holders.Variable.TheVariants.{Global, Local}
use Rattle.sect_points.specs.Paths.{PathView, base_of, fields_of}
use Rattle.sect_names.specs.{declared.lock.Effect.{Effect}, declared.lock.Right.{Right}, declared.lock.Lock.{Lock}}
use Rattle.sect_names.specs.Locks.{IsPathOf}
use Rattle.sect_names.specs.declared.lock.Effect.TheVariants as effect
use Rattle.sect_names.specs.declared.lock.Right.TheVariants as right
use Rattle.sect_names.specs.declared.lock.Lock.TheVariants as lock

-- what the lock names is there
abbrev pub IsNamed : ProgramView → Lock → Type 0
IsNamed p lock.All = ⊤
IsNamed p (lock.Class c r) = ⊤
IsNamed p (lock.Path q e) = IsPathOf p q

abbrev pub AreNamed : ProgramView → List Lock → Type 0
AreNamed p locks = (l : Lock) → Has locks l → IsNamed p l

abbrev pub global_name : TreeView → ℕ → List ℕ
global_name t g = slice_index_or (names_of_globals t.globals) g []

-- what isn't there has no letters
abbrev pub local_at : TreeView → ℕ → ℕ → LocalName
local_at t u x = slice_index_or (slice_index_or (all_local_names t) u []) x (record { name = []; call = None })

-- a variable is called by its name alone, whatever its thread
abbrev pub variable_text : TreeView → Variable → List ℕ
variable_text t (Global g) = global_name t g
variable_text t (Local u x) = local_text (local_at t u x)

abbrev pub field_name : TreeView → Field → List ℕ
field_name t f = slice_index_or (slice_index_or (all_fields t.records) f.of []) f.number []

-- the variable, then a point and the name of each field
abbrev pub path_text : TreeView → PathView → List ℕ
path_text t p = variable_text t (base_of p) ++ flat_map (λ f. codes "." ++ field_name t f) (fields_of p)

abbrev pub effect_text : Effect → List ℕ
effect_text effect.Read = codes "R"
effect_text effect.Write = codes "W"

abbrev pub right_text : Right → List ℕ
right_text right.Read = codes "R"
right_text right.Write = codes "W"
right_text right.Make = codes "M"

abbrev pub lock_text : TreeView → Lock → List ℕ
lock_text t lock.All = codes "W all"
lock_text t (lock.Class c r) = right_text r ++ codes " class " ++ decimal c
lock_text t (lock.Path p e) = effect_text e ++ codes " " ++ path_text t p

-- the texts of the locks with a comma and a blank between them, or `none`
abbrev pub locks_text : TreeView → List Lock → List ℕ
locks_text t [] = codes "none"
locks_text t (l ∷ locks) = lock_text t l ++ flat_map (λ m. codes ", " ++ lock_text t m) locks

-- What locals are called.
use Rattle.std.specs.Prelude.{ℕ, Bool, true, false, ◌&&◌, List, [], ◌++◌, map, Option, Some, None, nat_eq, codes}
use Rattle.std.specs.{Prelude.{position}, Fmt.{decimal}, Cmp.Lexicographic.{pointwise}}
use Rattle.sect_front.specs.{TreeView.{TreeView}, declared.tree.Thread.{Thread}}
use Rattle.sect_front.specs.declared.tree.Declaration.{Declaration}
use Rattle.sect_types.specs.declared.declarations.local_name.LocalName.{LocalName}
use Rattle.sect_types.specs.{declared.expansion.expand.Fresh.{Fresh}, Expanded.{fresh_in}}

abbrev pub call_text : Option ℕ → List ℕ
call_text None = []
call_text (Some c) = codes "#" ++ decimal c

-- the name, and of a local of a call `#` and the number of the call
abbrev pub local_text : LocalName → List ℕ
local_text l = l.name ++ call_text l.call

-- the locals that the thread declares, then those of its calls
abbrev pub local_names_of : TreeView → Thread → List LocalName
local_names_of t h =
    map (λ (d : Declaration). record { name = d.name; call = None }) h.locals
    ++ map (λ (f : Fresh). record { name = f.declared.name; call = Some f.call }) (fresh_in t h)

-- what the locals of each thread are called
abbrev pub all_local_names : TreeView → List (List LocalName)
all_local_names t = map (local_names_of t) t.threads

abbrev pub is_same_call : Option ℕ → Option ℕ → Bool
is_same_call None None = true
is_same_call (Some c) (Some d) = nat_eq c d
is_same_call _ _ = false

abbrev pub is_same_local : LocalName → LocalName → Bool
is_same_local k l = is_same_call k.call l.call && pointwise nat_eq k.name l.name

-- the number of the local that is called so
abbrev pub place_of_local : LocalName → List LocalName → Option ℕ
place_of_local k names = position (is_same_local k) names

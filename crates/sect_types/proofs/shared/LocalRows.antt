-- A thread has as many names of locals as locals.
use Rattle.std.proofs.Common.{◌≡◌, ℕ, zero, suc, List, [], ◌∷◌, map, Some, None, refl, sym, ap, ◌∙◌, length, arith}
use Rattle.std.proofs.lemmas.List.{length-map, length-append}
use Rattle.std.specs.Prelude.{slice_index_or}
use Rattle.sect_front.specs.{TreeView.{TreeView}, declared.tree.Thread.{Thread}}
use Rattle.sect_front.specs.declared.tree.Declaration.{Declaration}
use Rattle.sect_types.specs.declared.declarations.types.ValueType.{ValueType}
use Rattle.sect_types.specs.declared.declarations.local_name.LocalName.{LocalName}
use Rattle.sect_types.specs.{declared.expansion.expand.Fresh.{Fresh}, Sight.{names_of_records}}
use Rattle.sect_types.specs.{Environments.{type_of, types_of}, Expanded.{fresh_in, local_types_of}}
use Rattle.sect_types.specs.{LocalNames.{local_names_of, all_local_names}, Programs.{ProgramView, IsOfTree}}

-- what a declared local is called
abbrev pub own_name : Declaration → LocalName
own_name d = record { name = d.name; call = None }

-- what a local of a call is called
abbrev pub fresh_name : Fresh → LocalName
fresh_name f = record { name = f.declared.name; call = Some f.call }

-- rows of two tables that are made from the same, and are as long for each
as_long : {X Y Z : Type 0} (f : X → List Y) (g : X → List Z) → ((x : X) → length (f x) ≡ length (g x))
    → (xs : List X) (i : ℕ) → length (slice_index_or (map f xs) i []) ≡ length (slice_index_or (map g xs) i [])
as_long f g same [] i = refl
as_long f g same (x ∷ xs) zero = same x
as_long f g same (x ∷ xs) (suc i) = as_long f g same xs i

as_many_of : (t : TreeView) (h : Thread) → length (local_names_of t h) ≡ length (local_types_of t h)
as_many_of t h =
    let records = names_of_records t.records in
    let kind : Declaration → ValueType = λ d. type_of records d.kind in
    let fresh_kind : Fresh → ValueType = λ f. type_of records f.declared.kind in
    let fs = fresh_in t h in
    omega (
      arith,
      length-append (map own_name h.locals) (map fresh_name fs),
      length-append (types_of records h.locals) (map fresh_kind fs),
      length-map h.locals own_name,
      length-map h.locals kind,
      length-map fs fresh_name,
      length-map fs fresh_kind,
    )

-- a thread has as many local names as local types
pub as_many_names : (p : ProgramView) → IsOfTree p → (t : ℕ)
    → length (slice_index_or (all_local_names p.source) t []) ≡ length (slice_index_or p.locals t [])
as_many_names p tree t =
    as_long (local_names_of p.source) (local_types_of p.source) (as_many_of p.source) p.source.threads t
    ∙ ap (λ ls. length (slice_index_or ls t [])) (sym tree.locals_are)

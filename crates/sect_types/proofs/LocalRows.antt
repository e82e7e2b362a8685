-- The names of the locals of a thread, as rows of a table.
use Rattle.std.proofs.Common.{◌≡◌, ◌≤◌, ◌<◌, ◌-◌, ◌⊎◌, inl, inr, ℕ, zero, suc, ◌+◌, List, [], ◌∷◌, ◌++◌, map, Some, sym}
use Rattle.std.proofs.{Common.{ap, ◌∙◌, subst, length, get_or, arith}, lemmas.Bool.{cases_lt}}
use Rattle.std.proofs.lemmas.List.{get_or-map, get_or_past, length-map, length-append}
use Rattle.std.proofs.lemmas.Option.{slice_get-map, slice_get-get_or}
use Rattle.std.specs.{Prelude.{slice_get, slice_index_or}, Option.{option_map}}
use Rattle.sect_lemmas.proofs.Elements.{slice_get-left, slice_get-right}
use Rattle.sect_front.specs.{TreeView.{TreeView}, declared.tree.Thread.{Thread}}
use Rattle.sect_front.specs.declared.tree.Declaration.{Declaration}
use Rattle.sect_types.specs.{declared.expansion.expand.Fresh.{Fresh}, Expanded.{fresh_in}}
use Rattle.sect_types.specs.{LocalNames.{local_names_of, all_local_names}, Programs.{ProgramView, IsOfTree}}
use Rattle.sect_types.proofs.shared.LocalRows.{own_name, fresh_name, as_many_names}

-- what stands in two lists stands in one of them
pub which : {A : Type 0} (xs ys : List A) (i : ℕ) (x : A) → slice_get (xs ++ ys) i ≡ Some x
    → (slice_get xs i ≡ Some x) ⊎ ((j : ℕ) × (i ≡ length xs + j) × (slice_get ys j ≡ Some x))
which [] ys i x e = inr (i, omega arith, e)
which (y ∷ xs) ys zero x e = inl e
which (y ∷ xs) ys (suc i) x e = elim (which xs ys i x e) [
  | inl h ↦ inl h
  | inr h ↦ inr (h.0, omega (arith, h.1), h.2)
]

-- a row in which something stands is there
in_rows : {X : Type 0} (rows : List (List X)) (u n : ℕ) → n < length (slice_index_or rows u []) → u < length rows
in_rows rows u n within = elim (cases_lt u (length rows)) [
  | inl a ↦ a
  | inr past ↦ absurd (let no = ap length (get_or_past rows u [] past) in omega (arith, within, no))
]

-- the row of a thread
row_is : (t : TreeView) (u : ℕ) (th : Thread) → u < length t.threads → th ≡ get_or t.threads u th
    → slice_index_or (all_local_names t) u [] ≡ local_names_of t th
row_is t u th within is =
    get_or-map (local_names_of t) t.threads u th [] within ∙ ap (local_names_of t) (sym is)

-- what stands there, mapped
there : {X Y : Type 0} (f : X → Y) (xs : List X) (n : ℕ) (x : X) → n < length xs → x ≡ get_or xs n x
    → slice_get (map f xs) n ≡ Some (f x)
there f xs n x within is =
    slice_get-map f xs n ∙ ap (option_map f) (slice_get-get_or xs n x within ∙ ap Some (sym is))

-- where a program has a local, its thread's row has a name
pub has_name_there : (p q : ProgramView) → p ≡ q → IsOfTree p → (u n : ℕ) → n < length (slice_index_or q.locals u [])
    → n < length (slice_index_or (all_local_names p.source) u [])
has_name_there p q same tree u n few =
    omega (arith, few, ap (λ (z : ProgramView). length (slice_index_or z.locals u [])) same, as_many_names p tree u)

-- and there is its thread
thread_there : (t : TreeView) (u n : ℕ) → n < length (slice_index_or (all_local_names t) u []) → u < length t.threads
thread_there t u n few =
    omega (arith, in_rows (all_local_names t) u n few, length-map t.threads (local_names_of t))

-- a declared local has its number's name
pub own_here : (t : TreeView) (u n : ℕ) (th : Thread) (d : Declaration)
    → n < length (slice_index_or (all_local_names t) u []) → th ≡ get_or t.threads u th → n < length th.locals
    → d ≡ get_or th.locals n d → slice_get (slice_index_or (all_local_names t) u []) n ≡ Some (own_name d)
own_here t u n th d few is own at =
    ap (λ l. slice_get l n) (row_is t u th (thread_there t u n few) is)
    ∙ slice_get-left (map own_name th.locals) (map fresh_name (fresh_in t th)) n (own_name d)
    (there own_name th.locals n d own at)

-- so has a local of a call, after those
fresh_after : (t : TreeView) (u n : ℕ) (th : Thread) (f : Fresh) → n < length (slice_index_or (all_local_names t) u [])
    → th ≡ get_or t.threads u th → length th.locals ≤ n → f ≡ get_or (fresh_in t th) (n - length th.locals) f
    → slice_get (slice_index_or (all_local_names t) u []) n ≡ Some (fresh_name f)
fresh_after t u n th f few is past at =
    let owns = map own_name th.locals in
    let fs = fresh_in t th in
    let row = row_is t u th (thread_there t u n few) is in
    let place = n - length th.locals in
    let within : place < length fs =
    omega (
      arith,
      past,
      few,
      ap length row,
      length-append owns (map fresh_name fs),
      length-map th.locals own_name,
      length-map fs fresh_name,
    ) in
    let number : length owns + place ≡ n = omega (arith, past, length-map th.locals own_name) in
    ap (λ l. slice_get l n) row
    ∙ subst (λ k. slice_get (owns ++ map fresh_name fs) k ≡ Some (fresh_name f)) number
    (slice_get-right owns (map fresh_name fs) place (fresh_name f) (there fresh_name fs place f within at))

-- where these are the fresh locals of all threads
pub fresh_here : (t : TreeView) (u n : ℕ) (th : Thread) (all : List (List Fresh)) (fs : List Fresh) (f : Fresh)
    → n < length (slice_index_or (all_local_names t) u []) → all ≡ map (fresh_in t) t.threads
    → th ≡ get_or t.threads u th → fs ≡ get_or all u fs → length th.locals ≤ n
    → f ≡ get_or fs (n - length th.locals) f
    → slice_get (slice_index_or (all_local_names t) u []) n ≡ Some (fresh_name f)
fresh_here t u n th all fs f few are is row past at =
    let fresh : fs ≡ fresh_in t th =
    row ∙ ap (λ l. get_or l u fs) are ∙ get_or-map (fresh_in t) t.threads u th fs (thread_there t u n few)
    ∙ ap (fresh_in t) (sym is) in
    fresh_after t u n th f few is past (at ∙ ap (λ l. get_or l (n - length th.locals) f) fresh)

-- What locals are called, and which is called so.
use Rattle.std.proofs.Common.{◌≡◌, ℕ, ◌<◌, List, [], Option, Some, None, refl, sym, ap, ◌∙◌, Bool, true, false, length}
use Rattle.std.proofs.{Common.{get_or, arith}, lemmas.List.Quantifiers.{position-Some}}
use Rattle.std.proofs.{lemmas.Slice.Eq.{bytes_eq-Decides, slice_eq-Decides}, lemmas.Bool.Decides.{Decides-eqb}}
use Rattle.std.proofs.lemmas.Option.{slice_get-get_or, slice_get_within, get_or_from_slice_get}
use Rattle.std.specs.{Prelude.{slice_get, slice_index_or, ◌&&◌}, Option.{option_map}, Str.{bytes_eq}}
use Rattle.sect_front.specs.TreeView.{TreeView}
use Rattle.sect_types.specs.{First.{IsTyped}, Sight.{same_name, place, names_of_globals}}
use Rattle.sect_types.specs.{Programs.{ProgramView, IsOfTree}, declared.declarations.types.ValueType.{ValueType}}
use Rattle.sect_types.specs.declared.declarations.local_name.LocalName.{LocalName}
use Rattle.sect_types.specs.LocalNames.{all_local_names, place_of_local, is_same_local, is_same_call}
use Rattle.sect_types.proofs.shared.{SoundLemmas.{same_names}, LocalRows.{as_many_names}}
use Rattle.sect_types.proofs.shared.LocalFacts.{locals_differ, no_global}
use Rattle.sect_points.specs.declared.holders.Variable.{Variable}
use Rattle.sect_points.specs.declared.holders.Variable.TheVariants.{Global, Local}
use Rattle.sect_check.specs.Names.{local_named, global_named, or_variable, variable_named}
use Rattle.sect_lemmas.proofs.Positions.{first_position, no_position}

-- what stands past the end
abbrev pub unnamed : LocalName
unnamed = record { name = []; call = None }

-- none before this one is called so
abbrev pub NoneCalled : LocalName → List LocalName → ℕ → Type 0
NoneCalled l names i = (k : ℕ) → k < i → is_same_local l (get_or names k unnamed) ≡ false

-- a local is called as itself
same_call : (c : Option ℕ) → is_same_call c c ≡ true
same_call None = refl
same_call (Some c) = (Decides-eqb c c).1 refl

same_itself : (l : LocalName) → is_same_local l l ≡ true
same_itself l =
    ap (λ b. b && same_name l.name l.name) (same_call l.call)
    ∙ (slice_eq-Decides Decides-eqb l.name l.name (same_name l.name l.name) refl).1 refl

-- what is called by a name alone is of no call
by_name : (x y : List ℕ) (c : Option ℕ)
    → is_same_local (record { name = x; call = None }) (record { name = y; call = c }) ≡ true → (c ≡ None) × (x ≡ y)
by_name x y None e = (refl, same_names x y e)
by_name x y (Some c) e = absurd cc

-- a local that has a type has a name
pub local_has_name : (p : ProgramView) → IsOfTree p → (t x : ℕ) (v : ValueType)
    → slice_get (slice_index_or p.locals t []) x ≡ Some v
    → (l : LocalName) × (slice_get (slice_index_or (all_local_names p.source) t []) x ≡ Some l)
local_has_name p tree t x v e =
    let names = slice_index_or (all_local_names p.source) t [] in
    let within = slice_get_within (slice_index_or p.locals t []) x v e in
    (get_or names x unnamed, slice_get-get_or names x unnamed (omega (arith, within, as_many_names p tree t)))

-- as many as there are types in its thread's row
pub counted : (p : ProgramView) → IsOfTree p → (t : ℕ) (row : List ValueType) → t < length p.locals
    → row ≡ get_or p.locals t row → length (slice_index_or (all_local_names p.source) t []) ≡ length row
counted p tree t row within is =
    as_many_names p tree t
    ∙ ap length (get_or_from_slice_get p.locals t (get_or p.locals t row) [] (slice_get-get_or p.locals t row within))
    ∙ ap length (sym is)

-- a local is found by what it is called
pub own_place_of_local : (t : TreeView) → IsTyped t → (u x : ℕ) (l : LocalName)
    → slice_get (slice_index_or (all_local_names t) u []) x ≡ Some l
    → place_of_local l (slice_index_or (all_local_names t) u []) ≡ Some x
own_place_of_local t typed u x l e =
    let names = slice_index_or (all_local_names t) u [] in
    let within = slice_get_within names x l e in
    let here : get_or names x unnamed ≡ l = get_or_from_slice_get names x l unnamed e in
    first_position (is_same_local l) names unnamed x within
    (λ k lt. apart k lt (omega (arith, lt, within)) (is_same_local l (get_or names k unnamed)) refl)
    (ap (is_same_local l) here ∙ same_itself l)
  where
    apart : (k : ℕ) → k < x → k < length (slice_index_or (all_local_names t) u [])
        → (b : Bool) → is_same_local l (get_or (slice_index_or (all_local_names t) u []) k unnamed) ≡ b → b ≡ false
    apart k lt within false same = refl
    apart k lt within true same =
        let names = slice_index_or (all_local_names t) u [] in
        let at = slice_get-get_or names k unnamed within in
        let one = locals_differ t typed u x k l (get_or names k unnamed) e at same in
        absurd (omega (arith, lt, one))

-- no local that is called by a name alone has the name of a global
pub no_local_of_global : (t : TreeView) → IsTyped t → (u g : ℕ) (name : List ℕ)
    → slice_get (names_of_globals t.globals) g ≡ Some name
    → place_of_local (record { name = name; call = None }) (slice_index_or (all_local_names t) u []) ≡ None
no_local_of_global t typed u g name at =
    no_position (is_same_local (record { name = name; call = None })) (slice_index_or (all_local_names t) u []) unnamed
    (λ k lt. apart k lt
    (is_same_local (record { name = name; call = None }) (get_or (slice_index_or (all_local_names t) u []) k unnamed))
    refl)
  where
    apart : (k : ℕ) → k < length (slice_index_or (all_local_names t) u []) → (b : Bool)
        → is_same_local (record { name = name; call = None })
        (get_or (slice_index_or (all_local_names t) u []) k unnamed) ≡ b
        → b ≡ false
    apart k lt false same = refl
    apart k lt true same =
        let names = slice_index_or (all_local_names t) u [] in
        let l = get_or names k unnamed in
        let alike = by_name name l.name l.call same in
        absurd (no_global t typed u k g l (slice_get-get_or names k unnamed lt) alike.0
        (at ∙ ap (λ z. Some z) alike.1))

-- a global of this name is what the name stands for
pub global_found : (t : TreeView) → IsTyped t → (u g : ℕ) (x : List ℕ) → place x (names_of_globals t.globals) ≡ Some g
    → variable_named t u x ≡ Some (Global g)
global_found t typed u g x found =
    let names = names_of_globals t.globals in
    let at = position-Some (bytes_eq x) names g [] found in
    let there : slice_get names g ≡ Some x =
    slice_get-get_or names g [] at.0 ∙ ap (λ n. Some n) (sym ((bytes_eq-Decides x (get_or names g [])).0 at.1)) in
    ap (λ o. or_variable (option_map (λ i. Local u i) o) (global_named t x)) (no_local_of_global t typed u g x there)
    ∙ ap (option_map (λ n. Global n)) found

-- where no global has the name, it stands for a local
pub no_global_found : (t : TreeView) (u : ℕ) (x : List ℕ) → place x (names_of_globals t.globals) ≡ None
    → variable_named t u x ≡ local_named t u (record { name = x; call = None })
no_global_found t u x none =
    ap (λ o. or_variable (local_named t u (record { name = x; call = None })) (option_map (λ n. Global n) o)) none
    ∙ either (local_named t u (record { name = x; call = None }))
  where
    either : (o : Option Variable) → or_variable o None ≡ o
    either None = refl
    either (Some v) = refl

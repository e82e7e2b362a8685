-- Places of names, and how many fields a record has.
use Rattle.std.proofs.Common.{◌≡◌, ℕ, ◌<◌, ◌≤◌, List, [], Some, None, true, false, length, get_or, sym, ap, ◌∙◌, arith}
use Rattle.std.proofs.{lemmas.List.{get_or-map, length-map}, lemmas.List.Elements.{All-get_or}}
use Rattle.std.proofs.lemmas.Option.{slice_get_within, get_or_from_slice_get}
use Rattle.std.specs.{Prelude.{nat_eq, slice_get}, Cmp.Lexicographic.{pointwise}}
use Rattle.sect_front.specs.declared.tree.Record.{Record}
use Rattle.sect_types.specs.{Limits.{most_fields}, declared.declarations.types.ValueType.{ValueType}}
use Rattle.sect_types.specs.{Sight.{place, names_of_records}, Environments.{types_of, type_of}}
use Rattle.sect_types.specs.Programs.{ProgramView, IsOfTree, IsWithinLimits}
use Rattle.sect_lemmas.proofs.Positions.{first_position, no_position}

-- no name before this one is x
abbrev pub NoneBefore : List ℕ → List (List ℕ) → ℕ → Type 0
NoneBefore x names i = (k : ℕ) → k < i → pointwise nat_eq x (get_or names k []) ≡ false

-- the place of a name is the first at which it stands
pub place_found : (x : List ℕ) (names : List (List ℕ)) (i : ℕ) → i < length names → NoneBefore x names i
    → pointwise nat_eq x (get_or names i []) ≡ true → Some i ≡ place x names
place_found x names i within before here = sym (first_position (pointwise nat_eq x) names [] i within before here)

-- a name that stands nowhere has none
pub place_missing : (x : List ℕ) (names : List (List ℕ)) (i : ℕ) → length names ≡ i → NoneBefore x names i
    → None ≡ place x names
place_missing x names i all before =
    sym (no_position (pointwise nat_eq x) names [] (λ k lt. before k (omega (arith, lt, all))))

-- a record has few fields
pub few_fields : (p : ProgramView) → IsOfTree p → IsWithinLimits p → (r : ℕ) (shape : Record)
    → slice_get p.source.records r ≡ Some shape → length shape.fields ≤ most_fields
few_fields p tree limits r shape at =
    let names = names_of_records p.source.records in
    let f : Record → List ValueType = λ (z : Record). types_of names z.fields in
    let there = slice_get_within p.source.records r shape at in
    let within : r < length p.records =
    omega (arith, there, ap length tree.records_are, length-map p.source.records f) in
    let same : get_or p.records r [] ≡ types_of names shape.fields = ap (λ l. get_or l r []) tree.records_are
    ∙ get_or-map f p.source.records r shape [] there
    ∙ ap f (get_or_from_slice_get p.source.records r shape shape at) in
    let few = All-get_or (λ (ts : List ValueType). length ts ≤ most_fields) p.records r [] within limits.few_fields in
    omega (arith, few, ap length same, length-map shape.fields (λ d. type_of names d.kind))

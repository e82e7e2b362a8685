-- The locals of a thread are called differently, and none that is of no call as a global.
use Rattle.std.proofs.Common.{◌≡◌, ◌≤◌, ◌<◌, ◌⊎◌, inl, inr, ℕ, zero, suc, ◌+◌, List, [], ◌++◌, map, Option, Some}
use Rattle.std.proofs.Common.{None, true, false, refl, sym, ap, ◌∙◌, subst, length, arith, take}
use Rattle.std.proofs.{lemmas.Bool.{eqb-true, and_parts}, lemmas.List.{length-map}}
use Rattle.std.proofs.lemmas.Option.{slice_get-map as map_at}
use Rattle.std.specs.{Prelude.{nat_eq, slice_get, slice_index_or}, Cmp.Lexicographic.{pointwise}, Option.{option_map}}
use Rattle.sect_lemmas.proofs.Elements.{row_there}
use Rattle.sect_front.specs.{TreeView.{TreeView}, declared.tree.Thread.{Thread}, declared.tree.Procedure.{Procedure}}
use Rattle.sect_front.specs.declared.tree.Declaration.{Declaration}
use Rattle.sect_front.specs.Syntax.{StatementView, Primitive, If, IfElse, While, Atomic, Call, BlockView, End, Then}
use Rattle.sect_types.specs.{First.{IsTyped}, Items.{variables}}
use Rattle.sect_types.specs.Sight.{has_name, place, names_of_globals, names_of_declared}
use Rattle.sect_types.specs.declared.declarations.local_name.LocalName.{LocalName}
use Rattle.sect_types.specs.{declared.expansion.expand.Fresh.{Fresh}, declared.counting.sums.Sums.{Sums}}
use Rattle.sect_types.specs.Sums.{sums, sums_at, sums_within, block_sums, procedure_sums, or_nothing, number_of}
use Rattle.sect_types.specs.Sums.{statement_sums}
use Rattle.sect_types.specs.Expanded.{Freshens, of_call, block_fresh, fresh_of, fresh_within, fresh_in, statement_fresh}
use Rattle.sect_types.specs.LocalNames.{local_names_of, all_local_names, is_same_call, is_same_local}
use Rattle.sect_lemmas.proofs.Replaced.{slice_get-map as mapped_at}
use Rattle.sect_types.proofs.shared.Repeating.{locals_apart, variables_apart, no_local, own_place}
use Rattle.sect_types.proofs.shared.{SoundLemmas.{same_names}, LocalRows.{own_name, fresh_name}}
use Rattle.sect_types.proofs.LocalRows.{which}

one_place : (o : Option ℕ) (i j : ℕ) → o ≡ Some i → o ≡ Some j → i ≡ j
one_place o i j e f = cc

no_place : (o : Option ℕ) (i : ℕ) → o ≡ Some i → o ≡ None → ⊥
no_place o i e f = cc

one_thread : (o : Option Thread) (a b : Thread) → o ≡ Some a → o ≡ Some b → a ≡ b
one_thread o a b e f = cc

-- no name of these stands before itself
abbrev AreApart : List Declaration → Type 0
AreApart ds = (i : ℕ) (name : List ℕ) → slice_get (names_of_declared ds) i ≡ Some name
    → has_name name (take i (names_of_declared ds)) ≡ false

named : (ds : List Declaration) (i : ℕ) (d : Declaration) → slice_get ds i ≡ Some d
    → slice_get (names_of_declared ds) i ≡ Some d.name
named ds i d at =
    let name : Declaration → List ℕ = λ (z : Declaration). z.name in
    map_at name ds i ∙ ap (option_map name) at

placed : (ds : List Declaration) → AreApart ds → (i : ℕ) (d : Declaration) → slice_get ds i ≡ Some d
    → place d.name (names_of_declared ds) ≡ Some i
placed ds apart i d at =
    own_place (names_of_declared ds) i d.name (named ds i d at) (apart i d.name (named ds i d at))

-- two declarations of one name are one
one_declared : (ds : List Declaration) → AreApart ds → (i j : ℕ) (d e : Declaration) → slice_get ds i ≡ Some d
    → slice_get ds j ≡ Some e → d.name ≡ e.name → i ≡ j
one_declared ds apart i j d e at_i at_j same =
    one_place (place e.name (names_of_declared ds)) i j
    (ap (λ x. place x (names_of_declared ds)) (sym same) ∙ placed ds apart i d at_i) (placed ds apart j e at_j)

-- fresh locals of calls with numbers from lo on and below hi, of which no two are called alike
record AreCalled (lo hi : ℕ) (fs : List Fresh) : Type 0 where
  within : (i : ℕ) (f : Fresh) → slice_get fs i ≡ Some f → (lo ≤ f.call) × (f.call < hi)
  differ : (i j : ℕ) (f g : Fresh) → slice_get fs i ≡ Some f → slice_get fs j ≡ Some g → f.call ≡ g.call
      → f.declared.name ≡ g.declared.name → i ≡ j

none_called : (lo hi : ℕ) → AreCalled lo hi []
none_called lo hi = record {
  within = λ i f e. absurd (let no : None ≡ Some f = e in cc);
  differ = λ i j f g e. absurd (let no : None ≡ Some f = e in cc);
}

both_within : (lo m n : ℕ) (xs ys : List Fresh) → AreCalled lo (lo + m) xs → AreCalled (lo + m) (lo + m + n) ys
    → (i : ℕ) (f : Fresh) → slice_get (xs ++ ys) i ≡ Some f → (lo ≤ f.call) × (f.call < lo + (m + n))
both_within lo m n xs ys a b i f e = elim (which xs ys i f e) [
  | inl h ↦ (let w = a.within i f h in (w.0, omega (arith, w.1)))
  | inr h ↦ (let w = b.within h.0 f h.2 in (omega (arith, w.0), omega (arith, w.1)))
]

both_differ : (lo m n : ℕ) (xs ys : List Fresh) → AreCalled lo (lo + m) xs → AreCalled (lo + m) (lo + m + n) ys
    → (i j : ℕ) (f g : Fresh) → slice_get (xs ++ ys) i ≡ Some f → slice_get (xs ++ ys) j ≡ Some g → f.call ≡ g.call
    → f.declared.name ≡ g.declared.name → i ≡ j
both_differ lo m n xs ys a b i j f g at_i at_j call name = by (which xs ys i f at_i) (which xs ys j g at_j)
  where
    by : (slice_get xs i ≡ Some f) ⊎ ((k : ℕ) × (i ≡ length xs + k) × (slice_get ys k ≡ Some f))
        → (slice_get xs j ≡ Some g) ⊎ ((k : ℕ) × (j ≡ length xs + k) × (slice_get ys k ≡ Some g)) → i ≡ j
    by (inl p) (inl q) = a.differ i j f g p q call name
    by (inl p) (inr q) = absurd (omega (arith, (a.within i f p).1, (b.within q.0 g q.2).0, call))
    by (inr p) (inl q) = absurd (omega (arith, (a.within j g q).1, (b.within p.0 f p.2).0, call))
    by (inr p) (inr q) = omega (arith, p.1, q.1, b.differ p.0 q.0 f g p.2 q.2 call name)

-- m calls, and n more after them
both_called : (lo m n : ℕ) (xs ys : List Fresh) → AreCalled lo (lo + m) xs → AreCalled (lo + m) (lo + m + n) ys
    → AreCalled lo (lo + (m + n)) (xs ++ ys)
both_called lo m n xs ys a b =
    record { within = both_within lo m n xs ys a b; differ = both_differ lo m n xs ys a b }

-- the variables of one call
variables_called : (c : ℕ) (ds : List Declaration) → AreApart ds → AreCalled c (c + 1) (of_call c ds)
variables_called c ds apart =
    let of : Declaration → Fresh = λ d. record { declared = d; call = c } in
    record {
      within = λ i f e.
          let d = mapped_at of ds i f e in
          let call = ap (λ (z : Fresh). z.call) d.2 in
          (omega (arith, call), omega (arith, call));
      differ = λ i j f g at_i at_j call name.
          let d = mapped_at of ds i f at_i in
          let e = mapped_at of ds j g at_j in
          one_declared ds apart i j d.0 e.0 d.1 e.1
          (ap (λ (z : Fresh). z.declared.name) d.2 ∙ name ∙ ap (λ (z : Fresh). z.declared.name) (sym e.2));
    }

-- where those of each call have the numbers of as many calls as it comes to, so have those of a body
abbrev AreCallsCalled : List Sums → Freshens → Type 0
AreCallsCalled table call = (q : Option ℕ) (c : ℕ) → AreCalled c (c + (sums_at table q).calls) (call q c)

mutual
  statement_called : (ps : List Procedure) (table : List Sums) (call : Freshens) → AreCallsCalled table call
      → (c : ℕ) (s : StatementView)
      → AreCalled c (c + (statement_sums ps table s).calls) (statement_fresh ps table call c s)
  statement_called ps table call h c (Primitive p) = none_called c (c + (statement_sums ps table (Primitive p)).calls)
  statement_called ps table call h c (If t a) = block_called ps table call h c a
  statement_called ps table call h c (IfElse t a b) =
      let m = (block_sums ps table a).calls in
      both_called c m (block_sums ps table b).calls (block_fresh ps table call c a)
      (block_fresh ps table call (c + m) b) (block_called ps table call h c a) (block_called ps table call h (c + m) b)
  statement_called ps table call h c (While t a) = block_called ps table call h c a
  statement_called ps table call h c (Atomic l a) = block_called ps table call h c a
  statement_called ps table call h c (Call f vs) = h (number_of ps f) c

  block_called : (ps : List Procedure) (table : List Sums) (call : Freshens) → AreCallsCalled table call
      → (c : ℕ) (b : BlockView) → AreCalled c (c + (block_sums ps table b).calls) (block_fresh ps table call c b)
  block_called ps table call h c End = none_called c (c + 0)
  block_called ps table call h c (Then s b) =
      let m = (statement_sums ps table s).calls in
      both_called c m (block_sums ps table b).calls (statement_fresh ps table call c s)
      (block_fresh ps table call (c + m) b) (statement_called ps table call h c s)
      (block_called ps table call h (c + m) b)

-- in no procedure is a name declared twice
abbrev AreAllApart : List Procedure → Type 0
AreAllApart ps = (q : ℕ) (p : Procedure) → slice_get ps q ≡ Some p → AreApart (variables p)

one_called : (ps : List Procedure) (n : ℕ) (call : Freshens) → AreAllApart ps
    → AreCallsCalled (sums_within n ps) call → (q : ℕ) (c : ℕ) (o : Option Procedure) → slice_get ps q ≡ o
    → AreCalled c (c + (sums_at (sums_within (suc n) ps) (Some q)).calls) (fresh_of ps (sums_within n ps) call o c)
one_called ps n call apart h q c None e = none_called c (c + (sums_at (sums_within (suc n) ps) (Some q)).calls)
one_called ps n call apart h q c (Some p) e =
    let table = sums_within n ps in
    let many : 1 + (block_sums ps table p.body).calls ≡ (sums_at (sums_within (suc n) ps) (Some q)).calls =
    sym (ap (λ (o : Option Sums). (or_nothing o).calls)
    (map_at (procedure_sums ps table) ps q ∙ ap (option_map (procedure_sums ps table)) e)) in
    subst (λ k. AreCalled c (c + k) (fresh_of ps table call (Some p) c)) many
    (both_called c 1 (block_sums ps table p.body).calls (of_call c (variables p))
    (block_fresh ps table call (c + 1) p.body) (variables_called c (variables p) (apart q p e))
    (block_called ps table call h (c + 1) p.body))

calls_called : (n : ℕ) (ps : List Procedure) → AreAllApart ps → AreCallsCalled (sums_within n ps) (fresh_within n ps)
calls_called zero ps apart q c = none_called c (c + (sums_at [] q).calls)
calls_called (suc n) ps apart None c = none_called c (c + 0)
calls_called (suc n) ps apart (Some q) c =
    one_called ps n (fresh_within n ps) apart (calls_called n ps apart) q c (slice_get ps q) refl

-- no two fresh locals of a thread are called alike
fresh_called : (t : TreeView) → IsTyped t → (h : Thread)
    → AreCalled 0 (0 + (block_sums t.procedures (sums t.procedures) h.body).calls) (fresh_in t h)
fresh_called t typed h =
    let ps = t.procedures in
    block_called ps (sums ps) (fresh_within (length ps) ps)
    (calls_called (length ps) ps (λ q p at i name e. variables_apart t typed q p at i name e)) 0 h.body

-- a local is declared in the thread, or is one of a call
abbrev Local : TreeView → Thread → ℕ → LocalName → Type 0
Local t h i k =
    ((d : Declaration) × (slice_get h.locals i ≡ Some d) × (own_name d ≡ k))
    ⊎ ((j : ℕ) × (i ≡ length h.locals + j) × ((f : Fresh) × (slice_get (fresh_in t h) j ≡ Some f) × (fresh_name f ≡ k)))

local_of : (t : TreeView) (h : Thread) (i : ℕ) (k : LocalName) → slice_get (local_names_of t h) i ≡ Some k
    → Local t h i k
local_of t h i k e = elim (which (map own_name h.locals) (map fresh_name (fresh_in t h)) i k e) [
  | inl own ↦ inl (mapped_at own_name h.locals i k own)
  | inr fresh ↦ inr (
    fresh.0,
    omega (arith, fresh.1, length-map h.locals own_name),
    mapped_at fresh_name (fresh_in t h) fresh.0 k fresh.2,
  )
]

-- its thread
local_there : (t : TreeView) (u i : ℕ) (k : LocalName) → slice_get (slice_index_or (all_local_names t) u []) i ≡ Some k
    → (h : Thread) × (slice_get t.threads u ≡ Some h) × Local t h i k
local_there t u i k at =
    let row = row_there (all_local_names t) u i k at in
    let th = mapped_at (local_names_of t) t.threads u row.0 row.1 in
    (th.0, th.1, local_of t th.0 i k (subst (λ ls. slice_get ls i ≡ Some k) (sym th.2) row.2))

-- the tests of names say that they are equal
same_calls : (a b : Option ℕ) → is_same_call a b ≡ true → a ≡ b
same_calls None None e = refl
same_calls None (Some d) e = absurd cc
same_calls (Some c) None e = absurd cc
same_calls (Some c) (Some d) e = ap Some (eqb-true c d e)

same_locals : (k l : LocalName) → is_same_local k l ≡ true → (k.call ≡ l.call) × (k.name ≡ l.name)
same_locals k l e =
    let parts = and_parts (is_same_call k.call l.call) (pointwise nat_eq k.name l.name) e in
    (same_calls k.call l.call parts.0, same_names k.name l.name parts.1)

some_number : (a b : ℕ) → Some a ≡ Some b → a ≡ b
some_number a b e = cc

no_number : (a : ℕ) → Some a ≡ None → ⊥
no_number a e = cc

-- two locals of one thread that are called alike are one
one_local : (t : TreeView) → IsTyped t → (u : ℕ) (h : Thread) → slice_get t.threads u ≡ Some h → (i j : ℕ)
    (k l : LocalName) → Local t h i k → Local t h j l → k.call ≡ l.call → k.name ≡ l.name → i ≡ j
one_local t typed u h there i j k l (inl d) (inl e) call name =
    one_declared h.locals (λ n x at. (locals_apart t typed u h there n x at).0) i j d.0 e.0 d.1 e.1
    (ap (λ (z : LocalName). z.name) d.2 ∙ name ∙ ap (λ (z : LocalName). z.name) (sym e.2))
one_local t typed u h there i j k l (inl d) (inr g) call name =
    absurd (no_number g.2.0.call (ap (λ (z : LocalName). z.call) g.2.2 ∙ sym call
    ∙ ap (λ (z : LocalName). z.call) (sym d.2)))
one_local t typed u h there i j k l (inr f) (inl e) call name =
    absurd (no_number f.2.0.call (ap (λ (z : LocalName). z.call) f.2.2 ∙ call
    ∙ ap (λ (z : LocalName). z.call) (sym e.2)))
one_local t typed u h there i j k l (inr f) (inr g) call name =
    let calls = some_number f.2.0.call g.2.0.call (ap (λ (z : LocalName). z.call) f.2.2 ∙ call
    ∙ ap (λ (z : LocalName). z.call) (sym g.2.2)) in
    let names = ap (λ (z : LocalName). z.name) f.2.2 ∙ name ∙ ap (λ (z : LocalName). z.name) (sym g.2.2) in
    omega (
      arith,
      f.1,
      g.1,
      (fresh_called t typed h).differ f.0 g.0 f.2.0 g.2.0 f.2.1 g.2.1 calls names,
    )

-- two locals of a thread that are called alike are one
pub locals_differ : (t : TreeView) → IsTyped t → (u i j : ℕ) (k l : LocalName)
    → slice_get (slice_index_or (all_local_names t) u []) i ≡ Some k
    → slice_get (slice_index_or (all_local_names t) u []) j ≡ Some l → is_same_local k l ≡ true → i ≡ j
locals_differ t typed u i j k l at_i at_j same =
    let a = local_there t u i k at_i in
    let b = local_there t u j l at_j in
    let thread : b.0 ≡ a.0 = one_thread (slice_get t.threads u) b.0 a.0 b.1 a.1 in
    let alike = same_locals k l same in
    one_local t typed u a.0 a.1 i j k l a.2 (subst (λ (h : Thread). Local t h j l) thread b.2) alike.0 alike.1

-- a declared local doesn't have the name of a global
not_global : (t : TreeView) → IsTyped t → (u : ℕ) (h : Thread) → slice_get t.threads u ≡ Some h → (i g : ℕ)
    (k : LocalName) → Local t h i k → k.call ≡ None → slice_get (names_of_globals t.globals) g ≡ Some k.name → ⊥
not_global t typed u h there i g k (inl d) alone global =
    let name : d.0.name ≡ k.name = ap (λ (z : LocalName). z.name) d.2 in
    no_place (place d.0.name (names_of_declared h.locals)) i
    (placed h.locals (λ n x at. (locals_apart t typed u h there n x at).0) i d.0 d.1)
    (no_local t typed u h there g d.0.name (global ∙ ap (λ z. Some z) (sym name)))
not_global t typed u h there i g k (inr f) alone global =
    no_number f.2.0.call (ap (λ (z : LocalName). z.call) f.2.2 ∙ alone)

-- a local that is of no call doesn't have the name of a global
pub no_global : (t : TreeView) → IsTyped t → (u i g : ℕ) (k : LocalName)
    → slice_get (slice_index_or (all_local_names t) u []) i ≡ Some k → k.call ≡ None
    → slice_get (names_of_globals t.globals) g ≡ Some k.name → ⊥
no_global t typed u i g k at alone global =
    let a = local_there t u i k at in
    not_global t typed u a.0 a.1 i g k a.2 alone global

-- In a typed tree no declaration repeats a name.
use Rattle.std.proofs.Common.{◌≡◌, ℕ, zero, suc, ◌+◌, ◌≤◌, Bool, true, false, true≢false, List, [], ◌∷◌, ◌++◌, Some}
use Rattle.std.proofs.Common.{take, length, get_or, refl, sym, ap, ◌∙◌, subst, append_assoc, arith, Option, None}
use Rattle.std.proofs.{lemmas.Bool.Decides.{Decides-eqb}, lemmas.List.{append-nil}, lemmas.Bool.{or_parts}}
use Rattle.std.proofs.{lemmas.Option.{slice_get_within, get_or_from_slice_get}, lemmas.Slice.Eq.{slice_eq-Decides}}
use Rattle.std.specs.{Prelude.{◌||◌, nat_eq, slice_get, is_some}, Cmp.Lexicographic.{pointwise}}
use Rattle.sect_front.specs.{declared.tree.Record.{Record}, declared.tree.GlobalObject.{GlobalObject}}
use Rattle.sect_front.specs.{declared.tree.Declaration.{Declaration}, declared.tree.Thread.{Thread}}
use Rattle.sect_front.specs.Syntax.{StatementView, Primitive, If, IfElse, While, Atomic, Call, BlockView, End, Then}
use Rattle.sect_front.specs.{TreeView.{TreeView}, declared.tree.Procedure.{Procedure}}
use Rattle.sect_types.specs.declared.rules.rule.Rule.TheVariants.{Twice}
use Rattle.sect_types.specs.Sight.{has_name, same_name, place, names_of_globals, names_of_declared}
use Rattle.sect_types.specs.declared.rules.place.Place.{Place}
use Rattle.sect_types.specs.declared.rules.place.Place.TheVariants.{InThread, InProcedure}
use Rattle.sect_types.specs.Items.{items, variables, deeper, in_section, procedure_items, CallHead, AProcedure, Item}
use Rattle.sect_types.specs.Items.{PrimitiveHead, TestHead, AtomicHead, AThread, ALocal, AField, AGlobal, ARecord}
use Rattle.sect_types.specs.Items.{AStatement, statement_items, block_items, field_items, record_items, global_items}
use Rattle.sect_types.specs.{Items.{local_items, thread_items}, Rules.{Declared, declared_in, Counts, after}}
use Rattle.sect_types.specs.First.{BreaksFrom, none_yet, IsTyped}
use Rattle.sect_types.proofs.shared.{Naming.{NoneBefore, place_found}, SoundLemmas.{same_names}}
use Rattle.sect_types.proofs.Heads.{placed}

-- some item repeats a name, whatever was counted before
pub HasTwice : Declared → List Item → Type 0
HasTwice text list = (c : Counts) → (i : ℕ) × BreaksFrom text c list i Twice

module _ (text : Declared) where
  -- so does what the item stands in
  later : (item : Item) (list : List Item) → HasTwice text list → HasTwice text (item ∷ list)
  unfolding HasTwice
  later item list h c = let r = h (after text c item) in (suc r.0, r.1)

  mutual
    past_statement : (ls : List Declaration) (at : Place) (f : StatementView) (w : List Item) → HasTwice text w
        → HasTwice text (statement_items ls at f w)
    past_statement ls at (Primitive p) w h = later (AStatement (PrimitiveHead p) ls at) w h
    past_statement ls at (If t a) w h =
        later (AStatement (TestHead t) ls at) (block_items ls (deeper at) a w) (past_block ls (deeper at) a w h)
    past_statement ls at (IfElse t a b) w h =
        later (AStatement (TestHead t) ls at) (block_items ls (deeper at) a (block_items ls (deeper at) b w))
        (past_block ls (deeper at) a (block_items ls (deeper at) b w) (past_block ls (deeper at) b w h))
    past_statement ls at (While t a) w h =
        later (AStatement (TestHead t) ls at) (block_items ls (deeper at) a w) (past_block ls (deeper at) a w h)
    past_statement ls at (Atomic l a) w h =
        later (AStatement AtomicHead ls at) (block_items ls (in_section at) a w) (past_block ls (in_section at) a w h)
    past_statement ls at (Call f vs) w h = later (AStatement (CallHead f vs) ls at) w h

    past_block : (ls : List Declaration) (at : Place) (b : BlockView) (w : List Item) → HasTwice text w
        → HasTwice text (block_items ls at b w)
    past_block ls at End w h = h
    past_block ls at (Then f b) w h = past_statement ls at f (block_items ls at b w) (past_block ls at b w h)

  past_fields : (before : List (List ℕ)) (ds : List Declaration) (w : List Item) → HasTwice text w
      → HasTwice text (field_items before ds w)
  past_fields before [] w h = h
  past_fields before (d ∷ ds) w h =
      later (AField d.kind d.name before) (field_items (before ++ d.name ∷ []) ds w)
      (past_fields (before ++ d.name ∷ []) ds w h)

  past_records : (before : List (List ℕ)) (list : List Record) (w : List Item) → HasTwice text w
      → HasTwice text (record_items before list w)
  past_records before [] w h = h
  past_records before (r ∷ list) w h =
      let rest = record_items (before ++ r.name ∷ []) list w in
      later (ARecord r.name before) (field_items [] r.fields rest)
      (past_fields [] r.fields rest (past_records (before ++ r.name ∷ []) list w h))

  past_globals : (before : List (List ℕ)) (list : List GlobalObject) (w : List Item) → HasTwice text w
      → HasTwice text (global_items before list w)
  past_globals before [] w h = h
  past_globals before (g ∷ list) w h =
      later (AGlobal g.of g.name before) (global_items (before ++ g.name ∷ []) list w)
      (past_globals (before ++ g.name ∷ []) list w h)

  past_locals : (before : List (List ℕ)) (ds : List Declaration) (w : List Item) → HasTwice text w
      → HasTwice text (local_items before ds w)
  past_locals before [] w h = h
  past_locals before (d ∷ ds) w h =
      later (ALocal d.kind d.name before) (local_items (before ++ d.name ∷ []) ds w)
      (past_locals (before ++ d.name ∷ []) ds w h)

  past_procedures : (n : ℕ) (before : List (List ℕ)) (list : List Procedure) (w : List Item) → HasTwice text w
      → HasTwice text (procedure_items n before list w)
  past_procedures n before [] w h = h
  past_procedures n before (p ∷ list) w h =
      let rest = procedure_items (n + 1) (before ++ p.name ∷ []) list w in
      let body = block_items (variables p) (InProcedure n) p.body rest in
      later (AProcedure p.name before) (local_items [] (variables p) body) (past_locals [] (variables p) body
      (past_block (variables p) (InProcedure n) p.body rest (past_procedures (n + 1) (before ++ p.name ∷ []) list w h)))

  -- what a record repeats, the records do, and what the locals of a thread repeat, the threads do
  in_record : (before : List (List ℕ)) (list : List Record) (w : List Item) (r : ℕ) (shape : Record)
      → slice_get list r ≡ Some shape
      → ((v : List Item) → HasTwice text (field_items [] shape.fields v)) → HasTwice text (record_items before list w)
  in_record before [] w r shape at h = absurd cc
  in_record before (x ∷ list) w zero shape at h =
      let same : shape ≡ x = cc in
      let rest = record_items (before ++ x.name ∷ []) list w in
      later (ARecord x.name before) (field_items [] x.fields rest)
      (subst (λ (y : Record). HasTwice text (field_items [] y.fields rest)) same (h rest))
  in_record before (x ∷ list) w (suc r) shape at h =
      let rest = record_items (before ++ x.name ∷ []) list w in
      later (ARecord x.name before) (field_items [] x.fields rest)
      (past_fields [] x.fields rest (in_record (before ++ x.name ∷ []) list w r shape at h))

  in_thread : (before : List (List ℕ)) (list : List Thread) (w : List Item) (t : ℕ) (th : Thread)
      → slice_get list t ≡ Some th
      → ((v : List Item) → HasTwice text (local_items [] th.locals v)) → HasTwice text (thread_items before list w)
  in_thread before [] w t th at h = absurd cc
  in_thread before (x ∷ list) w zero th at h =
      let same : th ≡ x = cc in
      let rest = block_items x.locals (InThread false 1) x.body (thread_items (before ++ x.name ∷ []) list w) in
      later (AThread x.name before) (local_items [] x.locals rest)
      (subst (λ (y : Thread). HasTwice text (local_items [] y.locals rest)) same (h rest))
  in_thread before (x ∷ list) w (suc t) th at h =
      let more = thread_items (before ++ x.name ∷ []) list w in
      let rest = block_items x.locals (InThread false 1) x.body more in
      later (AThread x.name before) (local_items [] x.locals rest)
      (past_locals [] x.locals rest (past_block x.locals (InThread false 1) x.body more
      (in_thread (before ++ x.name ∷ []) list w t th at h)))

  in_procedure : (n : ℕ) (before : List (List ℕ)) (list : List Procedure) (w : List Item) (q : ℕ) (p : Procedure)
      → slice_get list q ≡ Some p
      → ((v : List Item) → HasTwice text (local_items [] (variables p) v))
      → HasTwice text (procedure_items n before list w)
  in_procedure n before [] w q p at h = absurd cc
  in_procedure n before (x ∷ list) w zero p at h =
      let same : p ≡ x = cc in
      let rest = procedure_items (n + 1) (before ++ x.name ∷ []) list w in
      let body = block_items (variables x) (InProcedure n) x.body rest in
      later (AProcedure x.name before) (local_items [] (variables x) body)
      (subst (λ (y : Procedure). HasTwice text (local_items [] (variables y) body)) same (h body))
  in_procedure n before (x ∷ list) w (suc q) p at h =
      let rest = procedure_items (n + 1) (before ++ x.name ∷ []) list w in
      let body = block_items (variables x) (InProcedure n) x.body rest in
      later (AProcedure x.name before) (local_items [] (variables x) body)
      (past_locals [] (variables x) body (past_block (variables x) (InProcedure n) x.body rest
      (in_procedure (n + 1) (before ++ x.name ∷ []) list w q p at h)))

  -- a global with the name of one before it is an item that repeats a name
  repeated_global : (before : List (List ℕ)) (list : List GlobalObject) (w : List Item) (i : ℕ) (name : List ℕ)
      → slice_get (names_of_globals list) i ≡ Some name
      → has_name name (before ++ take i (names_of_globals list)) ≡ true → HasTwice text (global_items before list w)
  unfolding HasTwice
  repeated_global before [] w i name e h = absurd cc
  repeated_global before (g ∷ list) w zero name e h = λ c.
      let same : g.name ≡ name = cc in
      (0, ap (λ x. has_name x before) same ∙ (ap (has_name name) (sym (append-nil before)) ∙ h))
  repeated_global before (g ∷ list) w (suc i) name e h =
      later (AGlobal g.of g.name before) (global_items (before ++ g.name ∷ []) list w)
      (repeated_global (before ++ g.name ∷ []) list w i name e
      (ap (has_name name) (append_assoc before (g.name ∷ []) (take i (names_of_globals list))) ∙ h))

  -- so is a field, in its record
  repeated_field : (before : List (List ℕ)) (ds : List Declaration) (w : List Item) (i : ℕ) (name : List ℕ)
      → slice_get (names_of_declared ds) i ≡ Some name → has_name name (before ++ take i (names_of_declared ds)) ≡ true
      → HasTwice text (field_items before ds w)
  unfolding HasTwice
  repeated_field before [] w i name e h = absurd cc
  repeated_field before (d ∷ ds) w zero name e h = λ c.
      let same : d.name ≡ name = cc in
      (0, ap (λ x. has_name x before) same ∙ (ap (has_name name) (sym (append-nil before)) ∙ h))
  repeated_field before (d ∷ ds) w (suc i) name e h =
      later (AField d.kind d.name before) (field_items (before ++ d.name ∷ []) ds w)
      (repeated_field (before ++ d.name ∷ []) ds w i name e
      (ap (has_name name) (append_assoc before (d.name ∷ []) (take i (names_of_declared ds))) ∙ h))

  -- and a local, in its thread, also one with the name of a global
  repeated_local : (before : List (List ℕ)) (ds : List Declaration) (w : List Item) (i : ℕ) (name : List ℕ)
      → slice_get (names_of_declared ds) i ≡ Some name
      → (has_name name (before ++ take i (names_of_declared ds)) || has_name name (names_of_globals text.globals))
      ≡ true → HasTwice text (local_items before ds w)
  unfolding HasTwice
  repeated_local before [] w i name e h = absurd cc
  repeated_local before (d ∷ ds) w zero name e h = λ c.
      let same : d.name ≡ name = cc in (
        0,
        ap (λ x. has_name x before || has_name x (names_of_globals text.globals)) same
            ∙ (ap (λ b. has_name name b || has_name name (names_of_globals text.globals)) (sym (append-nil before))
            ∙ h),
      )
  repeated_local before (d ∷ ds) w (suc i) name e h =
      later (ALocal d.kind d.name before) (local_items (before ++ d.name ∷ []) ds w)
      (repeated_local (before ++ d.name ∷ []) ds w i name e
      (ap (λ b. has_name name b || has_name name (names_of_globals text.globals))
      (append_assoc before (d.name ∷ []) (take i (names_of_declared ds))) ∙ h))

-- a test that would show that a typed tree repeats a name fails
pub fails : (t : TreeView) → IsTyped t → (b : Bool) → (b ≡ true → HasTwice (declared_in t) (items t)) → b ≡ false
unfolding HasTwice
fails t typed false shows = refl
fails t typed true shows = let broken = shows refl none_yet in absurd (typed broken.0 Twice broken.1)

-- the globals of a typed tree have different names
pub globals_apart : (t : TreeView) → IsTyped t → (i : ℕ) (name : List ℕ)
    → slice_get (names_of_globals t.globals) i ≡ Some name → has_name name (take i (names_of_globals t.globals)) ≡ false
globals_apart t typed i name at =
    fails t typed (has_name name (take i (names_of_globals t.globals)))
    (λ h. past_records (declared_in t) [] t.records _
    (repeated_global (declared_in t) [] t.globals (procedure_items 0 [] t.procedures (thread_items [] t.threads []))
    i name at h))

-- so have the fields of a record
pub fields_apart : (t : TreeView) → IsTyped t → (r : ℕ) (shape : Record) → slice_get t.records r ≡ Some shape
    → (i : ℕ) (name : List ℕ)
    → slice_get (names_of_declared shape.fields) i ≡ Some name
    → has_name name (take i (names_of_declared shape.fields)) ≡ false
fields_apart t typed r shape there i name at =
    fails t typed (has_name name (take i (names_of_declared shape.fields)))
    (λ h. in_record (declared_in t) [] t.records _ r shape there
    (λ v. repeated_field (declared_in t) [] shape.fields v i name at h))

-- so have the locals of a thread, and none has the name of a global
pub locals_apart : (t : TreeView) → IsTyped t → (u : ℕ) (th : Thread) → slice_get t.threads u ≡ Some th
    → (i : ℕ) (name : List ℕ) → slice_get (names_of_declared th.locals) i ≡ Some name
    → (has_name name (take i (names_of_declared th.locals)) ≡ false)
    × (has_name name (names_of_globals t.globals) ≡ false)
locals_apart t typed u th there i name at =
    or_parts (has_name name (take i (names_of_declared th.locals))) (has_name name (names_of_globals t.globals))
    (fails t typed (has_name name (take i (names_of_declared th.locals)) || has_name name (names_of_globals t.globals))
    (λ h. past_records (declared_in t) [] t.records _ (past_globals (declared_in t) [] t.globals _
    (past_procedures (declared_in t) 0 [] t.procedures _
    (in_thread (declared_in t) [] t.threads [] u th there
    (λ v. repeated_local (declared_in t) [] th.locals v i name at h))))))

-- so have the parameters and locals of a procedure
pub variables_apart : (t : TreeView) → IsTyped t → (q : ℕ) (p : Procedure) → slice_get t.procedures q ≡ Some p
    → (i : ℕ) (name : List ℕ) → slice_get (names_of_declared (variables p)) i ≡ Some name
    → has_name name (take i (names_of_declared (variables p))) ≡ false
variables_apart t typed q p there i name at =
    (or_parts (has_name name (take i (names_of_declared (variables p)))) (has_name name (names_of_globals t.globals))
    (fails t typed
    (has_name name (take i (names_of_declared (variables p))) || has_name name (names_of_globals t.globals))
    (λ h. past_records (declared_in t) [] t.records _ (past_globals (declared_in t) [] t.globals _
    (in_procedure (declared_in t) 0 [] t.procedures _ q p there
    (λ v. repeated_local (declared_in t) [] (variables p) v i name at h)))))).0

-- a name that isn't among some names is none of them
none_before : (x : List ℕ) (names : List (List ℕ)) (i : ℕ) → i ≤ length names → has_name x (take i names) ≡ false
    → NoneBefore x names i
none_before x [] i within h k lt = absurd (omega (arith, within, lt))
none_before x (n ∷ names) zero within h k lt = absurd (omega (arith, lt))
none_before x (n ∷ names) (suc i) within h zero lt = (or_parts (pointwise nat_eq x n) (has_name x (take i names)) h).0
none_before x (n ∷ names) (suc i) within h (suc k) lt =
    none_before x names i (omega (arith, within)) (or_parts (pointwise nat_eq x n) (has_name x (take i names)) h).1 k
    (omega (arith, lt))

-- a name is the same as itself
same_itself : (x : List ℕ) → same_name x x ≡ true
same_itself x = (slice_eq-Decides Decides-eqb x x (pointwise nat_eq x x) refl).1 refl

-- a name that doesn't stand before itself has its place as its number
pub own_place : (names : List (List ℕ)) (i : ℕ) (x : List ℕ) → slice_get names i ≡ Some x
    → has_name x (take i names) ≡ false → place x names ≡ Some i
own_place names i x at new =
    let within = slice_get_within names i x at in
    let here : get_or names i [] ≡ x = get_or_from_slice_get names i x [] at in
    sym (place_found x names i within (none_before x names i (omega (arith, within)) new)
    (ap (same_name x) here ∙ same_itself x))

-- a name that isn't among them has none
pub no_place : (names : List (List ℕ)) (x : List ℕ) → has_name x names ≡ false → place x names ≡ None
no_place names x new = go (place x names) (placed x names ∙ new)
  where
    go : (o : Option ℕ) → is_some o ≡ false → o ≡ None
    go None e = refl
    go (Some i) e = absurd cc

-- what stands among names is among them
pub stands : (names : List (List ℕ)) (j : ℕ) (x : List ℕ) → slice_get names j ≡ Some x → has_name x names ≡ false → ⊥
stands [] j x at h = absurd cc
stands (y ∷ names) zero x at h =
    let same : y ≡ x = cc in
    true≢false (sym (same_itself x) ∙ (ap (same_name x) (sym same) ∙ (or_parts (same_name x y) (has_name x names) h).0))
stands (y ∷ names) (suc j) x at h = stands names j x at (or_parts (same_name x y) (has_name x names) h).1

-- a name that is none of some names isn't among them
none_of : (names : List (List ℕ)) (y : List ℕ) → ((i : ℕ) (x : List ℕ) → slice_get names i ≡ Some x → y ≡ x → ⊥)
    → has_name y names ≡ false
none_of [] y h = refl
none_of (x ∷ names) y h = by (same_name y x) (has_name y names) refl (none_of names y (λ i. h (suc i)))
  where
    by : (a b : Bool) → same_name y x ≡ a → b ≡ false → (a || b) ≡ false
    by true b e f = absurd (h 0 x refl (same_names y x e))
    by false b e f = f

-- a global's name is that of no local
pub no_local : (t : TreeView) → IsTyped t → (u : ℕ) (th : Thread) → slice_get t.threads u ≡ Some th
    → (g : ℕ) (name : List ℕ) → slice_get (names_of_globals t.globals) g ≡ Some name
    → place name (names_of_declared th.locals) ≡ None
no_local t typed u th there g name at =
    no_place (names_of_declared th.locals) name (none_of (names_of_declared th.locals) name (λ i x at_x same.
    stands (names_of_globals t.globals) g x (subst (λ y. slice_get (names_of_globals t.globals) g ≡ Some y) same at)
    (locals_apart t typed u th there i x at_x).1))

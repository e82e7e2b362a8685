-- How the origins of the nodes of a list of parts are made of those of each part.
use Rattle.std.proofs.Common.{◌≡◌, ℕ, zero, suc, ◌+◌, ◌-◌, ◌*◌, ◌<◌, ◌≤◌, List, [], ◌∷◌, ◌++◌, length, Option, Some}
use Rattle.std.proofs.Common.{None, refl, arith, get_or, slice_get, sym, ap, ◌∙◌, subst, suc-mul, append_assoc}
use Rattle.std.proofs.Common.{append-nil}
use Rattle.std.specs.Prelude.{slice_index_or}
use Rattle.sect_lemmas.proofs.Options.{none_or_some, some_injective}
use Rattle.sect_front.specs.{TreeView.{TreeView}, Trees.{statement_of, block_of, block_size}}
use Rattle.sect_front.specs.{declared.tree.Statement.{Statement}, declared.tree.Declaration.{Declaration}}
use Rattle.sect_front.specs.{declared.tree.Procedure.{Procedure}, declared.tree.Thread.{Thread}}
use Rattle.sect_places.specs.declared.origin.Origin.{Origin}
use Rattle.sect_places.specs.ItemCounts.{items_in_statement, items_in_block, items_in_thread, items_in_procedure}
use Rattle.sect_places.specs.ItemCounts.{items_in_procedures}
use Rattle.sect_places.specs.Origins.{Expansion, statement_origins, block_origins, statement_sections, block_sections}
use Rattle.sect_places.specs.Origins.{variable_origins, procedure_origins, call_origins, origins_within}
use Rattle.sect_places.specs.Origins.{procedure_sections, call_sections, sections_within, threads_origins}
use Rattle.sect_places.specs.Origins.{threads_sections, procedure_items, starts_of, first_procedure, first_thread}
use Rattle.sect_places.specs.Origins.{thread_origins_of, section_origins_of}
use Rattle.sect_places.specs.steps.Adding.{Adds}
use Rattle.sect_places.specs.steps.Ending.{StatementEnds, BlockEnds, CallEnds, EndsWithin, ThreadsEnd, most_size}
use Rattle.sect_places.proofs.Walked.{IsList}

abbrev pub items_of : Statement → ℕ
items_of s = items_in_statement (statement_of s)

abbrev pub total_items : List Statement → ℕ
total_items ss = items_in_block (block_of ss)

abbrev pub each_origins : List Procedure → Expansion Origin → Option ℕ → ℕ → Statement → List Origin → List Origin
each_origins ps expand call n s w = statement_origins ps expand call n (statement_of s) w

abbrev pub all_origins : List Procedure → Expansion Origin → Option ℕ → ℕ → List Statement → List Origin → List Origin
all_origins ps expand call n ss w = block_origins ps expand call n (block_of ss) w

abbrev pub each_sections : List Procedure → Expansion Origin → Expansion (List Origin) → Option ℕ → ℕ → Statement
    → List (List Origin) → List (List Origin)
each_sections ps expand sections call n s w = statement_sections ps expand sections call n (statement_of s) w

abbrev pub all_sections : List Procedure → Expansion Origin → Expansion (List Origin) → Option ℕ → ℕ → List Statement
    → List (List Origin) → List (List Origin)
all_sections ps expand sections call n ss w = block_sections ps expand sections call n (block_of ss) w

pub origins_listed : (ps : List Procedure) (expand : Expansion Origin) (call : Option ℕ)
    → IsList items_of total_items (each_origins ps expand call) (all_origins ps expand call)
origins_listed ps expand call =
    record { none = refl; more = λ s ss. refl; nothing = λ n w. refl; step = λ n s ss w. refl }

pub sections_listed : (ps : List Procedure) (expand : Expansion Origin) (sections : Expansion (List Origin))
    (call : Option ℕ)
    → IsList items_of total_items (each_sections ps expand sections call) (all_sections ps expand sections call)
sections_listed ps expand sections call =
    record { none = refl; more = λ s ss. refl; nothing = λ n w. refl; step = λ n s ss w. refl }

abbrev pub items_in_threads : List Thread → ℕ
items_in_threads [] = 0
items_in_threads (t ∷ ts) = items_in_thread t + items_in_threads ts

-- the calls in a statement of a block come to an end
pub ends_at : (ps : List Procedure) (Ends : Option ℕ → Type 0) (ss : List Statement) (i : ℕ) (s : Statement)
    → i < length ss → s ≡ get_or ss i s → BlockEnds ps Ends (block_of ss) → StatementEnds ps Ends (statement_of s)
ends_at ps Ends [] i s lt is h = absurd (omega (arith, lt))
ends_at ps Ends (x ∷ ss) zero s lt is h = subst (λ y. StatementEnds ps Ends (statement_of y)) (sym is) h.0
ends_at ps Ends (x ∷ ss) (suc i) s lt is h = ends_at ps Ends ss i s (omega (arith, lt)) is h.1

-- and those in a thread
pub thread_ends : (ps : List Procedure) (Ends : Option ℕ → Type 0) (ts : List Thread) (i : ℕ) (t : Thread)
    → i < length ts → t ≡ get_or ts i t → ThreadsEnd ps Ends ts → BlockEnds ps Ends t.body
thread_ends ps Ends [] i t lt is h = absurd (omega (arith, lt))
thread_ends ps Ends (x ∷ ts) zero t lt is h = subst (λ (y : Thread). BlockEnds ps Ends y.body) (sym is) h.0
thread_ends ps Ends (x ∷ ts) (suc i) t lt is h = thread_ends ps Ends ts i t (omega (arith, lt)) is h.1

-- no procedure is larger
pub size_most : (ps : List Procedure) (q : ℕ) (p : Procedure) → slice_get ps q ≡ Some p
    → 3 + 3 * block_size p.body ≤ most_size ps
size_most [] q p h = absurd (none_or_some p h)
size_most (x ∷ ps) zero p h =
    let e = some_injective x p h in
    subst (λ (y : Procedure). 3 + 3 * block_size y.body ≤ most_size (x ∷ ps)) e (omega (arith, least ps))
  where
    least : (ps : List Procedure) → 3 ≤ most_size ps
    least [] = omega arith
    least (x ∷ ps) = omega (arith, least ps)
size_most (x ∷ ps) (suc q) p h = omega (arith, size_most ps q p h)

-- a procedure that is called is there, and calls in it stand one less deep in one another
pub call_ends : (ps : List Procedure) (most : ℕ) (o : Option ℕ) (q : ℕ) (p : Procedure) → o ≡ Some q
    → slice_get ps q ≡ Some p → EndsWithin ps most o → (0 < most) × BlockEnds ps (EndsWithin ps (most - 1)) p.body
call_ends ps zero o q p e h x = absurd x
call_ends ps (suc n) o q p e h x =
    let y : CallEnds ps (EndsWithin ps n) (Some q) = subst (CallEnds ps (EndsWithin ps n)) e x in
    let less : n ≡ suc n - 1 = omega arith in (
      omega arith,
      subst (λ k. BlockEnds ps (EndsWithin ps k) p.body) less
          (subst (λ (r : Procedure). BlockEnds ps (EndsWithin ps n) r.body) (some_injective y.0 p (sym y.1 ∙ h)) y.2),
    )

-- how deep it goes falls with each call
pub call_falls : (most size all : ℕ) → 0 < most → 3 + 3 * size ≤ all → (most - 1) * all + 2 + 3 * size < most * all
call_falls zero size all some h = absurd (omega (arith, some))
call_falls (suc n) size all some h =
    let less : suc n - 1 ≡ n = omega arith in
    let m : (suc n - 1) * all ≡ n * all = ap (λ k. k * all) less in
    let k : suc n * all ≡ n * all + all = suc-mul n all in
    omega (arith, h, m, k)

module _ (ps : List Procedure) (starts : List ℕ) (o : Option ℕ) (q : ℕ) (p : Procedure) (s : ℕ) (call : Option ℕ)
    (named : o ≡ Some q) (there : slice_get ps q ≡ Some p) (start : slice_index_or starts q 0 ≡ s) where
  -- the nodes of a call are those of the variables and the body of its procedure
  call_is : (most : ℕ) (w : List Origin) → 0 < most → origins_within most ps starts o call w
      ≡ variable_origins call (s + 1) p.parameters (variable_origins call (s + 1 + length p.parameters) p.locals
      (block_origins ps (origins_within (most - 1) ps starts) call (s + 1 + length p.parameters + length p.locals)
      p.body w))
  call_is zero w some = absurd (omega (arith, some))
  call_is (suc n) w some =
      let less : n ≡ suc n - 1 = omega arith in
      (λ i. call_origins ps starts (origins_within n ps starts) (named i) call w)
      ∙ (λ i. procedure_origins ps (origins_within (less i) ps starts) (there i) (start i) call w)

  pub call_origins_added : (most i j k : ℕ) (xs ys : List Declaration) (a b c d : List Origin) → 0 < most
      → xs ≡ p.parameters → ys ≡ p.locals → i ≡ s + 1 → j ≡ i + length xs → k ≡ j + length ys
      → Adds a b (variable_origins call i xs) → Adds b c (variable_origins call j ys)
      → Adds c d (block_origins ps (origins_within (most - 1) ps starts) call k p.body)
      → Adds a d (origins_within most ps starts o call)
  call_origins_added most i j k xs ys a b c d some ex ey ei ej ek f g h w =
      let ej2 : j ≡ s + 1 + length p.parameters = omega (arith, ej, ei, ap length ex) in
      let ek2 : k ≡ s + 1 + length p.parameters + length p.locals = omega (arith, ek, ej2, ap length ey) in
      let body : List Origin → List Origin = block_origins ps (origins_within (most - 1) ps starts) call k p.body in
      h w ∙ (g (body w) ∙ (f (variable_origins call j ys (body w))
      ∙ ((λ z. a ++ variable_origins call (ei z) (ex z) (variable_origins call (ej2 z) (ey z)
      (block_origins ps (origins_within (most - 1) ps starts) call (ek2 z) p.body w)))
      ∙ ap (λ r. a ++ r) (sym (call_is most w some)))))

  sections_is : (most : ℕ) (w : List (List Origin)) → 0 < most → sections_within most ps starts o call w
      ≡ block_sections ps (origins_within (most - 1) ps starts) (sections_within (most - 1) ps starts) call
      (s + 1 + length p.parameters + length p.locals) p.body w
  sections_is zero w some = absurd (omega (arith, some))
  sections_is (suc n) w some =
      let less : n ≡ suc n - 1 = omega arith in
      (λ i. call_sections ps starts (origins_within n ps starts) (sections_within n ps starts) (named i) call w)
      ∙ (λ i. procedure_sections ps (origins_within (less i) ps starts) (sections_within (less i) ps starts) (there i)
      (start i) call w)

  pub call_sections_added : (most i j k : ℕ) (xs ys : List Declaration) (a d : List (List Origin)) → 0 < most
      → xs ≡ p.parameters → ys ≡ p.locals → i ≡ s + 1 → j ≡ i + length xs → k ≡ j + length ys
      → Adds a d (block_sections ps (origins_within (most - 1) ps starts) (sections_within (most - 1) ps starts) call k
      p.body)
      → Adds a d (sections_within most ps starts o call)
  call_sections_added most i j k xs ys a d some ex ey ei ej ek h w =
      let ek2 : k ≡ s + 1 + length p.parameters + length p.locals =
      omega (arith, ek, ej, ei, ap length ex, ap length ey) in
      h w
      ∙ (ap (λ m. a ++ block_sections ps (origins_within (most - 1) ps starts) (sections_within (most - 1) ps starts)
      call m p.body w) ek2 ∙ ap (λ r. a ++ r) (sym (sections_is most w some)))

-- a list with one more at its end
one_more : {A : Type 0} (old new : List A) (x y : A) → new ≡ old ++ x ∷ [] → x ≡ y → Adds old new (λ w. y ∷ w)
one_more old new x y e f w =
    ap (λ l. l ++ w) e ∙ append_assoc old (x ∷ []) w ∙ ap (λ z. old ++ z ∷ w) f

-- what a walk has put into an empty list
pub made : {A : Type 0} (new : List A) (more : List A → List A) → Adds [] new more → new ≡ more []
made new more h = sym (append-nil new) ∙ h []

abbrev pub thread_nodes : List Procedure → Expansion Origin → ℕ → Thread → List (List Origin) → List (List Origin)
thread_nodes ps expand n t w = block_origins ps expand None (n + 1 + length t.locals) t.body [] ∷ w

abbrev pub thread_parts : List Procedure → Expansion Origin → Expansion (List Origin) → ℕ → Thread
    → List (List Origin) → List (List Origin)
thread_parts ps expand sections n t w = block_sections ps expand sections None (n + 1 + length t.locals) t.body w

pub threads_listed : (ps : List Procedure) (expand : Expansion Origin)
    → IsList items_in_thread items_in_threads (thread_nodes ps expand) (threads_origins ps expand)
threads_listed ps expand =
    record { none = refl; more = λ t ts. refl; nothing = λ n w. refl; step = λ n t ts w. refl }

pub parts_listed : (ps : List Procedure) (expand : Expansion Origin) (sections : Expansion (List Origin))
    → IsList items_in_thread items_in_threads (thread_parts ps expand sections) (threads_sections ps expand sections)
parts_listed ps expand sections =
    record { none = refl; more = λ t ts. refl; nothing = λ n w. refl; step = λ n t ts w. refl }

module _ (ps : List Procedure) (expand : Expansion Origin) (call : Option ℕ) (n i j : ℕ) (t : Thread)
    (own : List Declaration) (none : call ≡ None) (first : i ≡ n + 1) (locals : own ≡ t.locals)
    (body : j ≡ i + length own) where
  body_at : j ≡ n + 1 + length t.locals
  body_at = omega (arith, first, body, ap length locals)

  pub thread_added : (nodes : List Origin) (old new : List (List Origin))
      → Adds [] nodes (block_origins ps expand call j t.body) → new ≡ old ++ nodes ∷ []
      → Adds old new (thread_nodes ps expand n t)
  thread_added nodes old new h e =
      one_more old new nodes _ e (made nodes (block_origins ps expand call j t.body) h
      ∙ (λ z. block_origins ps expand (none z) (body_at z) t.body []))

  pub parts_added : (sections : Expansion (List Origin)) (old new : List (List Origin))
      → Adds old new (block_sections ps expand sections call j t.body)
      → Adds old new (thread_parts ps expand sections n t)
  parts_added sections old new h w =
      h w ∙ (λ z. old ++ block_sections ps expand sections (none z) (body_at z) t.body w)

-- each procedure has an item
pub starts_many : (n : ℕ) (ps : List Procedure) → length (procedure_items n ps) ≡ length ps
starts_many n [] = refl
starts_many n (p ∷ ps) = ap suc (starts_many (n + items_in_procedure p) ps)

-- what a walk through a tree has made
module _ (t : TreeView) (ps : List Procedure) (starts : List ℕ) (hs : List Thread) (first behind : ℕ)
    (e : ps ≡ t.procedures) (es : starts ≡ procedure_items first ps) (f : first ≡ first_procedure t)
    (b : behind ≡ first + items_in_procedures ps) (eh : hs ≡ t.threads) where
  starts_are : starts ≡ starts_of t
  starts_are = es ∙ (λ z. procedure_items (f z) (e z))

  behind_is : behind ≡ first_thread t
  behind_is = b ∙ (λ z. f z + items_in_procedures (e z))

  pub tree_nodes : (new : List (List Origin))
      → Adds [] new (threads_origins ps (origins_within (length ps) ps starts) behind hs) → new ≡ thread_origins_of t
  tree_nodes new h =
      made new (threads_origins ps (origins_within (length ps) ps starts) behind hs) h
      ∙ (λ z. threads_origins (e z) (origins_within (length (e z)) (e z) (starts_are z)) (behind_is z) (eh z) [])

  pub tree_parts : (new : List (List Origin))
      → Adds [] new (threads_sections ps (origins_within (length ps) ps starts) (sections_within (length ps) ps starts)
      behind hs)
      → new ≡ section_origins_of t
  tree_parts new h =
      made new (threads_sections ps (origins_within (length ps) ps starts) (sections_within (length ps) ps starts)
      behind hs) h
      ∙ (λ z. threads_sections (e z) (origins_within (length (e z)) (e z) (starts_are z))
      (sections_within (length (e z)) (e z) (starts_are z)) (behind_is z) (eh z) [])

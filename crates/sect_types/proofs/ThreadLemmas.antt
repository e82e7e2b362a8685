-- One procedure or thread more.
use Rattle.std.proofs.Common.{◌≡◌, ℕ, zero, suc, ◌+◌, ◌<◌, ◌≤◌, false, List, [], ◌∷◌, ◌++◌, drop, get_or, map, length}
use Rattle.std.proofs.Common.{Result, Ok, Err, sym, ap, subst, ◌∙◌, append_assoc, length-append, arith, true, ◌&&◌}
use Rattle.std.proofs.{Common.{nat_le}, lemmas.List.{drop_all}}
use Rattle.std.proofs.lemmas.Bool.{and_parts, and_from, leb-true, le-leb}
use Rattle.std.specs.Result.{IsErrAnd}
use Rattle.sect_lemmas.proofs.Elements.{drop_next}
use Rattle.sect_front.specs.{Syntax.{BlockView}, Depth.{block_depth, procedures_depth, threads_depth}}
use Rattle.sect_front.specs.{declared.tree.Declaration.{Declaration}, declared.tree.Procedure.{Procedure}}
use Rattle.sect_front.specs.{declared.tree.Thread.{Thread}, TreeView.{TreeView}}
use Rattle.sect_types.specs.declared.rules.place.Place.{Place}
use Rattle.sect_types.specs.declared.rules.place.Place.TheVariants.{InThread, InProcedure}
use Rattle.sect_types.specs.declared.rules.rule.WalkFault.{WalkFault}
use Rattle.sect_types.specs.Sight.{Sight, names_of_records, names_of_declared}
use Rattle.sect_types.specs.Items.{Item, AProcedure, AThread, variables, local_items, block_items, procedure_items}
use Rattle.sect_types.specs.{Items.{thread_items}, Rules.{Declared, declared_in, Counts, sight}}
use Rattle.sect_types.specs.Limits.{most_locals, most_procedures, most_threads}
use Rattle.sect_types.specs.steps.{Walks.{Walks}, Standing.{declared_by}}
use Rattle.sect_types.specs.steps.Threads.{VariablesView, variables_shown, variables_fine, local_names, AreProcedures}
use Rattle.sect_types.specs.steps.{Threads.{AreThreads}, Listing.{all_known, locals_fine}, Capped.{HaveFewVariables}}
use Rattle.sect_types.specs.steps.Judging.{judge}
use Rattle.sect_types.specs.declared.rules.rule.WalkFault.TheVariants as fault

-- what comes first, and then a walk
pub walks_then : {A : Type 0} (d : Declared) (all first : List Item → List Item) (old now new : Counts)
    (r : Result A WalkFault)
    → ((w : List Item) → judge d old (all w) ≡ judge d now (first w)) → Walks d first now new r → Walks d all old new r
walks_then d all first old now new (Ok a) h k = λ w. h w ∙ k w
walks_then d all first old now new (Err fault.Memory) h k = k
walks_then d all first old now new (Err (fault.Broken i r)) h k = λ w. h w ∙ k w

-- a fault that is handed on
pub handed_on : {A : Type 0} (d : Declared) (all : List Item → List Item) (old new : Counts) (e : WalkFault)
    (r : Result A WalkFault) → IsErrAnd r (λ x. x ≡ e) → Walks {A = ℕ} d all old new (Err e) → Walks d all old new r
handed_on d all old new e (Ok a) is walks = absurd is
handed_on {A} d all old new e (Err x) is walks =
    subst (λ y. Walks {A = A} d all old new (Err y)) (sym is) (go e walks)
  where
    go : (y : WalkFault) → Walks {A = ℕ} d all old new (Err y) → Walks {A = A} d all old new (Err y)
    go fault.Memory k = tt
    go (fault.Broken n q) k = k

-- what is walked in this sight is walked in the text
pub walks_in : {A : Type 0} (t : TreeView) (list : List Declaration) (at : Place) (b : BlockView) (s : Sight)
    (ps : List Procedure) (old new : Counts) (r : Result A WalkFault)
    → s ≡ sight t.records t.globals list → ps ≡ t.procedures
    → Walks (declared_by s ps) (block_items s.locals at b) old new r
    → Walks (declared_in t) (block_items list at b) old new r
walks_in t list at b s ps old new r e f walked =
    subst (λ (x : List Procedure). Walks (declared_by (sight t.records t.globals list) x) (block_items list at b)
    old new r) f
    (subst (λ (x : Sight). Walks (declared_by x ps) (block_items x.locals at b) old new r) e walked)

-- the same locals, in the same place
pub walks_at : {A : Type 0} (d : Declared) (ls list : List Declaration) (at there : Place) (b : BlockView)
    (old new : Counts) (r : Result A WalkFault) → list ≡ ls → there ≡ at
    → Walks d (block_items list there b) old new r → Walks d (block_items ls at b) old new r
walks_at d ls list at there b old new r e f walked =
    subst (λ l. Walks d (block_items l at b) old new r) e
    (subst (λ x. Walks d (block_items list x b) old new r) f walked)

-- the body of what has these locals
pub walks_body : {A : Type 0} (d : Declared) (head : Item) (ls : List Declaration) (at : Place) (b : BlockView)
    (c0 c1 c2 c3 : Counts) (r : Result A WalkFault)
    → ((w : List Item) → judge d c0 (head ∷ w) ≡ judge d c1 w)
    → ((w : List Item) → judge d c1 (local_items [] ls w) ≡ judge d c2 w)
    → Walks d (block_items ls at b) c2 c3 r
    → Walks d (λ w. head ∷ local_items [] ls (block_items ls at b w)) c0 c3 r
walks_body d head ls at b c0 c1 c2 c3 r named listed walked =
    walks_then d (λ w. head ∷ local_items [] ls (block_items ls at b w)) (block_items ls at b) c0 c2 c3 r
    (λ w. named (local_items [] ls (block_items ls at b w)) ∙ listed (block_items ls at b w)) walked

-- a procedure more
pub procedure_more : (d : Declared) (all ps : List Procedure) (i : ℕ) (p : Procedure) (names new : List (List ℕ))
    (scopes more : List VariablesView) (old now then : Counts)
    → i < length ps → p ≡ get_or ps i p
    → AreProcedures d all (drop i ps) names scopes old now
    → ((w : List Item) → judge d now (AProcedure p.name names ∷ local_items [] (variables p)
    (block_items (variables p) (InProcedure (length names)) p.body w)) ≡ judge d then w)
    → new ≡ names ++ p.name ∷ [] → more ≡ scopes ++ variables_shown p ∷ []
    → length names < most_procedures → length (variables p) ≤ most_locals
    → all_known (names_of_records d.records) (variables p) ≡ true
    → AreProcedures d all (drop (i + 1) ps) new more old then
procedure_more d all ps i p names new scopes more old now then h e so_far step named pushed few few_own known =
    record {
      walks = λ w.
          so_far.walks w
          ∙ (ap (λ l. judge d now (procedure_items (length names) names l w)) at
          ∙ (step (procedure_items (length names + 1) (names ++ p.name ∷ []) rest w)
          ∙ (ap (λ n. judge d then (procedure_items n (names ++ p.name ∷ []) rest w)) (sym long)
          ∙ ap (λ n. judge d then (procedure_items (length n) n rest w)) (sym named))));
      shown =
          ap (λ x. x ++ map variables_shown rest) pushed
          ∙ (append_assoc scopes (variables_shown p ∷ []) (map variables_shown rest)
          ∙ (ap (λ l. scopes ++ map variables_shown l) (sym at) ∙ so_far.shown));
      few = omega (arith, ap length named, long);
      long = omega (arith, ap length named, long, ap length at, so_far.long);
      fine =
          so_far.fine
          ∙ (ap (variables_fine (names_of_records d.records)) at
          ∙ ap (λ b. b && variables_fine (names_of_records d.records) rest)
          (and_from (all_known (names_of_records d.records) (variables p))
          (nat_le (length (variables p)) most_locals) known
          (le-leb (length (variables p)) most_locals few_own)));
    }
  where
    rest : List Procedure
    rest = drop (i + 1) ps

    at : drop i ps ≡ p ∷ drop (i + 1) ps
    at = drop_next ps i p h e

    long : length (names ++ p.name ∷ []) ≡ length names + 1
    long = length-append names (p.name ∷ [])

pub procedure_fails : (d : Declared) (all ps : List Procedure) (i : ℕ) (p : Procedure) (names : List (List ℕ))
    (scopes : List VariablesView) (old now : Counts) → i < length ps → p ≡ get_or ps i p
    → AreProcedures d all (drop i ps) names scopes old now
    → (w : List Item) → judge d old (procedure_items 0 [] all w) ≡ judge d now (AProcedure p.name names
    ∷ local_items [] (variables p) (block_items (variables p) (InProcedure (length names)) p.body
    (procedure_items (length names + 1) (names ++ p.name ∷ []) (drop (i + 1) ps) w)))
procedure_fails d all ps i p names scopes old now h e so_far w =
    so_far.walks w ∙ ap (λ l. judge d now (procedure_items (length names) names l w)) (drop_next ps i p h e)

-- a thread more
pub thread_more : (d : Declared) (all ts : List Thread) (i : ℕ) (t : Thread) (names new : List (List ℕ))
    (locals more : List (List (List ℕ))) (old now then : Counts)
    → i < length ts → t ≡ get_or ts i t
    → AreThreads d all (drop i ts) names locals old now
    → ((w : List Item) → judge d now (AThread t.name names ∷ local_items [] t.locals
    (block_items t.locals (InThread false 1) t.body w)) ≡ judge d then w)
    → new ≡ names ++ t.name ∷ [] → more ≡ locals ++ names_of_declared t.locals ∷ []
    → length names < most_threads → length t.locals ≤ most_locals
    → all_known (names_of_records d.records) t.locals ≡ true
    → AreThreads d all (drop (i + 1) ts) new more old then
thread_more d all ts i t names new locals more old now then h e so_far step named pushed few few_own known =
    record {
      walks = λ w.
          so_far.walks w
          ∙ (ap (λ l. judge d now (thread_items names l w)) at
          ∙ (step (thread_items (names ++ t.name ∷ []) rest w)
          ∙ ap (λ n. judge d then (thread_items n rest w)) (sym named)));
      named =
          ap (λ x. x ++ local_names rest) pushed
          ∙ (append_assoc locals (names_of_declared t.locals ∷ []) (local_names rest)
          ∙ (ap (λ l. locals ++ local_names l) (sym at) ∙ so_far.named));
      few = omega (arith, ap length named, length-append names (t.name ∷ []));
      long = omega (arith, ap length named, length-append names (t.name ∷ []), ap length at, so_far.long);
      fine =
          so_far.fine
          ∙ (ap (locals_fine (names_of_records d.records)) at
          ∙ ap (λ b. b && locals_fine (names_of_records d.records) rest)
          (and_from (all_known (names_of_records d.records) t.locals) (nat_le (length t.locals) most_locals) known
          (le-leb (length t.locals) most_locals few_own)));
    }
  where
    rest : List Thread
    rest = drop (i + 1) ts

    at : drop i ts ≡ t ∷ drop (i + 1) ts
    at = drop_next ts i t h e

pub thread_fails : (d : Declared) (all ts : List Thread) (i : ℕ) (t : Thread) (names : List (List ℕ))
    (locals : List (List (List ℕ))) (old now : Counts) → i < length ts → t ≡ get_or ts i t
    → AreThreads d all (drop i ts) names locals old now
    → (w : List Item) → judge d old (thread_items [] all w) ≡ judge d now (AThread t.name names
    ∷ local_items [] t.locals (block_items t.locals (InThread false 1) t.body
    (thread_items (names ++ t.name ∷ []) (drop (i + 1) ts) w)))
thread_fails d all ts i t names locals old now h e so_far w =
    so_far.walks w ∙ ap (λ l. judge d now (thread_items names l w)) (drop_next ts i t h e)

-- none is left
pub threads_done : (d : Declared) (all ts : List Thread) (i : ℕ) (names : List (List ℕ))
    (locals : List (List (List ℕ))) (old now : Counts) → length ts ≤ i
    → AreThreads d all (drop i ts) names locals old now → AreThreads d all [] names locals old now
threads_done d all ts i names locals old now h so_far =
    subst (λ l. AreThreads d all l names locals old now) (drop_all i ts h) so_far

-- no procedure or thread is deeper than all
pub procedure_depth : (ps : List Procedure) (i : ℕ) (p : Procedure) → i < length ps
    → block_depth (get_or ps i p).body + 1 ≤ procedures_depth ps
procedure_depth [] i p h = absurd (omega arith)
procedure_depth (q ∷ ps) zero p h = omega arith
procedure_depth (q ∷ ps) (suc i) p h = omega (arith, procedure_depth ps i p (omega arith))

pub thread_depth : (ts : List Thread) (i : ℕ) (t : Thread) → i < length ts
    → block_depth (get_or ts i t).body + 1 ≤ threads_depth ts
thread_depth [] i t h = absurd (omega arith)
thread_depth (u ∷ ts) zero t h = omega arith
thread_depth (u ∷ ts) (suc i) t h = omega (arith, thread_depth ts i t (omega arith))

-- few variables are few parameters and few locals
pub few_variables : (records : List (List ℕ)) (ps : List Procedure) → variables_fine records ps ≡ true
    → HaveFewVariables ps
few_variables records [] h = tt
few_variables records (p ∷ ps) h =
    let few = nat_le (length (variables p)) most_locals in
    let parts = and_parts (all_known records (variables p) && few) (variables_fine records ps) h in
    let own = and_parts (all_known records (variables p)) few parts.0 in (
      omega (arith, leb-true (length (variables p)) most_locals own.1, length-append p.parameters p.locals),
      few_variables records ps parts.1,
    )

-- want of memory says nothing of the items
pub for_memory : {A : Type 0} (d : Declared) (all : List Item → List Item) (old new : Counts) (r : Result A WalkFault)
    → IsErrAnd r (λ x. x ≡ fault.Memory) → Walks d all old new r
for_memory d all old new (Ok a) is = absurd is
for_memory {A} d all old new (Err e) is = subst (λ x. Walks {A = A} d all old new (Err x)) (sym is) tt

-- a fault of what comes first
pub first_fails : (d : Declared) (one two : List Item → List Item) (c0 c1 : Counts) (e : WalkFault)
    → Walks {A = ℕ} d one c0 c1 (Err e) → Walks {A = ℕ} d (λ w. one (two w)) c0 c1 (Err e)
first_fails d one two c0 c1 fault.Memory k = tt
first_fails d one two c0 c1 (fault.Broken i r) k = λ w. k (two w)

-- a fault of what comes second
pub second_fails : (d : Declared) (one two : List Item → List Item) (c0 c1 c2 : Counts) (e : WalkFault)
    → ((w : List Item) → judge d c0 (one w) ≡ judge d c1 w) → Walks {A = ℕ} d two c1 c2 (Err e)
    → Walks {A = ℕ} d (λ w. one (two w)) c0 c2 (Err e)
second_fails d one two c0 c1 c2 fault.Memory f k = tt
second_fails d one two c0 c1 c2 (fault.Broken i r) f k = λ w. f (two w) ∙ k w

-- How nodes are added, statement by statement.
use Rattle.std.proofs.Common.{◌≡◌, ℕ, ◌+◌, List, [], ◌∷◌, ◌++◌, refl, sym, ap, ◌∙◌, ◌<◌, ◌≤◌, append_assoc}
use Rattle.std.proofs.Common.{length-append, length-drop, length, get_or, drop, arith}
use Rattle.std.proofs.lemmas.List.{at_drop_more, at_drop_all, append-nil}
use Rattle.sect_types.specs.declared.expansion.action.Label.TheVariants.{Test}
use Rattle.sect_types.specs.{declared.expansion.action.Condition.{Condition}, declared.expansion.text.Step.{Step}}
use Rattle.sect_types.specs.{Statements.{TextView, Stop, Choose, Loop}, Texts.{step_then, statements_of}}
use Rattle.sect_types.specs.Traces.{node_count}
use Rattle.sect_graph.specs.{declared.flow.Node.{Node}, declared.flow.Successors.TheVariants.{Branch}}
use Rattle.sect_graph.specs.{Layout.{entry_of, nodes_of}, Paths.{node}}
use Rattle.sect_graph.proofs.Paths.{length-nodes_of}
use Rattle.sect_types.specs.declared.expansion.text.Step.TheVariants as step

-- a statement's nodes, in front of any text
pub count_front : (s : Step) (rest : TextView)
    → node_count (step_then s rest) ≡ node_count (step_then s Stop) + node_count rest
count_front (step.Do a) rest = omega arith
count_front (step.If t p q) rest = omega arith
count_front (step.While t p) rest = omega arith
count_front (step.Section i p) rest = omega arith

pub count_more : (xs : List Step) (i : ℕ) (d : Step) → i < length xs
    → node_count (statements_of (drop i xs)) ≡ node_count (step_then (get_or xs i d) Stop) + node_count
    (statements_of (drop (i + 1) xs))
count_more xs i d h =
    at_drop_more (λ l. node_count (statements_of l)) xs i d h
    ∙ count_front (get_or xs i d) (statements_of (drop (i + 1) xs))

-- a statement's nodes, and then those of the rest
pub nodes_front : (s : Step) (rest : TextView) (n next : ℕ) →
    nodes_of (step_then s rest) n next
    ≡ nodes_of (step_then s Stop) n (entry_of rest (n + node_count (step_then s Stop)) next)
    ++ nodes_of rest (n + node_count (step_then s Stop)) next
nodes_front (step.Do a) rest n next = refl
nodes_front (step.Section i p) rest n next = refl
nodes_front (step.If t a b) rest n next =
    let e : n + 1 + node_count a + node_count b ≡ n + (1 + node_count a + node_count b + 0) = omega arith in
    let after = entry_of rest (n + (1 + node_count a + node_count b + 0)) next in
    let xs = nodes_of a (n + 1) after in
    let ys = nodes_of b (n + 1 + node_count a) after in
    let zs = nodes_of rest (n + (1 + node_count a + node_count b + 0)) next in
    let at = λ (k : ℕ).
    node (Test t) (Branch (entry_of a (n + 1) (entry_of rest k next))
    (entry_of b (n + 1 + node_count a) (entry_of rest k next)))
    ∷ (nodes_of a (n + 1) (entry_of rest k next)
    ++ (nodes_of b (n + 1 + node_count a) (entry_of rest k next) ++ nodes_of rest k next)) in
    let flat : xs ++ (ys ++ zs) ≡ (xs ++ (ys ++ [])) ++ zs = rw (append-nil ys) (sym (append_assoc xs ys zs)) in
    ap at e ∙ ap (λ l. node (Test t) (Branch (entry_of a (n + 1) after) (entry_of b (n + 1 + node_count a) after)) ∷ l)
    flat
nodes_front (step.While t a) rest n next =
    let e : n + 1 + node_count a ≡ n + (1 + node_count a + 0) = omega arith in
    let after = entry_of rest (n + (1 + node_count a + 0)) next in
    let xs = nodes_of a (n + 1) n in
    let zs = nodes_of rest (n + (1 + node_count a + 0)) next in
    let at = λ (k : ℕ). node (Test t) (Branch (entry_of a (n + 1) n) (entry_of rest k next))
    ∷ (xs ++ nodes_of rest k next) in
    let flat : xs ++ zs ≡ (xs ++ []) ++ zs = rw (append-nil xs) refl in
    ap at e ∙ ap (λ l. node (Test t) (Branch (entry_of a (n + 1) n) after) ∷ l) flat

entry_front : (s : Step) (rest : TextView) (n next : ℕ) → entry_of (step_then s rest) n next ≡ n
entry_front (step.Do a) rest n next = refl
entry_front (step.If t p q) rest n next = refl
entry_front (step.While t p) rest n next = refl
entry_front (step.Section i p) rest n next = refl

pub entry_of_text : (xs : List Step) (n next : ℕ) → 0 < length xs → entry_of (statements_of xs) n next ≡ n
entry_of_text [] n next h = absurd (omega arith)
entry_of_text (s ∷ xs) n next h = entry_front s (statements_of xs) n next

pub after_more : (xs : List Step) (i n next : ℕ) → i < length xs → entry_of (statements_of (drop i xs)) n next ≡ n
after_more xs i n next h = entry_of_text (drop i xs) n next (omega (arith, length-drop i xs))

pub after_last : (xs : List Step) (i n next : ℕ) → length xs ≤ i → entry_of (statements_of (drop i xs)) n next ≡ next
after_last xs i n next h = at_drop_all (λ l. entry_of (statements_of l) n next) xs i h

-- one statement more
pub emit_more : (xs : List Step) (i : ℕ) (s : Step) (old new init : List Node) (next after : ℕ) → i < length xs
    → s ≡ get_or xs i s
    → after ≡ entry_of (statements_of (drop (i + 1) xs)) (length old + node_count (step_then s Stop)) next
    → new ≡ old ++ nodes_of (step_then s Stop) (length old) after
    → old ++ nodes_of (statements_of (drop i xs)) (length old) next ≡ init
    → new ++ nodes_of (statements_of (drop (i + 1) xs)) (length new) next ≡ init
emit_more xs i s old new init next after h is_s is_after is_new before =
    let rest = statements_of (drop (i + 1) xs) in
    let left : statements_of (drop i xs) ≡ step_then s rest = at_drop_more statements_of xs i s h
    ∙ ap (λ x. step_then x rest) (sym is_s) in
    let mine = nodes_of (step_then s Stop) (length old) after in
    let len : length new ≡ length old + node_count (step_then s Stop) =
    omega (arith, ap length is_new, length-append old mine, length-nodes_of (step_then s Stop) (length old) after) in
    let others = nodes_of rest (length old + node_count (step_then s Stop)) next in
    let split : nodes_of (statements_of (drop i xs)) (length old) next ≡ mine ++ others =
    ap (λ c. nodes_of c (length old) next) left ∙ nodes_front s rest (length old) next
    ∙ ap (λ k. nodes_of (step_then s Stop) (length old) k ++ others) (sym is_after) in
    ap (λ k. new ++ nodes_of rest k next) len ∙ ap (λ l. l ++ others) is_new ∙ append_assoc old mine others
    ∙ ap (λ l. old ++ l) (sym split) ∙ before

-- the nodes that are there and those to come, after one statement more
pub room_more : (xs : List Step) (i : ℕ) (s : Step) (old new : List Node) (after total : ℕ) → i < length xs
    → s ≡ get_or xs i s
    → new ≡ old ++ nodes_of (step_then s Stop) (length old) after
    → length old + node_count (statements_of (drop i xs)) ≡ total
    → length new + node_count (statements_of (drop (i + 1) xs)) ≡ total
room_more xs i s old new after total h is_s is_new before =
    omega (
      arith,
      count_more xs i s h,
      ap (λ x. node_count (step_then x Stop)) is_s,
      ap length is_new,
      length-append old (nodes_of (step_then s Stop) (length old) after),
      length-nodes_of (step_then s Stop) (length old) after,
    )

-- the nodes of an `if`
pub nodes_if : (s : Step) (t : Condition) (a b : TextView) (old n1 n2 n3 : List Node)
    (start other first second next : ℕ) → step_then s Stop ≡ Choose t a b Stop
    → start ≡ length old → other ≡ start + 1 + node_count a
    → first ≡ entry_of a (start + 1) next → second ≡ entry_of b other next
    → n1 ≡ old ++ node (Test t) (Branch first second) ∷ []
    → n2 ≡ n1 ++ nodes_of a (length n1) next
    → n3 ≡ n2 ++ nodes_of b (length n2) next
    → n3 ≡ old ++ nodes_of (step_then s Stop) (length old) next
nodes_if s t a b old n1 n2 n3 start other first second next is e0 e0' e1 e2 f1 f2 f3 =
    let l1 : length n1 ≡ length old + 1 =
    omega (arith, ap length f1, length-append old (node (Test t) (Branch first second) ∷ [])) in
    let l2 : length n2 ≡ length old + 1 + node_count a =
    omega (
      arith,
      ap length f2,
      length-append n1 (nodes_of a (length n1) next),
      length-nodes_of a (length n1) next,
    ) in
    let x = node (Test t) (Branch (entry_of a (length old + 1) next)
    (entry_of b (length old + 1 + node_count a) next)) in
    let xs = nodes_of a (length old + 1) next in
    let ys = nodes_of b (length old + 1 + node_count a) next in
    let g1 : n1 ≡ old ++ x ∷ [] = rw (f1, e1, e2, e0', e0) refl in
    let g2 : n2 ≡ (old ++ x ∷ []) ++ xs = f2 ∙ rw (l1, g1) refl in
    let g3 : n3 ≡ ((old ++ x ∷ []) ++ xs) ++ ys = f3 ∙ rw (l2, g2) refl in
    let flat : ((old ++ x ∷ []) ++ xs) ++ ys ≡ old ++ x ∷ (xs ++ (ys ++ [])) = simp (append_assoc, append-nil) in
    g3 ∙ flat ∙ ap (λ f. old ++ nodes_of f (length old) next) (sym is)

-- those of a `while`
pub nodes_while : (s : Step) (t : Condition) (a : TextView) (old n1 n2 : List Node) (start first next : ℕ)
    → step_then s Stop ≡ Loop t a Stop
    → start ≡ length old → first ≡ entry_of a (start + 1) start
    → n1 ≡ old ++ node (Test t) (Branch first next) ∷ []
    → n2 ≡ n1 ++ nodes_of a (length n1) start
    → n2 ≡ old ++ nodes_of (step_then s Stop) (length old) next
nodes_while s t a old n1 n2 start first next is e0 e1 f1 f2 =
    let l1 : length n1 ≡ length old + 1 =
    omega (arith, ap length f1, length-append old (node (Test t) (Branch first next) ∷ [])) in
    let x = node (Test t) (Branch (entry_of a (length old + 1) (length old)) next) in
    let xs = nodes_of a (length old + 1) (length old) in
    let g1 : n1 ≡ old ++ x ∷ [] = rw (f1, e1, e0) refl in
    let g2 : n2 ≡ (old ++ x ∷ []) ++ xs = f2 ∙ rw (l1, e0, g1) refl in
    let flat : (old ++ x ∷ []) ++ xs ≡ old ++ x ∷ (xs ++ []) = simp (append_assoc, append-nil) in
    g2 ∙ flat ∙ ap (λ f. old ++ nodes_of f (length old) next) (sym is)

-- there is room for the second side of an `if`
pub room_if : (s : Step) (t : Condition) (a b : TextView) (old n1 n2 : List Node) (x : Node) (next most : ℕ)
    → step_then s Stop ≡ Choose t a b Stop
    → n1 ≡ old ++ x ∷ []
    → n2 ≡ n1 ++ nodes_of a (length n1) next
    → length old + node_count (step_then s Stop) ≤ most
    → length n2 + node_count b ≤ most
room_if s t a b old n1 n2 x next most is f1 f2 fits =
    omega (
      arith,
      ap node_count is,
      ap length f1,
      ap length f2,
      length-append old (x ∷ []),
      length-append n1 (nodes_of a (length n1) next),
      length-nodes_of a (length n1) next,
    )

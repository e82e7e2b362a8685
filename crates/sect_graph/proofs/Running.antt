-- Each node does the first step of what is still to run there.
use Rattle.std.proofs.Common.{◌≡◌, ℕ, zero, suc, ◌+◌, ◌-◌, ◌<◌, List, [], ◌++◌, Some, refl, sym, ap, ◌∙◌}
use Rattle.std.proofs.{Common.{subst, inl, inr, arith, length}, lemmas.Bool.{cases_lt, lt-ltb, le-ltb}}
use Rattle.std.proofs.lemmas.Option.{slice_get_within}
use Rattle.std.specs.Prelude.{slice_get}
use Rattle.sect_lemmas.proofs.Places.{one_at}
use Rattle.sect_types.specs.declared.expansion.action.Condition.{Condition}
use Rattle.sect_types.specs.{Statements.{TextView, Stop, Do, Choose, Loop, Section, joined}, Traces.{node_count}}
use Rattle.sect_types.proofs.shared.Joining.{joined_stop}
use Rattle.sect_graph.specs.{declared.flow.Node.{Node}, Layout.{entry_of, nodes_of}}
use Rattle.sect_graph.specs.Rests.{rest_before, rest_at, Begins, RunsRests}
use Rattle.sect_graph.proofs.Paths.{HasAt, has_front, has_all, behind, length-nodes_of}
use Rattle.sect_graph.proofs.shared.Rests.{past_end}

-- what is to run at the nodes from n on is what the statements say
abbrev Says : (ℕ → TextView) → TextView → ℕ → TextView → Type 0
Says rest c n k = (j : ℕ) → j < node_count c → rest (n + j) ≡ rest_before c j k

-- at the entry of statements they are to run
at_entry : (rest : ℕ → TextView) (c : TextView) (n next : ℕ) (k : TextView) → Says rest c n k → rest next ≡ k
    → rest (entry_of c n next) ≡ joined c k
at_entry rest Stop n next k says on = on
at_entry rest (Do a r) n next k says on = ap rest (omega arith) ∙ says 0 (omega arith)
at_entry rest (Choose t p q r) n next k says on = ap rest (omega arith) ∙ says 0 (omega arith)
at_entry rest (Loop t p r) n next k says on = ap rest (omega arith) ∙ says 0 (omega arith)
at_entry rest (Section i p r) n next k says on = ap rest (omega arith) ∙ says 0 (omega arith)

-- what is to run at the nodes of the parts of an `if`
says_holds : (rest : ℕ → TextView) (t : Condition) (p q r : TextView) (n : ℕ) (k : TextView)
    → Says rest (Choose t p q r) n k → Says rest p (n + 1) (joined r k)
says_holds rest t p q r n k says i lt =
    ap rest (omega arith) ∙ says (suc i) (omega arith) ∙ rw (lt-ltb i (node_count p) lt) refl

says_fails : (rest : ℕ → TextView) (t : Condition) (p q r : TextView) (n : ℕ) (k : TextView)
    → Says rest (Choose t p q r) n k → Says rest q (n + 1 + node_count p) (joined r k)
says_fails rest t p q r n k says i lt =
    let e : node_count p + i - node_count p ≡ i = omega arith in
    ap rest (omega arith) ∙ says (suc (node_count p + i)) (omega arith)
    ∙ rw (le-ltb (node_count p + i) (node_count p) (omega arith), e, lt-ltb i (node_count q) lt) refl

says_behind : (rest : ℕ → TextView) (t : Condition) (p q r : TextView) (n : ℕ) (k : TextView)
    → Says rest (Choose t p q r) n k → Says rest r (n + 1 + node_count p + node_count q) k
says_behind rest t p q r n k says i lt =
    let e : node_count p + node_count q + i - node_count p ≡ node_count q + i = omega arith in
    let f : node_count q + i - node_count q ≡ i = omega arith in
    ap rest (omega arith) ∙ says (suc (node_count p + node_count q + i)) (omega arith)
    ∙ rw (
      le-ltb (node_count p + node_count q + i) (node_count p) (omega arith),
      e,
      le-ltb (node_count q + i) (node_count q) (omega arith),
      f,
    ) refl

-- and of a `while`
says_body : (rest : ℕ → TextView) (t : Condition) (p r : TextView) (n : ℕ) (k : TextView) → Says rest (Loop t p r) n k
    → Says rest p (n + 1) (Loop t p (joined r k))
says_body rest t p r n k says i lt =
    ap rest (omega arith) ∙ says (suc i) (omega arith) ∙ rw (lt-ltb i (node_count p) lt) refl

says_past : (rest : ℕ → TextView) (t : Condition) (p r : TextView) (n : ℕ) (k : TextView) → Says rest (Loop t p r) n k
    → Says rest r (n + 1 + node_count p) k
says_past rest t p r n k says i lt =
    let e : node_count p + i - node_count p ≡ i = omega arith in
    ap rest (omega arith) ∙ says (suc (node_count p + i)) (omega arith)
    ∙ rw (le-ltb (node_count p + i) (node_count p) (omega arith), e) refl

begins : (g : List Node) (rest : ℕ → TextView) (c : TextView) (n next : ℕ) (k : TextView)
    → HasAt g n (nodes_of c n next)
    → Says rest c n k → rest next ≡ k
    → (j : ℕ) → j < node_count c → (x : Node) → slice_get g (n + j) ≡ Some x → Begins rest x (rest_before c j k)
begins g rest Stop n next k has says on j lt x at = absurd (omega arith)
begins g rest (Do a r) n next k has says on zero lt x at =
    let after = entry_of r (n + 1) next in
    let says' : Says rest r (n + 1) k = λ j lt. ap rest (omega arith) ∙ says (suc j) (omega arith) in (
      after,
      one_at g n x _ (subst (λ i. slice_get g i ≡ Some x) (omega arith) at) has.0,
      at_entry rest r (n + 1) next k says' on,
    )
begins g rest (Do a r) n next k has says on (suc j) lt x at =
    begins g rest r (n + 1) next k has.1 (λ j lt. ap rest (omega arith) ∙ says (suc j) (omega arith)) on j (omega arith)
    x (subst (λ i. slice_get g i ≡ Some x) (omega arith) at)
begins g rest (Section i p r) n next k has says on zero lt x at =
    let after = entry_of r (n + 1) next in
    let says' : Says rest r (n + 1) k = λ j lt. ap rest (omega arith) ∙ says (suc j) (omega arith) in (
      after,
      one_at g n x _ (subst (λ i. slice_get g i ≡ Some x) (omega arith) at) has.0,
      at_entry rest r (n + 1) next k says' on,
    )
begins g rest (Section i p r) n next k has says on (suc j) lt x at =
    begins g rest r (n + 1) next k has.1 (λ j lt. ap rest (omega arith) ∙ says (suc j) (omega arith)) on j (omega arith)
    x (subst (λ i. slice_get g i ≡ Some x) (omega arith) at)
begins g rest (Choose t p q r) n next k has says on zero lt x at =
    let end = n + 1 + node_count p + node_count q in
    let after = entry_of r end next in
    let on' = at_entry rest r end next k (says_behind rest t p q r n k says) on in (
      entry_of p (n + 1) after,
      entry_of q (n + 1 + node_count p) after,
      one_at g n x _ (subst (λ i. slice_get g i ≡ Some x) (omega arith) at) has.0,
      at_entry rest p (n + 1) after (joined r k) (says_holds rest t p q r n k says) on',
      at_entry rest q (n + 1 + node_count p) after (joined r k) (says_fails rest t p q r n k says) on',
    )
begins g rest (Choose t p q r) n next k has says on (suc j) lt x at =
    let end = n + 1 + node_count p + node_count q in
    let after = entry_of r end next in
    let on' = at_entry rest r end next k (says_behind rest t p q r n k says) on in
    let xs = nodes_of p (n + 1) after in
    let ys = nodes_of q (n + 1 + node_count p) after in
    let zs = nodes_of r end next in
    let has_q = behind g p (n + 1) after (ys ++ zs) has.1 in
    let has_r = behind g q (n + 1 + node_count p) after zs has_q in
    elim (cases_lt j (node_count p)) [
      | inl holds ↦ rw (lt-ltb j (node_count p) holds)
          (begins g rest p (n + 1) after (joined r k) (has_front g (n + 1) xs (ys ++ zs) has.1)
          (says_holds rest t p q r n k says) on' j holds x (subst (λ i. slice_get g i ≡ Some x) (omega arith) at))
      | inr other ↦ rw (le-ltb j (node_count p) other) (elim (cases_lt (j - node_count p) (node_count q)) [
        | inl fails ↦ rw (lt-ltb (j - node_count p) (node_count q) fails)
            (begins g rest q (n + 1 + node_count p) after (joined r k) (has_front g (n + 1 + node_count p) ys zs has_q)
            (says_fails rest t p q r n k says) on' (j - node_count p) fails x
            (subst (λ i. slice_get g i ≡ Some x) (omega arith) at))
        | inr behind ↦ rw (le-ltb (j - node_count p) (node_count q) behind)
            (begins g rest r end next k has_r (says_behind rest t p q r n k says) on (j - node_count p - node_count q)
            (omega arith) x (subst (λ i. slice_get g i ≡ Some x) (omega arith) at))
      ])
    ]
begins g rest (Loop t p r) n next k has says on zero lt x at =
    let end = n + 1 + node_count p in (
      entry_of p (n + 1) n,
      entry_of r end next,
      one_at g n x _ (subst (λ i. slice_get g i ≡ Some x) (omega arith) at) has.0,
      at_entry rest p (n + 1) n (Loop t p (joined r k)) (says_body rest t p r n k says)
          (ap rest (omega arith) ∙ says zero (omega arith)),
      at_entry rest r end next k (says_past rest t p r n k says) on,
    )
begins g rest (Loop t p r) n next k has says on (suc j) lt x at =
    let end = n + 1 + node_count p in
    let xs = nodes_of p (n + 1) n in
    let zs = nodes_of r end next in
    let has_r = behind g p (n + 1) n zs has.1 in
    elim (cases_lt j (node_count p)) [
      | inl body ↦ rw (lt-ltb j (node_count p) body)
          (begins g rest p (n + 1) n (Loop t p (joined r k)) (has_front g (n + 1) xs zs has.1)
          (says_body rest t p r n k says) (ap rest (omega arith) ∙ says zero (omega arith)) j body x
          (subst (λ i. slice_get g i ≡ Some x) (omega arith) at))
      | inr past ↦ rw (le-ltb j (node_count p) past)
          (begins g rest r end next k has_r (says_past rest t p r n k says) on (j - node_count p) (omega arith) x
          (subst (λ i. slice_get g i ≡ Some x) (omega arith) at))
    ]

at_start : (c : TextView) → rest_at c 0 ≡ joined c Stop
at_start Stop = refl
at_start (Do a r) = refl
at_start (Choose t p q r) = refl
at_start (Loop t p r) = refl
at_start (Section i p r) = refl

pub runs_rests : (c : TextView) (g : List Node) → g ≡ nodes_of c 0 (node_count c) → RunsRests c g
runs_rests c g is =
    let len : length g ≡ node_count c = ap length is ∙ length-nodes_of c 0 (node_count c) in
    let has : HasAt g 0 (nodes_of c 0 (node_count c)) =
    subst (λ l. HasAt l 0 (nodes_of c 0 (node_count c))) (sym is) (has_all (nodes_of c 0 (node_count c)) []) in
    record {
      start = at_start c ∙ joined_stop c;
      begins = λ j x at. begins g (rest_at c) c 0 (node_count c) Stop has (λ i lt. ap (rest_at c) (omega arith))
          (past_end c (node_count c) Stop (omega arith)) j (omega (arith, len, slice_get_within g j x at)) x
          (subst (λ i. slice_get g i ≡ Some x) (omega arith) at);
      end = ap (rest_at c) len ∙ past_end c (node_count c) Stop (omega arith);
    }

-- Nodes in C can be read back.
use Rattle.std.proofs.Common.{◌≡◌, ◌<◌, ℕ, Bool, true, false, not, ◌||◌, eqb, get_or, List, [], ◌++◌, refl, codes}
use Rattle.std.proofs.Common.{sym, ap, ◌∙◌, arith, append_assoc, true≢false}
use Rattle.std.specs.{Prelude.{if◌then◌else◌}, List.{list_all}}
use Rattle.sect_front.specs.TreeView.{TreeView}
use Rattle.sect_types.specs.Programs.{ProgramView}
use Rattle.sect_emit.specs.Labels.{label_text}
use Rattle.sect_c.specs.Told.{AreNames, NamesTell, DeclareAlike}
use Rattle.sect_c.specs.Naming.{value_c}
use Rattle.sect_c.specs.Statements.{place_c, successors_c, action_c, deed_c, fuel_c, opening_c, node_c, comparison_c}
use Rattle.sect_c.specs.Statements.{condition_c, crossing_c, is_reference, operation_c, is_local, target_c}
use Rattle.sect_front.specs.declared.tree.Operator.{Operator}
use Rattle.sect_front.specs.declared.tree.Operator.TheVariants.{Add, Subtract, Multiply}
use Rattle.sect_c.specs.Said.{said, label_said, node_said}
use Rattle.sect_types.specs.declared.expansion.action.Field.{Field}
use Rattle.sect_types.specs.declared.expansion.action.Action.{Action}
use Rattle.sect_types.specs.declared.expansion.action.Action.TheVariants.{Assign, Compute, New, Load, Store, Print}
use Rattle.sect_types.specs.declared.expansion.action.Condition.{Condition}
use Rattle.sect_types.specs.declared.expansion.action.Value.{Value}
use Rattle.sect_front.specs.declared.tree.Comparison.{Comparison}
use Rattle.sect_front.specs.declared.tree.Comparison.TheVariants.{Equal, NotEqual, Less, LessOrEqual}
use Rattle.sect_types.specs.declared.expansion.action.Label.{Label}
use Rattle.sect_types.specs.declared.expansion.action.Label.TheVariants.{Act, Test, Section}
use Rattle.sect_graph.specs.declared.flow.Node.{Node}
use Rattle.sect_emit.specs.declared.graphs.GraphOf.{GraphOf}
use Rattle.sect_c.specs.declared.context.Standing.{Standing}
use Rattle.sect_graph.specs.declared.flow.Successors.{Successors}
use Rattle.sect_graph.specs.declared.flow.Successors.TheVariants.{Next, Branch}
use Rattle.sect_c.proofs.Reading.{Reads, Any, Stops, told, next, ends, behind, only, apart, spelled, number}
use Rattle.sect_c.proofs.Reading.{moved, parted, differ}
use Rattle.sect_c.specs.Fits.{FitsAction, FitsLabel, FitsNext, FitsNode}
use Rattle.sect_c.proofs.Comments.{Within, label_within, comment_read}
use Rattle.sect_c.proofs.Values.{value_read}
use Rattle.sect_c.specs.Back.{standing}
use Rattle.sect_c.proofs.Lines.{place_read, jump_read, successors_read, NoElse}
use Rattle.sect_c.proofs.Actions.{is_self, is_put, parts, parted_action}
use Rattle.sect_c.proofs.Pairs.{Beginning, OfTarget, OfTest, OfOperation, OfField, OfPrint, beginning_of, beginning}
use Rattle.sect_c.proofs.Pairs.{begun, plainly, parts_read}
use Rattle.sect_types.specs.declared.expansion.action.Base.TheVariants as base
use Rattle.sect_types.specs.declared.expansion.action.Value.TheVariants as value

-- the name of a test, to the bracket behind it
abbrev before_bracket : ℕ → Bool
before_bracket b = not (eqb b 40)

abbrev comparison_of : List ℕ → Comparison
comparison_of name =
    if eqb (get_or name 0 0) 33 then NotEqual else
    if eqb (get_or name 5 0) 108 then Less else
    if eqb (get_or name 5 0) 97 then LessOrEqual else Equal

comparison_back : (c : Comparison) (a : Bool)
    → (comparison_of (comparison_c c a) ≡ c) × (list_all before_bracket (comparison_c c a) ≡ true)
comparison_back Equal true = (refl, refl)
comparison_back Equal false = (refl, refl)
comparison_back NotEqual true = (refl, refl)
comparison_back NotEqual false = (refl, refl)
comparison_back Less a = (refl, refl)
comparison_back LessOrEqual a = (refl, refl)

comparison_read : (c d : Comparison) (a b : Bool)
    → Reads (Stops before_bracket) (comparison_c c a) (comparison_c d b) (c ≡ d)
comparison_read c d a b =
    told (spelled before_bracket (comparison_c c a) (comparison_c d b) (comparison_back c a).1 (comparison_back d b).1)
    (λ e. sym (comparison_back c a).0 ∙ (ap comparison_of e ∙ (comparison_back d b).0))

condition_one : (c d : Condition) → c.comparison ≡ d.comparison → c.left ≡ d.left → c.right ≡ d.right → c ≡ d
condition_one c d e f g =
    ap (λ o. let x : Condition = record { left = c.left; comparison = o; right = c.right } in x) e
    ∙ (ap (λ v. let x : Condition = record { left = v; comparison = d.comparison; right = c.right } in x) f
    ∙ ap (λ v. let x : Condition = record { left = d.left; comparison = d.comparison; right = v } in x) g)

abbrev pub is_section : Label → Bool
is_section (Section i) = true
is_section _ = false

fuel_read : (g : GraphOf) (u k l : ℕ) → k < 65536 → l < 65536 → (x y : Label)
    → Reads Any (fuel_c (standing g u k) x) (fuel_c (standing g u l) y) (is_section x ≡ is_section y)
fuel_read g u k l a b (Section i) (Section j) = told (only (codes "(void)0")) (λ h. refl)
fuel_read g u k l a b (Section i) y =
    apart (fuel_c (standing g u k) (Section i)) (fuel_c (standing g u l) y) refl
fuel_read g u k l a b x (Section j) =
    apart (fuel_c (standing g u k) x) (fuel_c (standing g u l) (Section j)) refl
fuel_read g u k l a b x y =
    told (ends (behind (codes "SECT_STEP(") (place_read g k l a b)) (codes ")") (λ xs. refl)) (λ h. refl)

opening_read : (t o : TreeView) (g : GraphOf) (u k l n : ℕ) → k < 65536 → l < 65536 → (x y : Label)
    → Within (label_text t u x) → Within (label_text o u y)
    → Reads Any (opening_c t (standing g u k) n x) (opening_c o (standing g u l) n y) (is_section x ≡ is_section y)
opening_read t o g u k l n a b x y p q =
    comment_read (codes " " ++ place_c g n ++ codes ": " ++ fuel_c (standing g u k) x ++ codes "; /* ")
    (codes " " ++ place_c g n ++ codes ": " ++ fuel_c (standing g u l) y ++ codes "; /* ") (label_text t u x)
    (label_text o u y)
    (ends (behind (codes " " ++ place_c g n ++ codes ": ") (fuel_read g u k l a b x y)) (codes "; /* ") (λ xs. tt)) p q

module _ (p q : ProgramView) (np : AreNames p.source) (nq : AreNames q.source) (u : ℕ)
    (alike : DeclareAlike p q u) (tell : NamesTell p) (g : GraphOf) (k l : ℕ) (ck : k < 65536) (cl : l < 65536)
    (looked also : List Field) where
  abbrev here : Standing
  here = standing g u k

  abbrev there : Standing
  there = standing g u l

  condition_read : (c d : Condition) → FitsLabel p u (Test c) → FitsLabel q u (Test d)
      → Reads Any (condition_c p u c) (condition_c q u d) (c ≡ d)
  condition_read c d a b =
      let x = ends (behind (codes "  if (") (comparison_read c.comparison d.comparison (is_reference p u c.left)
      (is_reference q u d.left))) (codes "(") (λ xs. refl) in
      let y = ends (next x (value_read p q np nq u alike tell c.left d.left a.0 b.0)) (codes ", ") (λ xs. refl) in
      told (ends (next y (value_read p q np nq u alike tell c.right d.right a.1 b.1)) (codes "))\n  ") (λ xs. refl))
      (λ h. condition_one c d h.0.0 h.0.1 h.1)

  crossing_read : (i j : ℕ) → i < 65536 → j < 65536 → Reads Any (crossing_c here i) (crossing_c there j) (i ≡ j)
  crossing_read i j a b =
      let x = ends (behind (codes "  goto s") (number i j (omega arith) (omega arith))) (codes ";\n s") (λ xs. refl) in
      let y = ends (next x (number i j (omega arith) (omega arith))) (codes "_left: if (end != SECT_DONE) ")
      (λ xs. refl) in
      told (ends (next y (jump_read g k l ck cl)) (codes "\n") (λ xs. tt)) (λ h. h.0.0)

  if_false : {A : Type 0} (b : Bool) (x y : A) → b ≡ false → (if b then x else y) ≡ y
  if_false true x y e = cc
  if_false false x y e = refl

  if_true : {A : Type 0} (b : Bool) (x y : A) → b ≡ true → (if b then x else y) ≡ x
  if_true true x y e = refl
  if_true false x y e = cc

  plain_said : (a : Action) → is_self a ≡ false → said a ≡ plainly a
  plain_said (Assign x v) e = if_false (is_local x v) (Assign 0 (value.Local 0)) (Assign x v) e
  plain_said (Compute x v o w) e = refl
  plain_said (New x r site) e = refl
  plain_said (Load x b f) e = refl
  plain_said (Store b f v) e = refl
  plain_said (Print v) e = refl

  self_said : (a : Action) → is_self a ≡ true → said a ≡ Assign 0 (value.Local 0)
  self_said (Assign x v) e = if_true (is_local x v) (Assign 0 (value.Local 0)) (Assign x v) e
  self_said (Compute x v o w) e = cc
  self_said (New x r site) e = cc
  self_said (Load x b f) e = cc
  self_said (Store b f v) e = cc
  self_said (Print v) e = cc

  self_action : (t : TreeView) (looks : List Field) (s : Standing) (a : Action) → is_self a ≡ true
      → action_c t looks s a ≡ []
  self_action t looks s (Assign x v) e =
      if_true (is_local x v) [] (target_c t s x ++ value_c t s.thread v ++ codes ";\n") e
  self_action t looks s (Compute x v o w) e = absurd (true≢false (sym e))
  self_action t looks s (New x r site) e = absurd (true≢false (sym e))
  self_action t looks s (Load x b f) e = absurd (true≢false (sym e))
  self_action t looks s (Store b f v) e = absurd (true≢false (sym e))
  self_action t looks s (Print v) e = absurd (true≢false (sym e))

  node_parts : (a b c xs : List ℕ) → (a ++ b ++ c) ++ xs ≡ a ++ ((b ++ c) ++ xs)
  node_parts a b c xs = simp append_assoc

  -- what is done at a node, and where control goes on
  abbrev goes : Successors → List ℕ
  goes n = successors_c g n

  self_goes : (t : TreeView) (looks : List Field) (s : Standing) (a : Action) (n : Successors) → is_self a ≡ true
      → action_c t looks s a ++ goes n ≡ goes n
  self_goes t looks s a n e = ap (λ z. z ++ goes n) (self_action t looks s a e)

  going : (n : Successors) → (rest : List ℕ) × (goes n ≡ codes "  goto " ++ rest)
  going (Next n) = (_, refl)
  going (Branch n m) = (_, refl)

  begins_apart : (b : Bool) (k : Beginning) → differ (codes "  goto ") (beginning b k) ≡ true
  begins_apart b OfTarget = refl
  begins_apart b OfTest = refl
  begins_apart b OfOperation = refl
  begins_apart true OfField = refl
  begins_apart false OfField = refl
  begins_apart b OfPrint = refl

  abbrev tail : ProgramView → List Field → Standing → Label → Successors → List ℕ
  tail r looks s x n = deed_c r looks s x ++ successors_c s.graph n

  goes_or_begins : (t : TreeView) (looks : List Field) (s : Standing) (b : Bool) (a : Action) (n : Successors)
      (rest xs ys : List ℕ) → goes n ++ xs ≡ (parts t looks s b a ++ rest) ++ ys → ⊥
  goes_or_begins t looks s b a n rest xs ys e =
      let i = begun t looks s b a in
      let j = going n in
      parted (codes "  goto ") (beginning b (beginning_of a)) (j.0 ++ xs) (i.0 ++ (rest ++ ys))
      (begins_apart b (beginning_of a))
      (sym (append_assoc (codes "  goto ") j.0 xs) ∙ (sym (ap (λ w. w ++ xs) j.1)
      ∙ (e ∙ (append_assoc (parts t looks s b a) rest ys
      ∙ (ap (λ w. w ++ (rest ++ ys)) i.1 ∙ append_assoc (beginning b (beginning_of a)) i.0 (rest ++ ys))))))

  -- a test begins otherwise than a statement
  abbrev is_operation : List ℕ → Bool
  is_operation name = eqb (get_or name 5 0) 109 || (eqb (get_or name 6 0) 100 || eqb (get_or name 6 0) 117)

  operation_is : (o : Operator) → (is_operation (operation_c o) ≡ true)
      × (list_all before_bracket (operation_c o) ≡ true)
  operation_is Add = (refl, refl)
  operation_is Subtract = (refl, refl)
  operation_is Multiply = (refl, refl)

  comparison_isnt : (c : Comparison) (a : Bool) → is_operation (comparison_c c a) ≡ false
  comparison_isnt Equal true = refl
  comparison_isnt Equal false = refl
  comparison_isnt NotEqual true = refl
  comparison_isnt NotEqual false = refl
  comparison_isnt Less a = refl
  comparison_isnt LessOrEqual a = refl

  test_begins : (b : Bool) (k : Beginning) (c : Comparison) (a : Bool) → (k ≡ OfOperation → ⊥)
      → differ (beginning b k) (codes "  if (" ++ comparison_c c a) ≡ true
  test_begins b OfTarget c a ne = refl
  test_begins b OfTest Equal true ne = refl
  test_begins b OfTest Equal false ne = refl
  test_begins b OfTest NotEqual true ne = refl
  test_begins b OfTest NotEqual false ne = refl
  test_begins b OfTest Less a ne = refl
  test_begins b OfTest LessOrEqual a ne = refl
  test_begins b OfOperation c a ne = absurd (ne refl)
  test_begins true OfField c a ne = refl
  test_begins false OfField c a ne = refl
  test_begins b OfPrint c a ne = refl

  condition_parts : (r : ProgramView) (c : Condition) → condition_c r u c
      ≡ (codes "  if (" ++ comparison_c c.comparison (is_reference r u c.left))
      ++ (codes "(" ++ (value_c r.source u c.left
      ++ (codes ", " ++ (value_c r.source u c.right ++ codes "))\n  "))))
  condition_parts r c = six (codes "  if (" ++ comparison_c c.comparison (is_reference r u c.left)) (codes "(")
      (value_c r.source u c.left) (codes ", ") (value_c r.source u c.right) (codes "))\n  ")
    where
      six : (a b c d e f : List ℕ) → a ++ b ++ c ++ d ++ e ++ f ≡ a ++ (b ++ (c ++ (d ++ (e ++ f))))
      six a b c d e f = simp append_assoc

  regroup : (a b c xs : List ℕ) → (a ++ (b ++ c)) ++ xs ≡ (a ++ b) ++ (c ++ xs)
  regroup a b c xs = simp append_assoc

  computing : (t : TreeView) (s : Standing) (x : ℕ) (v : Value) (o : Operator) (w : Value) (r : ProgramView)
      (c : Condition) (xs ys : List ℕ) → parts t [] s true (Compute x v o w) ++ xs ≡ condition_c r u c ++ ys → ⊥
  computing t s x v o w r c xs ys e =
      let name = comparison_c c.comparison (is_reference r u c.left) in
      let one = (behind (codes "  if (") (spelled before_bracket (operation_c o) name (operation_is o).1
      (comparison_back c.comparison (is_reference r u c.left)).1)).read _ _ refl refl
      (sym (regroup (codes "  if (") (operation_c o) _ xs)
      ∙ (e ∙ (ap (λ z. z ++ ys) (condition_parts r c)
      ∙ append_assoc (codes "  if (" ++ name) (codes "(" ++ (value_c r.source u c.left
      ++ (codes ", " ++ (value_c r.source u c.right ++ codes "))\n  ")))) ys))) in
      true≢false (sym (operation_is o).0 ∙ (ap is_operation one.0
      ∙ comparison_isnt c.comparison (is_reference r u c.left)))

  begun_or_test : (t : TreeView) (looks : List Field) (s : Standing) (b : Bool) (a : Action) (r : ProgramView)
      (c : Condition) (xs ys : List ℕ) → (beginning_of a ≡ OfOperation → ⊥)
      → parts t looks s b a ++ xs ≡ condition_c r u c ++ ys → ⊥
  begun_or_test t looks s b a r c xs ys ne e =
      let i = begun t looks s b a in
      let name = comparison_c c.comparison (is_reference r u c.left) in
      let rest = codes "(" ++ (value_c r.source u c.left
      ++ (codes ", " ++ (value_c r.source u c.right ++ codes "))\n  "))) in
      parted (beginning b (beginning_of a)) (codes "  if (" ++ name) (i.0 ++ xs) (rest ++ ys)
      (test_begins b (beginning_of a) c.comparison (is_reference r u c.left) ne)
      (sym (append_assoc (beginning b (beginning_of a)) i.0 xs) ∙ (sym (ap (λ z. z ++ xs) i.1)
      ∙ (e ∙ (ap (λ z. z ++ ys) (condition_parts r c) ∙ append_assoc (codes "  if (" ++ name) rest ys))))

  -- of any two programs and standings
  action_or_test : (t : TreeView) (looks : List Field) (s : Standing) (b : Bool) (a : Action) (r : ProgramView)
      (c : Condition) (xs ys : List ℕ) → parts t looks s b a ++ xs ≡ condition_c r u c ++ ys → ⊥
  action_or_test t looks s b (Compute x v o w) r c xs ys e = computing t s x v o w r c xs ys e
  action_or_test t looks s b (Assign x v) r c xs ys e = begun_or_test t looks s b (Assign x v) r c xs ys (λ h. cc) e
  action_or_test t looks s b (New x f site) r c xs ys e = begun_or_test t looks s b (New x f site) r c xs ys (λ h. cc) e
  action_or_test t looks s b (Load x (base.Global y) f) r c xs ys e =
      begun_or_test t looks s b (Load x (base.Global y) f) r c xs ys (λ h. cc) e
  action_or_test t looks s b (Load x (base.Local y) f) r c xs ys e =
      begun_or_test t looks s b (Load x (base.Local y) f) r c xs ys (λ h. cc) e
  action_or_test t looks s b (Store (base.Global y) f v) r c xs ys e =
      begun_or_test t looks s b (Store (base.Global y) f v) r c xs ys (λ h. cc) e
  action_or_test t looks s b (Store (base.Local y) f v) r c xs ys e =
      begun_or_test t looks s b (Store (base.Local y) f v) r c xs ys (λ h. cc) e
  action_or_test t looks s b (Print v) r c xs ys e = begun_or_test t looks s b (Print v) r c xs ys (λ h. cc) e

  -- statements
  acts_read : (a b : Action) (c d : Bool) → is_self a ≡ c → is_self b ≡ d → FitsAction p u a → FitsAction q u b
      → (m n : Successors) → FitsNext m → FitsNext n
      → Reads NoElse (action_c p.source looked here a ++ goes m) (action_c q.source also there b ++ goes n)
      ((said a ≡ said b) × (m ≡ n))
  acts_read a b false false i j fa fb m n fm fn =
      moved (ap (λ z. z ++ goes m) (parted_action p.source looked here a i))
      (ap (λ z. z ++ goes n) (parted_action q.source also there b j))
      (told {Q = (said a ≡ said b) × (m ≡ n)} (next (parts_read p q np nq u alike tell g k l ck cl looked also
      (is_put looked a) (is_put also b) a b fa fb) (successors_read g m n fm fn))
      (λ h. (plain_said a i ∙ (h.0 ∙ sym (plain_said b j)), h.1)))
  acts_read a b true true i j fa fb m n fm fn =
      moved (self_goes p.source looked here a m i) (self_goes q.source also there b n j)
      (told {Q = (said a ≡ said b) × (m ≡ n)} (successors_read g m n fm fn)
      (λ h. (self_said a i ∙ sym (self_said b j), h)))
  acts_read a b true false i j fa fb m n fm fn =
      moved (self_goes p.source looked here a m i) (ap (λ z. z ++ goes n) (parted_action q.source also there b j))
      (record {
        read = λ xs ys x y e. absurd (goes_or_begins q.source also there (is_put also b) b m (goes n) xs ys e);
      })
  acts_read a b false true i j fa fb m n fm fn =
      moved (ap (λ z. z ++ goes m) (parted_action p.source looked here a i)) (self_goes q.source also there b n j)
      (record {
        read = λ xs ys x y e. absurd (goes_or_begins p.source looked here (is_put looked a) a n (goes m) ys xs (sym e));
      })

  goes_or_tests : (r : ProgramView) (c : Condition) (n : Successors) (rest xs ys : List ℕ)
      → goes n ++ xs ≡ (condition_c r u c ++ rest) ++ ys → ⊥
  goes_or_tests r c n rest xs ys e =
      let j = going n in
      let name = comparison_c c.comparison (is_reference r u c.left) in
      let more = codes "(" ++ (value_c r.source u c.left
      ++ (codes ", " ++ (value_c r.source u c.right ++ codes "))\n  "))) in
      parted (codes "  goto ") (codes "  if (" ++ name) (j.0 ++ xs) (more ++ (rest ++ ys)) refl
      (sym (append_assoc (codes "  goto ") j.0 xs) ∙ (sym (ap (λ w. w ++ xs) j.1)
      ∙ (e ∙ (append_assoc (condition_c r u c) rest ys ∙ (ap (λ z. z ++ (rest ++ ys)) (condition_parts r c)
      ∙ append_assoc (codes "  if (" ++ name) more (rest ++ ys))))))

  act_or_test : (t : TreeView) (looks : List Field) (s : Standing) (a : Action) (r : ProgramView) (c : Condition)
      (m : Successors) (rest xs ys : List ℕ) → (b : Bool) → is_self a ≡ b
      → (action_c t looks s a ++ goes m) ++ xs ≡ (condition_c r u c ++ rest) ++ ys → ⊥
  act_or_test t looks s a r c m rest xs ys true i e =
      goes_or_tests r c m rest xs ys (sym (ap (λ z. z ++ xs) (self_goes t looks s a m i)) ∙ e)
  act_or_test t looks s a r c m rest xs ys false i e =
      action_or_test t looks s (is_put looks a) a r c (goes m ++ xs) (rest ++ ys)
      (sym (append_assoc (parts t looks s (is_put looks a) a) (goes m) xs)
      ∙ (sym (ap (λ z. (z ++ goes m) ++ xs) (parted_action t looks s a i))
      ∙ (e ∙ append_assoc (condition_c r u c) rest ys)))

  tail_read : (x y : Label) → is_section x ≡ is_section y → FitsLabel p u x → FitsLabel q u y → (m n : Successors)
      → FitsNext m → FitsNext n → Reads NoElse (deed_c p looked here x ++ goes m) (deed_c q also there y ++ goes n)
      ((label_said x ≡ label_said y) × (m ≡ n))
  tail_read (Act a) (Act b) e fx fy m n fm fn =
      told {Q = (Act (said a) ≡ Act (said b)) × (m ≡ n)}
      (acts_read a b (is_self a) (is_self b) refl refl fx fy m n fm fn) (λ h. (ap Act h.0, h.1))
  tail_read (Test c) (Test d) e fx fy m n fm fn =
      told {Q = (Test c ≡ Test d) × (m ≡ n)} (next (condition_read c d fx fy) (successors_read g m n fm fn))
      (λ h. (ap Test h.0, h.1))
  tail_read (Section i) (Section j) e fx fy m n fm fn =
      told {Q = (Section i ≡ Section j) × (m ≡ n)} (next (crossing_read i j fx fy) (successors_read g m n fm fn))
      (λ h. (ap Section h.0, h.1))
  tail_read (Act a) (Test d) e fx fy m n fm fn =
      record {
        read = λ xs ys s t h. absurd (act_or_test p.source looked here a q d m (goes n) xs ys (is_self a) refl h);
      }
  tail_read (Test c) (Act b) e fx fy m n fm fn =
      record {
        read = λ xs ys s t h.
            absurd (act_or_test q.source also there b p c n (goes m) ys xs (is_self b) refl (sym h));
      }
  tail_read (Section i) (Act b) e fx fy m n fm fn = absurd (true≢false e)
  tail_read (Section i) (Test d) e fx fy m n fm fn = absurd (true≢false e)
  tail_read (Act a) (Section j) e fx fy m n fm fn = absurd (true≢false (sym e))
  tail_read (Test c) (Section j) e fx fy m n fm fn = absurd (true≢false (sym e))

  node_one : (x y : Node) → label_said x.label ≡ label_said y.label → x.next ≡ y.next → node_said x ≡ node_said y
  node_one x y e f = ap (λ o. let z : Node = record { label = o; next = x.next } in z) e
      ∙ ap (λ o. let z : Node = record { label = label_said y.label; next = o } in z) f

  pub node_read : (n : ℕ) (x y : Node) → FitsNode p u x → FitsNode q u y
      → Reads NoElse (node_c p looked here n x) (node_c q also there n y) (node_said x ≡ node_said y)
  node_read n x y fx fy = record {
    read = λ xs ys s t e.
        let first = (opening_read p.source q.source g u k l n ck cl x.label y.label
        (label_within p np u x.label fx.label)
        (label_within q nq u y.label fy.label)).read
        ((deed_c p looked here x.label ++ goes x.next) ++ xs) ((deed_c q also there y.label ++ goes y.next) ++ ys)
        tt tt
        (sym (node_parts (opening_c p.source here n x.label) (deed_c p looked here x.label) (goes x.next) xs)
        ∙ (e ∙ node_parts (opening_c q.source there n y.label) (deed_c q also there y.label) (goes y.next) ys)) in
        let rest = (tail_read x.label y.label first.0 fx.label fy.label x.next y.next fx.next fy.next).read xs ys s t
        first.1 in
        (node_one x y rest.0.0 rest.0.1, rest.1);
  }

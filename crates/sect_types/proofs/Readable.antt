-- A typed text has a text by numbers.
use Rattle.std.specs.{Prelude.{Bool, true, false, ◌||◌, IsSome, is_some}, List.{list_any}}
use Rattle.std.proofs.Common.{◌≡◌, ℕ, zero, suc, ◌+◌, List, [], ◌∷◌, Option, Some, None, refl, sym, ap, ◌∙◌, inl, inr}
use Rattle.std.proofs.Common.{arith, subst, length, slice_get, true≢false}
use Rattle.std.proofs.lemmas.List.{length-map}
use Rattle.std.proofs.lemmas.Bool.{not-false, or_parts, and_parts, cases_Bool}
use Rattle.sect_front.specs.{declared.tree.Declaration.{Declaration}, declared.tree.Operand.{Operand}}
use Rattle.sect_front.specs.{declared.tree.Procedure.{Procedure}, declared.tree.Thread.{Thread}, TreeView.{TreeView}}
use Rattle.sect_front.specs.Syntax.{StatementView, Primitive, If, IfElse, While, Atomic, Call, BlockView, End, Then}
use Rattle.sect_types.specs.{declared.counting.sums.Sums.{Sums}, declared.rules.place.Place.{Place}}
use Rattle.sect_types.specs.{declared.rules.place.Place.TheVariants.{InThread, InProcedure}, Sight.{operand_of}}
use Rattle.sect_types.specs.Items.{deeper, in_section, variables, AStatement, CallHead}
use Rattle.sect_types.specs.Sums.{sums, sums_within, number_of, names_of_procedures, prepend, statement_calls}
use Rattle.sect_types.specs.{Sums.{block_calls, calls_in}, Rules.{Declared, seen, declared_in, knows_operands}}
use Rattle.sect_types.specs.{First.{IsTyped}, Numbered.{value_of, action_of, condition_of}}
use Rattle.sect_types.specs.Expanded.{Scene, NextNumbers, Expander, past_statement, past_block, past_thread}
use Rattle.sect_types.specs.Expanded.{condition_at, expanded_statement, expanded_block, set_parameters, after_call}
use Rattle.sect_types.specs.Expanded.{call_of, procedure_numbered, expand_within, expanded_thread, expanded_threads}
use Rattle.sect_types.specs.Expanded.{texts_of}
use Rattle.sect_types.specs.steps.Clean.{IsClean, IsCleanStatement, IsCleanBlock, AreCleanThreads}
use Rattle.sect_lemmas.proofs.Places.{at_of}
use Rattle.sect_types.proofs.{Optional.{both_there, all_there, map_there}, SoundLemmas.{place_within}}
use Rattle.sect_types.proofs.{Resolved.{action_there, condition_there}, FuelLaws.{chain}}
use Rattle.sect_types.proofs.{EnoughLaws.{IsAcyclic, ends, no_way}, Walked.{text_clean}}
use Rattle.sect_types.proofs.{SiteLaws.{AreClean, typed_clean, view}, TypeLaws.{taken}, CycleLaws.{typed_acyclic}}

-- what has the name of a procedure is one
procedure_there : (ps : List Procedure) (x : List ℕ) (q : ℕ) → number_of ps x ≡ Some q
    → (p : Procedure) × (slice_get ps q ≡ Some p)
procedure_there ps x q e =
    at_of ps q
    (omega (arith, place_within x (names_of_procedures ps) q e, length-map ps (λ (p : Procedure). p.name)))

-- as many arguments as parameters, whose names are known
parameters_there : (v : Scene) (n : ℕ) (ds : List Declaration) (us : List Operand) → length ds ≡ length us
    → knows_operands v.sight us ≡ true → IsSome (set_parameters v n ds us)
parameters_there v n [] [] e k = refl
parameters_there v n [] (u ∷ us) e k = absurd (omega (arith, e))
parameters_there v n (d ∷ ds) [] e k = absurd (omega (arith, e))
parameters_there v n (d ∷ ds) (u ∷ us) e k =
    let x = and_parts (is_some (operand_of v.sight u)) (knows_operands v.sight us) k in
    both_there _ (value_of v.sight u) (set_parameters v (n + 1) ds us) (map_there _ (operand_of v.sight u) x.0)
    (parameters_there v (n + 1) ds us (omega (arith, e)) x.1)

-- what the test leaves out can be called, with arguments that fit
abbrev pub CanCall : Declared → (ℕ → Bool) → Expander → Type 0
CanCall d test f = (q : ℕ) (p : Procedure) → slice_get d.procedures q ≡ Some p → test q ≡ false
    → (ls : List Declaration) (n : ℕ) (a : NextNumbers) (vs : List Operand) → length p.parameters ≡ length vs
    → knows_operands (seen d ls) vs ≡ true → IsSome (f (Some q) (view d ls n) a vs)

call_there : (d : Declared) (test : ℕ → Bool) (f : Expander) → CanCall d test f → (ls : List Declaration) (at : Place)
    (n : ℕ) (a : NextNumbers) (x : List ℕ) (vs : List Operand) (w : List ℕ)
    → IsClean d (AStatement (CallHead x vs) ls at) → (o : Option ℕ) → number_of d.procedures x ≡ o
    → list_any test (prepend o w) ≡ false → IsSome (f o (view d ls n) a vs) × (list_any test w ≡ false)
call_there d test f h ls at n a x vs w c None e g =
    let known = and_parts (is_some (number_of d.procedures x)) (knows_operands (seen d ls) vs)
    (not-false _ c.known) in
    absurd (true≢false (sym known.0 ∙ ap is_some e))
call_there d test f h ls at n a x vs w c (Some q) e g =
    let known = and_parts (is_some (number_of d.procedures x)) (knows_operands (seen d ls) vs)
    (not-false _ c.known) in
    let p = procedure_there d.procedures x q e in
    let fits = taken d ls at x vs c p.0 (ap (procedure_numbered d.procedures) e ∙ p.1) in
    let left = or_parts (test q) (list_any test w) g in
    (h q p.0 p.1 left.0 ls n a vs fits.0 known.1, left.1)

-- a clean statement is there by numbers, where the calls in it can be called
mutual
  statement_there : (d : Declared) (test : ℕ → Bool) (table : List Sums) (f : Expander) → CanCall d test f
      → (ls : List Declaration) (at : Place) (n : ℕ) (a : NextNumbers) (s : StatementView) (w : List ℕ)
      → IsCleanStatement d ls at s → list_any test (statement_calls d.procedures s w) ≡ false
      → IsSome (expanded_statement d.procedures table f (view d ls n) a s) × (list_any test w ≡ false)
  statement_there d test table f h ls at n a (Primitive p) w c e =
      (map_there _ _ (map_there _ (action_of (seen d ls) a.sites p) (action_there d ls at a.sites p c)), e)
  statement_there d test table f h ls at n a (If t b) w c e =
      let test_there = map_there _ (condition_of (seen d ls) t) (condition_there d ls at t c.0) in
      let x = block_there d test table f h ls (deeper at) n a b w c.1 e in
      (both_there _ (condition_at (view d ls n) t) _ test_there x.0, x.1)
  statement_there d test table f h ls at n a (IfElse t b k) w c e =
      let test_there = map_there _ (condition_of (seen d ls) t) (condition_there d ls at t c.0) in
      let x = block_there d test table f h ls (deeper at) n a b (block_calls d.procedures k w) c.1 e in
      let y = block_there d test table f h ls (deeper at) n (past_block d.procedures table a b) k w c.2 x.1 in
      (all_there _ (condition_at (view d ls n) t) _ _ test_there x.0 y.0, y.1)
  statement_there d test table f h ls at n a (While t b) w c e =
      let test_there = map_there _ (condition_of (seen d ls) t) (condition_there d ls at t c.0) in
      let x = block_there d test table f h ls (deeper at) n a b w c.1 e in
      (both_there _ (condition_at (view d ls n) t) _ test_there x.0, x.1)
  statement_there d test table f h ls at n a (Atomic l b) w c e =
      let inner : NextNumbers = record a { sections = a.sections + 1 } in
      let x = block_there d test table f h ls (in_section at) n inner b w c.1 e in
      (map_there _ _ x.0, x.1)
  statement_there d test table f h ls at n a (Call x vs) w c e =
      call_there d test f h ls at n a x vs w c (number_of d.procedures x) refl e

  block_there : (d : Declared) (test : ℕ → Bool) (table : List Sums) (f : Expander) → CanCall d test f
      → (ls : List Declaration) (at : Place) (n : ℕ) (a : NextNumbers) (b : BlockView) (w : List ℕ)
      → IsCleanBlock d ls at b → list_any test (block_calls d.procedures b w) ≡ false
      → IsSome (expanded_block d.procedures table f (view d ls n) a b) × (list_any test w ≡ false)
  block_there d test table f h ls at n a End w c e = (refl, e)
  block_there d test table f h ls at n a (Then s b) w c e =
      let x = statement_there d test table f h ls at n a s (block_calls d.procedures b w) c.0 e in
      let y = block_there d test table f h ls at n (past_statement d.procedures table a s) b w c.1 x.1 in
      (both_there _ (expanded_statement d.procedures table f (view d ls n) a s) _ x.0 y.0, y.1)

-- a procedure from which no n calls lead on can be called where calls stand in one another at most n deep
within_there : (n : ℕ) (d : Declared) → AreClean d d.procedures
    → CanCall d (λ q. chain n d.procedures (Some q)) (expand_within n d.records d.globals d.procedures)
within_there zero d c q p e h ls m a vs same known = absurd (true≢false (sym (ap is_some e) ∙ h))
within_there (suc n) d c q p e h ls m a vs same known =
    let table = sums_within n d.procedures in
    let f = expand_within n d.records d.globals d.procedures in
    let left = subst (λ o. list_any (λ r. chain n d.procedures (Some r)) (calls_in d.procedures o) ≡ false) e h in
    let body = block_there d (λ r. chain n d.procedures (Some r)) table f (within_there n d c) (variables p)
    (InProcedure q) a.fresh (after_call a p) p.body [] (c q p e) left in
    subst (λ o. IsSome (call_of d.records d.globals d.procedures table f o (Some q) (view d ls m) a vs)) (sym e)
    (both_there _ (set_parameters (view d ls m) a.fresh p.parameters vs) _
    (parameters_there (view d ls m) a.fresh p.parameters vs same known) body.0)

none_of : (f : ℕ → Bool) → ((q : ℕ) → f q ≡ false) → (xs : List ℕ) → list_any f xs ≡ false
none_of f h [] = refl
none_of f h (x ∷ xs) = λ i. h x i || none_of f h xs i

no_chain : (ps : List Procedure) → IsAcyclic ps → (q : ℕ) → chain (length ps) ps (Some q) ≡ false
no_chain ps c q = elim (cases_Bool (chain (length ps) ps (Some q))) [
  | inl e ↦ absurd (ends (length ps) ps [] q c (no_way ps q) (omega arith) e)
  | inr e ↦ e
]

threads_there : (t : TreeView) → IsTyped t → (a : NextNumbers) (hs : List Thread) → AreCleanThreads (declared_in t) hs
    → IsSome (expanded_threads t a hs)
threads_there t typed a [] c = refl
threads_there t typed a (h ∷ hs) c =
    let n = length t.procedures in
    let test : ℕ → Bool = λ q. chain n t.procedures (Some q) in
    let x = block_there (declared_in t) test (sums t.procedures) (expand_within n t.records t.globals t.procedures)
    (within_there n (declared_in t) (typed_clean t typed)) h.locals (InThread false 1) 0
    (record a { fresh = length h.locals }) h.body [] c.0
    (none_of test (no_chain t.procedures (typed_acyclic t typed)) (block_calls t.procedures h.body [])) in
    both_there _ (expanded_thread t a h) _ x.0 (threads_there t typed (past_thread t a h) hs c.1)

pub texts_there : (t : TreeView) → IsTyped t → IsSome (texts_of t)
texts_there t typed =
    threads_there t typed (record { sites = length t.globals; sections = 0; fresh = 0 }) t.threads
    (text_clean t typed).1

-- The tokens of each range are those of its item.
use Rattle.std.proofs.Common.{◌≡◌, ℕ, suc, ◌+◌, ◌-◌, ◌*◌, inl, inr, false, List, [], ◌∷◌, ◌++◌, length, take, drop}
use Rattle.std.proofs.Common.{refl, sym, ◌∙◌, ap, arith}
use Rattle.sect_front.specs.Syntax.{StatementView, BlockView, Primitive, If, IfElse, While, Atomic, Call, End, Then}
use Rattle.sect_front.specs.TreeView.{TreeView}
use Rattle.sect_front.specs.Grammar.{tokens_of, operand_token, operand_list, in_parens, separated}
use Rattle.sect_front.specs.Tokens.{primitive_tokens, operands_tokens, statement_tokens, block_tokens}
use Rattle.sect_front.specs.Tokens.{declarations_tokens, more_parameters, parameters_tokens, records_tokens}
use Rattle.sect_front.specs.{Tokens.{globals_tokens, procedures_tokens, threads_tokens}, declared.token.Token.{Token}}
use Rattle.sect_front.specs.{declared.tree.Operand.{Operand}, declared.tree.Declaration.{Declaration}}
use Rattle.sect_front.specs.{declared.tree.Record.{Record}, declared.tree.GlobalObject.{GlobalObject}}
use Rattle.sect_front.specs.{declared.tree.Procedure.{Procedure}, declared.tree.Thread.{Thread}}
use Rattle.sect_front.proofs.shared.Listed.{tokens_same}
use Rattle.sect_types.specs.declared.rules.place.Place.{Place}
use Rattle.sect_types.specs.declared.rules.place.Place.TheVariants.{InThread, InProcedure}
use Rattle.sect_types.specs.Items.{Item, deeper, in_section, statement_items, block_items, field_items, record_items}
use Rattle.sect_types.specs.Items.{global_items, local_items, variables, procedure_items, thread_items, items}
use Rattle.sect_places.specs.declared.range.TokenRange.{TokenRange}
use Rattle.sect_places.specs.Counts.{primitive_count, operands_count, parameters_count, statement_count, block_count}
use Rattle.sect_places.specs.Counts.{record_count, procedure_count, thread_count}
use Rattle.sect_places.specs.Ranges.{statement_ranges, block_ranges, declarations_ranges, records_ranges}
use Rattle.sect_places.specs.Ranges.{globals_ranges, procedures_ranges, threads_ranges, item_tokens}
use Rattle.sect_places.specs.Own.{primitive_own, AreOwn}
use Rattle.sect_places.proofs.Past.{ahead, moved, past_statement, past_block, at_fields, past_record, at_locals}
use Rattle.sect_places.proofs.Past.{at_body, past_procedure, at_statements, past_thread, past_records, past_globals}
use Rattle.sect_places.proofs.Past.{past_procedures}
use Rattle.sect_front.specs.declared.token.Token.TheVariants as token
use Rattle.sect_front.specs.declared.tree.Primitive as leaf
use Rattle.sect_front.specs.declared.tree.Primitive.TheVariants as primitive
use Rattle.sect_front.specs.declared.tree.Locking.TheVariants as locking

own_primitive : (p : leaf.Primitive) (w : List Token)
    → take (primitive_count p - 1) (primitive_tokens p w) ≡ primitive_own p
own_primitive (primitive.Assign x v) w = refl
own_primitive (primitive.Compute x v o u) w = refl
own_primitive (primitive.New x r) w = refl
own_primitive (primitive.Load x y f) w = refl
own_primitive (primitive.Store y f v) w = refl
own_primitive (primitive.Print v) w = refl

-- the arguments of a call through `)`
own_operands : (vs : List Operand) (w : List Token)
    → take (operands_count vs + 1) (operands_tokens vs (token.CloseParen ∷ w))
    ≡ separated operand_list vs ++ token.CloseParen ∷ []
own_operands [] w = refl
own_operands (v ∷ []) w = refl
own_operands (v ∷ u ∷ vs) w =
    let e : operands_count (v ∷ u ∷ vs) + 1 ≡ suc (suc (operands_count (u ∷ vs) + 1)) = omega arith in
    ap (λ k. take k (operands_tokens (v ∷ u ∷ vs) (token.CloseParen ∷ w))) e
    ∙ ap (λ x. operand_token v ∷ token.Comma ∷ x) (own_operands (u ∷ vs) w)

own_call : (f : List ℕ) (vs : List Operand) (w : List Token)
    → take (4 + operands_count vs) (statement_tokens (Call f vs) w)
    ≡ token.Call ∷ token.Name f ∷ in_parens (separated operand_list vs)
own_call f vs w =
    let e : 4 + operands_count vs ≡ suc (suc (suc (operands_count vs + 1))) = omega arith in
    ap (λ k. take k (statement_tokens (Call f vs) w)) e
    ∙ ap (λ x. token.Call ∷ token.Name f ∷ token.OpenParen ∷ x) (own_operands vs (token.Semicolon ∷ w))

mutual
  own_statement : (all : List Token) (n : ℕ) (s : StatementView) (w : List Token) (ls : List Declaration) (at : Place)
      (rs : List TokenRange) (xs : List Item) → drop n all ≡ statement_tokens s w → AreOwn all rs xs
      → AreOwn all (statement_ranges n s rs) (statement_items ls at s xs)
  own_statement all n (Primitive p) w ls at rs xs h k =
      (ap (take (primitive_count p - 1)) h ∙ own_primitive p w, k)
  own_statement all n (If t a) w ls at rs xs h k = (
    inl (ap (take 6) h),
    own_block all (n + 7) a (token.CloseBrace ∷ w) ls (deeper at) rs xs (ahead all n 7 _ h) k,
  )
  own_statement all n (IfElse t a b) w ls at rs xs h k =
      let v : List Token = token.CloseBrace ∷ token.Else ∷ token.OpenBrace ∷ block_tokens b (token.CloseBrace ∷ w) in (
        inl (ap (take 6) h),
        own_block all (n + 7) a v ls (deeper at) _ _ (ahead all n 7 _ h)
            (own_block all (n + 7 + block_count a + 3) b (token.CloseBrace ∷ w) ls (deeper at) rs xs
            (ahead all (n + 7 + block_count a) 3 _ (past_block all (n + 7) a v (ahead all n 7 _ h))) k),
      )
  own_statement all n (While t a) w ls at rs xs h k = (
    inr (ap (take 6) h),
    own_block all (n + 7) a (token.CloseBrace ∷ w) ls (deeper at) rs xs (ahead all n 7 _ h) k,
  )
  own_statement all n (Atomic locking.Inferred a) w ls at rs xs h k = (
    inl (ap (take 1) h),
    own_block all (n + 1 + 1) a (token.CloseBrace ∷ w) ls (in_section at) rs xs
        (moved all (n + 2) (n + 1 + 1) _ (omega arith) (ahead all n 2 _ h)) k,
  )
  own_statement all n (Atomic locking.All a) w ls at rs xs h k = (
    inr (ap (take 2) h),
    own_block all (n + 2 + 1) a (token.CloseBrace ∷ w) ls (in_section at) rs xs
        (moved all (n + 3) (n + 2 + 1) _ (omega arith) (ahead all n 3 _ h)) k,
  )
  own_statement all n (Call f vs) w ls at rs xs h k =
      (ap (take (4 + operands_count vs)) h ∙ own_call f vs w, k)

  own_block : (all : List Token) (n : ℕ) (b : BlockView) (w : List Token) (ls : List Declaration) (at : Place)
      (rs : List TokenRange) (xs : List Item) → drop n all ≡ block_tokens b w → AreOwn all rs xs
      → AreOwn all (block_ranges n b rs) (block_items ls at b xs)
  own_block all n End w ls at rs xs h k = k
  own_block all n (Then s b) w ls at rs xs h k =
      own_statement all n s (block_tokens b w) ls at _ _ h
      (own_block all (n + statement_count s) b w ls at rs xs (past_statement all n s (block_tokens b w) h) k)

own_fields : (all : List Token) (n : ℕ) (ds : List Declaration) (w : List Token) (before : List (List ℕ))
    (rs : List TokenRange) (xs : List Item) → drop n all ≡ declarations_tokens ds w → AreOwn all rs xs
    → AreOwn all (declarations_ranges n ds rs) (field_items before ds xs)
own_fields all n [] w before rs xs h k = k
own_fields all n (d ∷ ds) w before rs xs h k =
    (ap (take 2) h, own_fields all (n + 3) ds w (before ++ d.name ∷ []) rs xs (ahead all n 3 _ h) k)

own_locals : (all : List Token) (n : ℕ) (ds : List Declaration) (w : List Token) (before : List (List ℕ))
    (rs : List TokenRange) (xs : List Item) → drop n all ≡ declarations_tokens ds w → AreOwn all rs xs
    → AreOwn all (declarations_ranges n ds rs) (local_items before ds xs)
own_locals all n [] w before rs xs h k = k
own_locals all n (d ∷ ds) w before rs xs h k =
    (ap (take 2) h, own_locals all (n + 3) ds w (before ++ d.name ∷ []) rs xs (ahead all n 3 _ h) k)

-- parameters, and the locals behind them
own_more : (all : List Token) (n m : ℕ) (ds es : List Declaration) (w : List Token) (before : List (List ℕ))
    (rs : List TokenRange) (xs : List Item) → m ≡ n + 1 → drop n all ≡ more_parameters ds w
    → ((names : List (List ℕ)) → AreOwn all rs (local_items names es xs))
    → AreOwn all (declarations_ranges m ds rs) (local_items before (ds ++ es) xs)
own_more all n m [] es w before rs xs e h k = k before
own_more all n m (d ∷ ds) es w before rs xs e h k = (
  ap (take 2) (moved all (n + 1) m _ (sym e) (ahead all n 1 _ h)),
  own_more all (n + 3) (m + 3) ds es w (before ++ d.name ∷ []) rs xs (omega (arith, e)) (ahead all n 3 _ h) k,
)

own_parameters : (all : List Token) (n : ℕ) (ds es : List Declaration) (w : List Token) (before : List (List ℕ))
    (rs : List TokenRange) (xs : List Item) → drop n all ≡ parameters_tokens ds w
    → ((names : List (List ℕ)) → AreOwn all rs (local_items names es xs))
    → AreOwn all (declarations_ranges n ds rs) (local_items before (ds ++ es) xs)
own_parameters all n [] es w before rs xs h k = k before
own_parameters all n (d ∷ ds) es w before rs xs h k = (
  ap (take 2) h,
  own_more all (n + 2) (n + 3) ds es w (before ++ d.name ∷ []) rs xs (omega arith) (ahead all n 2 _ h) k,
)

own_records : (all : List Token) (n : ℕ) (list : List Record) (w : List Token) (before : List (List ℕ))
    (rs : List TokenRange) (xs : List Item) → drop n all ≡ records_tokens list w → AreOwn all rs xs
    → AreOwn all (records_ranges n list rs) (record_items before list xs)
own_records all n [] w before rs xs h k = k
own_records all n (r ∷ list) w before rs xs h k = (
  ap (take 2) h,
  own_fields all (n + 2 + 2 * length r.hints + 1) r.fields (token.CloseBrace ∷ records_tokens list w) [] _ _
      (at_fields all n r (records_tokens list w) h)
      (own_records all (n + record_count r) list w (before ++ r.name ∷ []) rs xs
      (past_record all n r (records_tokens list w) h) k),
)

own_globals : (all : List Token) (n : ℕ) (list : List GlobalObject) (w : List Token) (before : List (List ℕ))
    (rs : List TokenRange) (xs : List Item) → drop n all ≡ globals_tokens list w → AreOwn all rs xs
    → AreOwn all (globals_ranges n list rs) (global_items before list xs)
own_globals all n [] w before rs xs h k = k
own_globals all n (g ∷ list) w before rs xs h k =
    (ap (take 3) h, own_globals all (n + 4) list w (before ++ g.name ∷ []) rs xs (ahead all n 4 _ h) k)

own_procedures : (all : List Token) (n : ℕ) (list : List Procedure) (w : List Token) (i : ℕ) (before : List (List ℕ))
    (rs : List TokenRange) (xs : List Item) → drop n all ≡ procedures_tokens list w → AreOwn all rs xs
    → AreOwn all (procedures_ranges n list rs) (procedure_items i before list xs)
own_procedures all n [] w i before rs xs h k = k
own_procedures all n (p ∷ list) w i before rs xs h k =
    let v : List Token = procedures_tokens list w in (
      ap (take 2) h,
      own_parameters all (n + 3) p.parameters p.locals
          (token.CloseParen ∷ token.OpenBrace
          ∷ declarations_tokens p.locals (block_tokens p.body (token.CloseBrace ∷ v))) [] _ _ (ahead all n 3 _ h)
          (λ names. own_locals all (n + 3 + parameters_count p.parameters + 2) p.locals
          (block_tokens p.body (token.CloseBrace ∷ v)) names _ _ (at_locals all n p v h)
          (own_block all (n + 3 + parameters_count p.parameters + 2 + 3 * length p.locals) p.body
          (token.CloseBrace ∷ v) (variables p) (InProcedure i) _ _ (at_body all n p v h)
          (own_procedures all (n + procedure_count p) list w (i + 1) (before ++ p.name ∷ []) rs xs
          (past_procedure all n p v h) k))),
    )

own_threads : (all : List Token) (n : ℕ) (list : List Thread) (w : List Token) (before : List (List ℕ))
    (rs : List TokenRange) (xs : List Item) → drop n all ≡ threads_tokens list w → AreOwn all rs xs
    → AreOwn all (threads_ranges n list rs) (thread_items before list xs)
own_threads all n [] w before rs xs h k = k
own_threads all n (t ∷ list) w before rs xs h k =
    let v : List Token = threads_tokens list w in (
      ap (take 2) h,
      own_locals all (n + 3) t.locals (block_tokens t.body (token.CloseBrace ∷ v)) [] _ _ (ahead all n 3 _ h)
          (own_block all (n + 3 + 3 * length t.locals) t.body (token.CloseBrace ∷ v) t.locals (InThread false 1) _ _
          (at_statements all n t v h)
          (own_threads all (n + thread_count t) list w (before ++ t.name ∷ []) rs xs (past_thread all n t v h) k)),
    )

pub are_own : (t : TreeView) → AreOwn (tokens_of t) (item_tokens t) (items t)
are_own t =
    let all : List Token = tokens_of t in
    let threads : List Token = threads_tokens t.threads [] in
    let procedures : List Token = procedures_tokens t.procedures threads in
    let globals : List Token = globals_tokens t.globals procedures in
    let behind_records = past_records all 0 t.records globals (tokens_same t) in
    let behind_globals = past_globals all _ t.globals procedures behind_records in
    let behind_procedures = past_procedures all _ t.procedures threads behind_globals in
    own_records all 0 t.records globals [] _ _ (tokens_same t)
    (own_globals all _ t.globals procedures [] _ _ behind_records
    (own_procedures all _ t.procedures threads 0 [] _ _ behind_globals
    (own_threads all _ t.threads [] [] [] [] behind_procedures tt)))

pub own_many : (all : List Token) (rs : List TokenRange) (xs : List Item) → AreOwn all rs xs → length rs ≡ length xs
own_many all [] [] h = refl
own_many all [] (x ∷ xs) h = absurd h
own_many all (r ∷ rs) [] h = absurd h
own_many all (r ∷ rs) (x ∷ xs) h = ap suc (own_many all rs xs h.1)

-- What follows the parts of a tree in a list of tokens, by how many tokens they have.
use Rattle.std.proofs.Common.{◌≡◌, ℕ, ◌+◌, ◌*◌, List, [], ◌∷◌, ◌++◌, length, drop, refl, sym, ◌∙◌, ap, arith}
use Rattle.std.proofs.lemmas.List.{drop-drop}
use Rattle.sect_front.specs.{Syntax.{StatementView, BlockView}, TreeView.{TreeView}, Grammar.{tokens_of}}
use Rattle.sect_front.specs.Tokens.{statement_tokens, block_tokens, declarations_tokens, hints_tokens, record_tokens}
use Rattle.sect_front.specs.Tokens.{parameters_tokens, procedure_tokens, thread_tokens, records_tokens, globals_tokens}
use Rattle.sect_front.specs.{Tokens.{procedures_tokens, threads_tokens}, declared.token.Token.{Token}}
use Rattle.sect_front.specs.{declared.tree.Declaration.{Declaration}, declared.tree.Record.{Record}}
use Rattle.sect_front.specs.{declared.tree.GlobalObject.{GlobalObject}, declared.tree.Procedure.{Procedure}}
use Rattle.sect_front.specs.declared.tree.Thread.{Thread}
use Rattle.sect_front.proofs.shared.Listed.{tokens_same}
use Rattle.sect_places.specs.Counts.{parameters_count, statement_count, block_count, record_count, procedure_count}
use Rattle.sect_places.specs.Counts.{thread_count, records_count, procedures_count, tree_count}
use Rattle.sect_places.proofs.Lengths.{statement_behind, block_behind, declarations_behind, hints_behind, parts}
use Rattle.sect_places.proofs.Lengths.{parameters_behind, parts_behind, statement_long, block_long, declarations_long}
use Rattle.sect_places.proofs.Lengths.{hints_long, parameters_long, record_long, procedure_long, thread_long}
use Rattle.sect_places.proofs.Lengths.{records_long, globals_long, procedures_long, threads_long}
use Rattle.sect_front.specs.declared.token.Token.TheVariants as token

-- behind the first k of what stands at n
pub ahead : {A : Type 0} (all : List A) (n k : ℕ) (w : List A) → drop n all ≡ w → drop (n + k) all ≡ drop k w
ahead all n k w h = sym (drop-drop k n all) ∙ ap (drop k) h

-- the same place by another sum
pub moved : {A : Type 0} (all : List A) (n m : ℕ) (w : List A) → n ≡ m → drop n all ≡ w → drop m all ≡ w
moved all n m w e h = ap (λ k. drop k all) (sym e) ∙ h

-- behind these tokens
behind : (all : List Token) (n k : ℕ) (ts w : List Token) → k ≡ n + length ts → drop n all ≡ ts ++ w → drop k all ≡ w
behind all n k ts w e h = moved all (n + length ts) k w (sym e) (ahead all n (length ts) (ts ++ w) h ∙ front ts)
  where
    front : (us : List Token) → drop (length us) (us ++ w) ≡ w
    front [] = refl
    front (u ∷ us) = front us

pub past_statement : (all : List Token) (n : ℕ) (s : StatementView) (w : List Token)
    → drop n all ≡ statement_tokens s w → drop (n + statement_count s) all ≡ w
past_statement all n s w h =
    behind all n _ (statement_tokens s []) w (omega (arith, statement_long s [])) (h ∙ sym (statement_behind s w))

pub past_block : (all : List Token) (n : ℕ) (b : BlockView) (w : List Token) → drop n all ≡ block_tokens b w
    → drop (n + block_count b) all ≡ w
past_block all n b w h =
    behind all n _ (block_tokens b []) w (omega (arith, block_long b [])) (h ∙ sym (block_behind b [] w))

past_declarations : (all : List Token) (n : ℕ) (ds : List Declaration) (w : List Token)
    → drop n all ≡ declarations_tokens ds w → drop (n + 3 * length ds) all ≡ w
past_declarations all n ds w h =
    behind all n _ (declarations_tokens ds []) w (omega (arith, declarations_long ds []))
    (h ∙ sym (declarations_behind ds [] w))

-- where the fields of a record begin
pub at_fields : (all : List Token) (n : ℕ) (r : Record) (w : List Token) → drop n all ≡ record_tokens r w
    → drop (n + 2 + 2 * length r.hints + 1) all ≡ declarations_tokens r.fields (token.CloseBrace ∷ w)
at_fields all n r w h =
    let fields = declarations_tokens r.fields (token.CloseBrace ∷ w) in
    behind all (n + 2) _ (hints_tokens r.hints (token.OpenBrace ∷ [])) fields
    (omega (arith, hints_long r.hints (token.OpenBrace ∷ [])))
    (ahead all n 2 _ h ∙ sym (hints_behind r.hints (token.OpenBrace ∷ []) fields))

pub past_record : (all : List Token) (n : ℕ) (r : Record) (w : List Token) → drop n all ≡ record_tokens r w
    → drop (n + record_count r) all ≡ w
past_record all n r w h =
    behind all n _ (record_tokens r []) w (omega (arith, record_long r []))
    (h ∙ sym (parts_behind (parts (r ∷ []) [] [] []) w))

-- where the locals of a procedure begin
pub at_locals : (all : List Token) (n : ℕ) (p : Procedure) (w : List Token) → drop n all ≡ procedure_tokens p w
    → drop (n + 3 + parameters_count p.parameters + 2) all
    ≡ declarations_tokens p.locals (block_tokens p.body (token.CloseBrace ∷ w))
at_locals all n p w h =
    let body = declarations_tokens p.locals (block_tokens p.body (token.CloseBrace ∷ w)) in
    let end = token.CloseParen ∷ token.OpenBrace ∷ [] in
    behind all (n + 3) _ (parameters_tokens p.parameters end) body (omega (arith, parameters_long p.parameters end))
    (ahead all n 3 _ h ∙ sym (parameters_behind p.parameters end body))

pub at_body : (all : List Token) (n : ℕ) (p : Procedure) (w : List Token) → drop n all ≡ procedure_tokens p w
    → drop (n + 3 + parameters_count p.parameters + 2 + 3 * length p.locals) all
    ≡ block_tokens p.body (token.CloseBrace ∷ w)
at_body all n p w h =
    past_declarations all (n + 3 + parameters_count p.parameters + 2) p.locals
    (block_tokens p.body (token.CloseBrace ∷ w)) (at_locals all n p w h)

pub past_procedure : (all : List Token) (n : ℕ) (p : Procedure) (w : List Token) → drop n all ≡ procedure_tokens p w
    → drop (n + procedure_count p) all ≡ w
past_procedure all n p w h =
    behind all n _ (procedure_tokens p []) w (omega (arith, procedure_long p []))
    (h ∙ sym (parts_behind (parts [] [] (p ∷ []) []) w))

-- where the statements of a thread begin
pub at_statements : (all : List Token) (n : ℕ) (t : Thread) (w : List Token) → drop n all ≡ thread_tokens t w
    → drop (n + 3 + 3 * length t.locals) all ≡ block_tokens t.body (token.CloseBrace ∷ w)
at_statements all n t w h =
    past_declarations all (n + 3) t.locals (block_tokens t.body (token.CloseBrace ∷ w)) (ahead all n 3 _ h)

pub past_thread : (all : List Token) (n : ℕ) (t : Thread) (w : List Token) → drop n all ≡ thread_tokens t w
    → drop (n + thread_count t) all ≡ w
past_thread all n t w h =
    behind all n _ (thread_tokens t []) w (omega (arith, thread_long t []))
    (h ∙ sym (parts_behind (parts [] [] [] (t ∷ [])) w))

pub past_records : (all : List Token) (n : ℕ) (rs : List Record) (w : List Token) → drop n all ≡ records_tokens rs w
    → drop (n + records_count rs) all ≡ w
past_records all n rs w h =
    behind all n _ (records_tokens rs []) w (omega (arith, records_long rs []))
    (h ∙ sym (parts_behind (parts rs [] [] []) w))

pub past_globals : (all : List Token) (n : ℕ) (gs : List GlobalObject) (w : List Token)
    → drop n all ≡ globals_tokens gs w → drop (n + 4 * length gs) all ≡ w
past_globals all n gs w h =
    behind all n _ (globals_tokens gs []) w (omega (arith, globals_long gs []))
    (h ∙ sym (parts_behind (parts [] gs [] []) w))

pub past_procedures : (all : List Token) (n : ℕ) (ps : List Procedure) (w : List Token)
    → drop n all ≡ procedures_tokens ps w → drop (n + procedures_count ps) all ≡ w
past_procedures all n ps w h =
    behind all n _ (procedures_tokens ps []) w (omega (arith, procedures_long ps []))
    (h ∙ sym (parts_behind (parts [] [] ps []) w))

-- so many tokens a tree has
pub count_is : (t : TreeView) → length (tokens_of t) ≡ tree_count t
count_is t =
    let threads = threads_tokens t.threads [] in
    let procedures = procedures_tokens t.procedures threads in
    omega (
      arith,
      ap length (tokens_same t),
      records_long t.records (globals_tokens t.globals procedures),
      globals_long t.globals procedures,
      procedures_long t.procedures threads,
      threads_long t.threads [],
    )

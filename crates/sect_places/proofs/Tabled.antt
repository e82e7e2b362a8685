-- The table of spans that the reader makes is that of the ranges of tokens.
use Rattle.std.proofs.Common.{◌≡◌, ℕ, zero, suc, ◌+◌, ◌-◌, ◌*◌, List, [], ◌∷◌, ◌++◌, length, drop, map, get_or}
use Rattle.std.proofs.Common.{refl, sym, ◌∙◌, ap, subst, arith, append_assoc, append-nil, ◌≤◌}
use Rattle.std.proofs.lemmas.List.{drop-drop}
use Rattle.sect_front.specs.Syntax.{StatementView, BlockView, Primitive, If, IfElse, While, Atomic, Call, End, Then}
use Rattle.sect_front.specs.{TreeView.{TreeView}, TokenAt.{TokenAt}, Gaps.{after_gap}, Spelling.{spelling_of}}
use Rattle.sect_front.specs.{FaultPlaces.{token_span}, Faults.{tokens_in}, Lexing.{Reaches}, Front.{IsSpelled}}
use Rattle.sect_front.specs.{Grammar.{operand_token, operator_token, kind_token}, Tokens.{primitive_tokens}}
use Rattle.sect_front.specs.Tokens.{test_tokens, operands_tokens, statement_tokens, block_tokens}
use Rattle.sect_front.specs.Tokens.{declarations_tokens, hints_tokens, more_parameters, parameters_tokens}
use Rattle.sect_front.specs.Tokens.{record_tokens, global_tokens, procedure_tokens, thread_tokens, records_tokens}
use Rattle.sect_front.specs.Tokens.{globals_tokens, procedures_tokens, threads_tokens, source_tokens}
use Rattle.sect_front.specs.{declared.span.Span.{Span}, declared.token.Token.{Token}}
use Rattle.sect_front.specs.{declared.tree.Declaration.{Declaration}}
use Rattle.sect_front.specs.{declared.tree.Record.{Record}, declared.tree.GlobalObject.{GlobalObject}}
use Rattle.sect_front.specs.{declared.tree.Procedure.{Procedure}, declared.tree.Thread.{Thread}}
use Rattle.sect_front.specs.ItemSpans.{past, left, span_of, primitive_own, statement_spans, block_spans}
use Rattle.sect_front.specs.ItemSpans.{declaration_own, declarations_spans, more_parameters_spans, parameters_spans}
use Rattle.sect_front.specs.ItemSpans.{body_spans, record_spans, global_spans, procedure_spans, thread_spans, each}
use Rattle.sect_front.specs.ItemSpans.{source_spans, AreSpansOf}
use Rattle.sect_front.proofs.shared.Listed.{tokens_same}
use Rattle.sect_places.specs.{declared.range.TokenRange.{TokenRange}, Spans.{no_span, span_in}, Items.{AreItemSpans}}
use Rattle.sect_places.specs.Ranges.{range, statement_ranges, block_ranges, declarations_ranges, record_ranges}
use Rattle.sect_places.specs.Ranges.{procedure_ranges, thread_ranges, records_ranges, globals_ranges}
use Rattle.sect_places.specs.Ranges.{procedures_ranges, threads_ranges, item_tokens}
use Rattle.sect_places.specs.Counts.{primitive_count, operands_count, parameters_count, statement_count, block_count}
use Rattle.sect_places.specs.Counts.{record_count, procedure_count, thread_count, records_count, procedures_count}
use Rattle.sect_places.proofs.Lengths.{block_behind, statement_behind, operands_behind, declarations_behind}
use Rattle.sect_places.proofs.Lengths.{hints_behind, parameters_behind, parts, parts_behind, operands_long}
use Rattle.sect_places.proofs.Lengths.{statement_long, block_long, declarations_long, hints_long, parameters_long}
use Rattle.sect_places.proofs.Lengths.{record_long, procedure_long, thread_long, records_long, globals_long}
use Rattle.sect_places.proofs.Lengths.{procedures_long}
use Rattle.sect_places.proofs.{Placing.{first_length}, Whole.{item_spans_are}, Owned.{are_own}}
use Rattle.sect_front.specs.declared.token.Token.TheVariants as token
use Rattle.sect_front.specs.declared.tree.Primitive as leaf
use Rattle.sect_front.specs.declared.tree.Primitive.TheVariants as primitive
use Rattle.sect_front.specs.declared.tree.Locking.TheVariants as locking

-- 1. Tokens that stand here.

module _ (bytes : List ℕ) (places : List TokenAt) where
  abbrev all : List Token
  all = tokens_in places

  abbrev total : ℕ
  total = length bytes

  abbrev spans : List Span
  spans = map token_span places

  -- the token of this number stands here, or all have passed
  pub record At (n : ℕ) (here : List ℕ) : Type 0 where
    pub before : List ℕ
    pub last : List ℕ
    pub reaches : Reaches total before (drop n places) last
    pub gap : after_gap before ≡ here

  -- the first of them, with its place
  record First (n : ℕ) (here : List ℕ) (t : Token) : Type 0 where
    p : TokenAt
    token : p.token ≡ t
    found : get_or spans n no_span ≡ token_span p
    place : p.at + length here ≡ total
    within : length (spelling_of t) ≤ length here
    more : At (n + 1) (past here (t ∷ []))

  got : (n : ℕ) (ps : List TokenAt) (p : TokenAt) (rest : List TokenAt) → drop n ps ≡ p ∷ rest
      → get_or (map token_span ps) n no_span ≡ token_span p
  got zero [] p rest e = absurd cc
  got zero (q ∷ ps) p rest e = ap (λ (l : List TokenAt). get_or (map token_span l) 0 no_span) e
  got (suc n) [] p rest e = absurd cc
  got (suc n) (q ∷ ps) p rest e = got n ps p rest e

  tokens_dropped : (n : ℕ) (ps : List TokenAt) → tokens_in (drop n ps) ≡ drop n (tokens_in ps)
  tokens_dropped zero ps = refl
  tokens_dropped (suc n) [] = refl
  tokens_dropped (suc n) (p ∷ ps) = tokens_dropped n ps

  first_of : (n : ℕ) (here : List ℕ) (t : Token) (w : List Token) (ps : List TokenAt) → drop n places ≡ ps → At n here
      → tokens_in ps ≡ t ∷ w → First n here t
  first_of n here t w [] e h is = absurd cc
  first_of n here t w (p ∷ ps) e h is =
      let token : p.token ≡ t = ap (λ (l : List Token). get_or l 0 t) is in
      let reach : Reaches total h.before (p ∷ ps) h.last = subst (λ qs. Reaches total h.before qs h.last) e h.reaches in
      let n' : reach.0 ≡ length (spelling_of t) = first_length p.token reach.0 (after_gap h.before) reach.2
      ∙ ap (λ u. length (spelling_of u)) token in
      let next : drop (n + 1) places ≡ ps = sym (drop-drop 1 n places) ∙ ap (drop 1) e in
      record {
        p = p;
        token = token;
        found = got n places p ps e;
        place = ap (λ x. p.at + length x) (sym h.gap) ∙ reach.1;
        within = omega (arith, n', reach.2.within, ap length h.gap);
        more = record {
          before = drop (length (spelling_of t)) here;
          last = h.last;
          reaches = subst (λ qs. Reaches total (drop (length (spelling_of t)) here) qs h.last) (sym next)
              (subst (λ k. Reaches total (drop k here) ps h.last) n'
              (subst (λ x. Reaches total (drop reach.0 x) ps h.last) h.gap reach.3));
          gap = refl;
        };
      }

  first : (n : ℕ) (here : List ℕ) (t : Token) (w : List Token) → At n here → drop n all ≡ t ∷ w → First n here t
  first n here t w h is =
      first_of n here t w (drop n places) refl h (tokens_dropped n places ∙ is)

  ahead_one : (n : ℕ) (t : Token) (w : List Token) → drop n all ≡ t ∷ w → drop (n + 1) all ≡ w
  ahead_one n t w is = sym (drop-drop 1 n all) ∙ ap (drop 1) is

  -- behind tokens
  pub at_past : (n : ℕ) (here : List ℕ) (ts w : List Token) → At n here → drop n all ≡ ts ++ w → (k : ℕ)
      → k ≡ n + length ts → At k (past here ts) × (drop k all ≡ w)
  at_past n here [] w h is k e =
      let same : n ≡ k = omega (arith, e) in (subst (λ m. At m here) same h, subst (λ m. drop m all ≡ w) same is)
  at_past n here (t ∷ ts) w h is k e =
      at_past (n + 1) (past here (t ∷ [])) ts w (first n here t (ts ++ w) h is).more (ahead_one n t (ts ++ w) is) k
      (omega (arith, e))

  -- the bytes of tokens
  own_end : (n : ℕ) (here : List ℕ) (t : Token) (ts w : List Token) (before : ℕ) → At n here
      → drop n all ≡ t ∷ ts ++ w → (k : ℕ) → k ≡ n + length ts
      → (get_or spans k no_span).end ≡ total - left before here (t ∷ ts)
  own_end n here t [] w before h is k e =
      let f = first n here t w h is in
      let same : k ≡ n = omega (arith, e) in
      ap (λ m. (get_or spans m no_span).end) same ∙ (ap (λ s. s.end) f.found
      ∙ omega (arith, f.place, f.within, ap (λ u. length (spelling_of u)) f.token))
  own_end n here t (u ∷ ts) w before h is k e =
      own_end (n + 1) (past here (t ∷ [])) u ts w (length here - length (spelling_of t))
      (first n here t (u ∷ ts ++ w) h is).more (ahead_one n t (u ∷ ts ++ w) is) k (omega (arith, e))

  pub own_span : (n : ℕ) (here : List ℕ) (t : Token) (ts w : List Token) → At n here → drop n all ≡ t ∷ ts ++ w
      → (c : ℕ) → c ≡ 1 + length ts → span_in spans (range n c) ≡ span_of total here (t ∷ ts)
  own_span n here t ts w h is c e =
      let f = first n here t (ts ++ w) h is in
      let start : (get_or spans n no_span).start ≡ total - length here =
      ap (λ s. s.start) f.found ∙ omega (arith, f.place) in
      let end : (get_or spans (n + c - 1) no_span).end ≡ total - left (length here) here (t ∷ ts) =
      own_end n here t ts w (length here) h is (n + c - 1) (omega (arith, e)) in
      λ i. record { start = start i; end = end i }

-- 2. The items of a part of a tree.

module _ (bytes : List ℕ) (places : List TokenAt) where
  abbrev tokens : List Token
  tokens = tokens_in places

  abbrev long : ℕ
  long = length bytes

  abbrev spans_at : List TokenRange → List Span
  spans_at rs = map (span_in (map token_span places)) rs

  primitive_table : (n : ℕ) (here : List ℕ) (p : leaf.Primitive) (w : List Token) → At bytes places n here
      → drop n tokens ≡ primitive_tokens p w
      → span_in (map token_span places) (range n (primitive_count p - 1)) ≡ span_of long here (primitive_own p)
  primitive_table n here (primitive.Assign x v) w h is =
      own_span bytes places n here (token.Name x) (token.Equal ∷ operand_token v ∷ []) (token.Semicolon ∷ w) h is 3 refl
  primitive_table n here (primitive.Compute x v o u) w h is =
      own_span bytes places n here (token.Name x) (token.Equal ∷ operand_token v ∷ operator_token o ∷ operand_token u
      ∷ [])
      (token.Semicolon ∷ w) h is 5 refl
  primitive_table n here (primitive.New x r) w h is =
      own_span bytes places n here (token.Name x) (token.Equal ∷ token.New ∷ token.Name r ∷ []) (token.Semicolon ∷ w)
      h is
      4 refl
  primitive_table n here (primitive.Load x y f) w h is =
      own_span bytes places n here (token.Name x) (token.Equal ∷ token.Name y ∷ token.Dot ∷ token.Name f ∷ [])
      (token.Semicolon ∷ w) h is 5 refl
  primitive_table n here (primitive.Store y f v) w h is =
      own_span bytes places n here (token.Name y) (token.Dot ∷ token.Name f ∷ token.Equal ∷ operand_token v ∷ [])
      (token.Semicolon ∷ w) h is 5 refl
  primitive_table n here (primitive.Print v) w h is =
      own_span bytes places n here token.Print (operand_token v ∷ []) (token.Semicolon ∷ w) h is 2 refl

  -- a word and what stands before a block, and the block
  headed : (n c m : ℕ) (here : List ℕ) (t : Token) (ts : List Token) (a : BlockView) (w : List Token)
      (rs : List TokenRange) → At bytes places n here
      → drop n tokens ≡ t ∷ ts ++ token.OpenBrace ∷ block_tokens a w → c ≡ 1 + length ts → m ≡ n + c + 1
      → ((rest : List ℕ) → At bytes places m rest → drop m tokens ≡ block_tokens a w
      → spans_at (block_ranges m a rs) ≡ block_spans long rest a ++ spans_at rs)
      → spans_at (range n c ∷ block_ranges m a rs)
      ≡ span_of long here (t ∷ ts)
      ∷ (block_spans long (past (past here (t ∷ ts)) (token.OpenBrace ∷ [])) a ++ spans_at rs)
  headed n c m here t ts a w rs h is long e inner =
      let behind = token.OpenBrace ∷ block_tokens a w in
      let opens = at_past bytes places n here (t ∷ ts) behind h is (n + c) (omega (arith, long)) in
      let body = at_past bytes places (n + c) (past here (t ∷ ts)) (token.OpenBrace ∷ []) (block_tokens a w) opens.0
      opens.1
      m (omega (arith, e)) in
      (λ i. own_span bytes places n here t ts behind h is c long i ∷ inner _ body.0 body.1 i)

  mutual
    statement_table : (n : ℕ) (here : List ℕ) (s : StatementView) (w : List Token) (rs : List TokenRange)
        → At bytes places n here → drop n tokens ≡ statement_tokens s w
        → spans_at (statement_ranges n s rs) ≡ statement_spans long here s ++ spans_at rs
    statement_table n here (Primitive p) w rs h is = ap (λ x. x ∷ spans_at rs) (primitive_table n here p w h is)
    statement_table n here (If t a) w rs h is =
        headed n 6 (n + 7) here token.If (test_tokens t []) a (token.CloseBrace ∷ w) rs h is refl (omega arith)
        (λ rest at own. block_table (n + 7) rest a (token.CloseBrace ∷ w) rs at own)
    statement_table n here (IfElse t a b) w rs h is =
        let v = token.CloseBrace ∷ token.Else ∷ token.OpenBrace ∷ [] in
        let u = block_tokens b (token.CloseBrace ∷ w) in
        let m : ℕ = n + 7 + block_count a + 3 in
        let first = past here (token.If ∷ test_tokens t (token.OpenBrace ∷ [])) in
        let begun = at_past bytes places n here (token.If ∷ test_tokens t (token.OpenBrace ∷ []))
        (block_tokens a (v ++ u))
        h is (n + 7) refl in
        let other = at_past bytes places (n + 7) first (block_tokens a v) u begun.0
        (begun.1 ∙ sym (block_behind a v u)) m
        (omega (arith, block_long a v)) in
        headed n 6 (n + 7) here token.If (test_tokens t []) a (v ++ u) (block_ranges m b rs) h is refl (omega arith)
        (λ rest at own. block_table (n + 7) rest a (v ++ u) (block_ranges m b rs) at own)
        ∙ (ap (λ x. span_of long here (token.If ∷ test_tokens t []) ∷ (block_spans long first a ++ x))
        (block_table m (past first (block_tokens a v)) b (token.CloseBrace ∷ w) rs other.0 other.1)
        ∙ ap (λ x. span_of long here (token.If ∷ test_tokens t []) ∷ x)
        (sym (append_assoc (block_spans long first a) (block_spans long (past first (block_tokens a v)) b)
        (spans_at rs))))
    statement_table n here (While t a) w rs h is =
        headed n 6 (n + 7) here token.While (test_tokens t []) a (token.CloseBrace ∷ w) rs h is refl (omega arith)
        (λ rest at own. block_table (n + 7) rest a (token.CloseBrace ∷ w) rs at own)
    statement_table n here (Atomic locking.Inferred a) w rs h is =
        headed n 1 (n + 1 + 1) here token.Atomic [] a (token.CloseBrace ∷ w) rs h is refl (omega arith)
        (λ rest at own. block_table (n + 1 + 1) rest a (token.CloseBrace ∷ w) rs at own)
    statement_table n here (Atomic locking.All a) w rs h is =
        headed n 2 (n + 2 + 1) here token.Atomic (token.All ∷ []) a (token.CloseBrace ∷ w) rs h is refl (omega arith)
        (λ rest at own. block_table (n + 2 + 1) rest a (token.CloseBrace ∷ w) rs at own)
    statement_table n here (Call f vs) w rs h is =
        let v = token.CloseParen ∷ [] in
        ap (λ x. x ∷ spans_at rs) (own_span bytes places n here token.Call
        (token.Name f ∷ token.OpenParen ∷ operands_tokens vs v) (token.Semicolon ∷ w) h
        (is ∙ ap (λ x. token.Call ∷ token.Name f ∷ token.OpenParen ∷ x)
        (sym (operands_behind vs v (token.Semicolon ∷ w))))
        (4 + operands_count vs) (omega (arith, operands_long vs v)))

    block_table : (n : ℕ) (here : List ℕ) (b : BlockView) (w : List Token) (rs : List TokenRange)
        → At bytes places n here → drop n tokens ≡ block_tokens b w
        → spans_at (block_ranges n b rs) ≡ block_spans long here b ++ spans_at rs
    block_table n here End w rs h is = refl
    block_table n here (Then s b) w rs h is =
        let next = past here (statement_tokens s []) in
        let behind = at_past bytes places n here (statement_tokens s []) (block_tokens b w) h
        (is ∙ sym (statement_behind s (block_tokens b w))) (n + statement_count s)
        (omega (arith, statement_long s [])) in
        statement_table n here s (block_tokens b w) (block_ranges (n + statement_count s) b rs) h is
        ∙ (ap (λ x. statement_spans long here s ++ x) (block_table (n + statement_count s) next b w rs behind.0
        behind.1)
        ∙ sym (append_assoc (statement_spans long here s) (block_spans long next b) (spans_at rs)))

  declarations_table : (n : ℕ) (here : List ℕ) (ds : List Declaration) (w : List Token) (rs : List TokenRange)
      → At bytes places n here → drop n tokens ≡ declarations_tokens ds w
      → spans_at (declarations_ranges n ds rs) ≡ declarations_spans long here ds ++ spans_at rs
  declarations_table n here [] w rs h is = refl
  declarations_table n here (d ∷ ds) w rs h is =
      let more = declarations_tokens ds w in
      let own = kind_token d.kind ∷ token.Name d.name ∷ token.Semicolon ∷ [] in
      let next = at_past bytes places n here own more h is (n + 3) refl in
      λ i. own_span bytes places n here (kind_token d.kind) (token.Name d.name ∷ []) (token.Semicolon ∷ more) h is 2
      refl i
      ∷ declarations_table (n + 3) (past here own) ds w rs next.0 next.1 i

  -- the tokens of the first stand behind a comma
  more_table : (n m : ℕ) (here : List ℕ) (ds : List Declaration) (w : List Token) (rs : List TokenRange)
      → m ≡ n + 1 → At bytes places n here → drop n tokens ≡ more_parameters ds w
      → spans_at (declarations_ranges m ds rs) ≡ more_parameters_spans long here ds ++ spans_at rs
  more_table n m here [] w rs e h is = refl
  more_table n m here (d ∷ ds) w rs e h is =
      let more = more_parameters ds w in
      let comma = at_past bytes places n here (token.Comma ∷ []) (declaration_own d ++ more) h is m e in
      let next = at_past bytes places n here (token.Comma ∷ declaration_own d) more h is (n + 3) refl in
      λ i. own_span bytes places m (past here (token.Comma ∷ [])) (kind_token d.kind) (token.Name d.name ∷ []) more
      comma.0 comma.1 2 refl i
      ∷ more_table (n + 3) (m + 3) (past here (token.Comma ∷ declaration_own d)) ds w rs (omega (arith, e)) next.0
      next.1 i

  parameters_table : (n : ℕ) (here : List ℕ) (ds : List Declaration) (w : List Token) (rs : List TokenRange)
      → At bytes places n here → drop n tokens ≡ parameters_tokens ds w
      → spans_at (declarations_ranges n ds rs) ≡ parameters_spans long here ds ++ spans_at rs
  parameters_table n here [] w rs h is = refl
  parameters_table n here (d ∷ ds) w rs h is =
      let more = more_parameters ds w in
      let next = at_past bytes places n here (declaration_own d) more h is (n + 2) refl in
      λ i. own_span bytes places n here (kind_token d.kind) (token.Name d.name ∷ []) more h is 2 refl i
      ∷ more_table (n + 2) (n + 3) (past here (declaration_own d)) ds w rs (omega arith) next.0 next.1 i

  body_table : (n m : ℕ) (here : List ℕ) (ls : List Declaration) (b : BlockView) (w : List Token) (rs : List TokenRange)
      → m ≡ n + 3 * length ls → At bytes places n here → drop n tokens ≡ declarations_tokens ls (block_tokens b w)
      → spans_at (declarations_ranges n ls (block_ranges m b rs)) ≡ body_spans long here ls b ++ spans_at rs
  body_table n m here ls b w rs e h is =
      let next = past here (declarations_tokens ls []) in
      let behind = at_past bytes places n here (declarations_tokens ls []) (block_tokens b w) h
      (is ∙ sym (declarations_behind ls [] (block_tokens b w))) m (omega (arith, e, declarations_long ls [])) in
      declarations_table n here ls (block_tokens b w) (block_ranges m b rs) h is
      ∙ (ap (λ x. declarations_spans long here ls ++ x) (block_table m next b w rs behind.0 behind.1)
      ∙ sym (append_assoc (declarations_spans long here ls) (block_spans long next b) (spans_at rs)))

  record_table : (n : ℕ) (here : List ℕ) (r : Record) (w : List Token) (rs : List TokenRange) → At bytes places n here
      → drop n tokens ≡ record_tokens r w → spans_at (record_ranges n r rs) ≡ record_spans long here r ++ spans_at rs
  record_table n here r w rs h is =
      let fields = declarations_tokens r.fields (token.CloseBrace ∷ w) in
      let own = token.Record ∷ token.Name r.name ∷ hints_tokens r.hints (token.OpenBrace ∷ []) in
      let m : ℕ = n + 2 + 2 * length r.hints + 1 in
      let inner = at_past bytes places n here own fields h (is ∙ ap (λ x. token.Record ∷ token.Name r.name ∷ x)
      (sym (hints_behind r.hints (token.OpenBrace ∷ []) fields))) m
      (omega (arith, hints_long r.hints (token.OpenBrace ∷ []))) in
      λ i. own_span bytes places n here token.Record (token.Name r.name ∷ [])
      (hints_tokens r.hints (token.OpenBrace ∷ fields)) h is 2 refl i
      ∷ declarations_table m (past here own) r.fields (token.CloseBrace ∷ w) rs inner.0 inner.1 i

  procedure_table : (n : ℕ) (here : List ℕ) (p : Procedure) (w : List Token) (rs : List TokenRange)
      → At bytes places n here → drop n tokens ≡ procedure_tokens p w
      → spans_at (procedure_ranges n p rs) ≡ procedure_spans long here p ++ spans_at rs
  procedure_table n here p w rs h is =
      let body = declarations_tokens p.locals (block_tokens p.body (token.CloseBrace ∷ w)) in
      let end = token.CloseParen ∷ token.OpenBrace ∷ [] in
      let word = token.Proc ∷ token.Name p.name ∷ token.OpenParen ∷ [] in
      let own = token.Proc ∷ token.Name p.name ∷ token.OpenParen ∷ parameters_tokens p.parameters end in
      let k : ℕ = n + 3 + parameters_count p.parameters + 2 in
      let m : ℕ = k + 3 * length p.locals in
      let ps = at_past bytes places n here word (parameters_tokens p.parameters (end ++ body)) h is (n + 3) refl in
      let inner = at_past bytes places n here own body h (is ∙ ap (λ x. token.Proc ∷ token.Name p.name
      ∷ token.OpenParen ∷ x) (sym (parameters_behind p.parameters end body))) k
      (omega (arith, parameters_long p.parameters end)) in
      let first = parameters_spans long (past here word) p.parameters in
      let last = body_spans long (past here own) p.locals p.body in
      let ranges = declarations_ranges k p.locals (block_ranges m p.body rs) in
      (λ i. own_span bytes places n here token.Proc (token.Name p.name ∷ [])
      (token.OpenParen ∷ parameters_tokens p.parameters (end ++ body)) h is 2 refl i
      ∷ (parameters_table (n + 3) (past here word) p.parameters (end ++ body) ranges ps.0 ps.1
      ∙ (ap (λ x. first ++ x) (body_table k m (past here own) p.locals p.body (token.CloseBrace ∷ w) rs refl inner.0
      inner.1) ∙ sym (append_assoc first last (spans_at rs)))) i)

  thread_table : (n : ℕ) (here : List ℕ) (t : Thread) (w : List Token) (rs : List TokenRange) → At bytes places n here
      → drop n tokens ≡ thread_tokens t w → spans_at (thread_ranges n t rs) ≡ thread_spans long here t ++ spans_at rs
  thread_table n here t w rs h is =
      let body = declarations_tokens t.locals (block_tokens t.body (token.CloseBrace ∷ w)) in
      let own = token.Thread ∷ token.Name t.name ∷ token.OpenBrace ∷ [] in
      let inner = at_past bytes places n here own body h is (n + 3) refl in
      λ i. own_span bytes places n here token.Thread (token.Name t.name ∷ []) (token.OpenBrace ∷ body) h is 2 refl i
      ∷ body_table (n + 3) (n + 3 + 3 * length t.locals) (past here own) t.locals t.body (token.CloseBrace ∷ w) rs refl
      inner.0 inner.1 i

  -- 3. The items of a text.

  records_table : (n : ℕ) (here : List ℕ) (list : List Record) (w : List Token) (rs : List TokenRange)
      → At bytes places n here → drop n tokens ≡ records_tokens list w
      → spans_at (records_ranges n list rs) ≡ each record_tokens (record_spans long) here list ++ spans_at rs
  records_table n here [] w rs h is = refl
  records_table n here (x ∷ xs) w rs h is =
      let next = past here (record_tokens x []) in
      let m : ℕ = n + record_count x in
      let more = records_tokens xs w in
      let behind = at_past bytes places n here (record_tokens x []) more h
      (is ∙ sym (parts_behind (parts (x ∷ []) [] [] []) more)) m (omega (arith, record_long x [])) in
      record_table n here x more (records_ranges m xs rs) h is
      ∙ (ap (λ y. record_spans long here x ++ y) (records_table m next xs w rs behind.0 behind.1)
      ∙ sym (append_assoc (record_spans long here x) (each record_tokens (record_spans long) next xs) (spans_at rs)))

  globals_table : (n : ℕ) (here : List ℕ) (list : List GlobalObject) (w : List Token) (rs : List TokenRange)
      → At bytes places n here → drop n tokens ≡ globals_tokens list w
      → spans_at (globals_ranges n list rs) ≡ each global_tokens (global_spans long) here list ++ spans_at rs
  globals_table n here [] w rs h is = refl
  globals_table n here (x ∷ xs) w rs h is =
      let more = globals_tokens xs w in
      let own = token.Name x.of ∷ token.Name x.name ∷ [] in
      let behind = at_past bytes places n here (global_tokens x []) more h is (n + 4) refl in
      λ i. own_span bytes places n here token.Global own (token.Semicolon ∷ more) h is 3 refl i
      ∷ globals_table (n + 4) (past here (global_tokens x [])) xs w rs behind.0 behind.1 i

  procedures_table : (n : ℕ) (here : List ℕ) (list : List Procedure) (w : List Token) (rs : List TokenRange)
      → At bytes places n here → drop n tokens ≡ procedures_tokens list w
      → spans_at (procedures_ranges n list rs) ≡ each procedure_tokens (procedure_spans long) here list ++ spans_at rs
  procedures_table n here [] w rs h is = refl
  procedures_table n here (x ∷ xs) w rs h is =
      let next = past here (procedure_tokens x []) in
      let m : ℕ = n + procedure_count x in
      let more = procedures_tokens xs w in
      let behind = at_past bytes places n here (procedure_tokens x []) more h
      (is ∙ sym (parts_behind (parts [] [] (x ∷ []) []) more)) m (omega (arith, procedure_long x [])) in
      procedure_table n here x more (procedures_ranges m xs rs) h is
      ∙ (ap (λ y. procedure_spans long here x ++ y) (procedures_table m next xs w rs behind.0 behind.1)
      ∙ sym (append_assoc (procedure_spans long here x) (each procedure_tokens (procedure_spans long) next xs)
      (spans_at rs)))

  threads_table : (n : ℕ) (here : List ℕ) (list : List Thread) (w : List Token) (rs : List TokenRange)
      → At bytes places n here → drop n tokens ≡ threads_tokens list w
      → spans_at (threads_ranges n list rs) ≡ each thread_tokens (thread_spans long) here list ++ spans_at rs
  threads_table n here [] w rs h is = refl
  threads_table n here (x ∷ xs) w rs h is =
      let next = past here (thread_tokens x []) in
      let m : ℕ = n + thread_count x in
      let more = threads_tokens xs w in
      let behind = at_past bytes places n here (thread_tokens x []) more h
      (is ∙ sym (parts_behind (parts [] [] [] (x ∷ [])) more)) m (omega (arith, thread_long x [])) in
      thread_table n here x more (threads_ranges m xs rs) h is
      ∙ (ap (λ y. thread_spans long here x ++ y) (threads_table m next xs w rs behind.0 behind.1)
      ∙ sym (append_assoc (thread_spans long here x) (each thread_tokens (thread_spans long) next xs) (spans_at rs)))

  source_table : (here : List ℕ) (t : TreeView) → At bytes places 0 here → tokens ≡ source_tokens t []
      → spans_at (item_tokens t) ≡ source_spans long here t
  source_table here t h is =
      let rs = t.records in
      let gs = t.globals in
      let ps = t.procedures in
      let ts = t.threads in
      let threads = threads_tokens ts [] in
      let procedures = procedures_tokens ps threads in
      let globals = globals_tokens gs procedures in
      let n : ℕ = 0 + records_count rs in
      let m : ℕ = n + 4 * length gs in
      let k : ℕ = m + procedures_count ps in
      let one = records_tokens rs [] in
      let two = records_tokens rs (globals_tokens gs []) in
      let three = records_tokens rs (globals_tokens gs (procedures_tokens ps [])) in
      let behind-records = at_past bytes places 0 here one globals h
      (is ∙ sym (parts_behind (parts rs [] [] []) globals)) n (omega (arith, records_long rs [])) in
      let behind-globals = at_past bytes places 0 here two procedures h
      (is ∙ sym (parts_behind (parts rs gs [] []) procedures)) m
      (omega (arith, records_long rs (globals_tokens gs []), globals_long gs [])) in
      let behind-procedures = at_past bytes places 0 here three threads h
      (is ∙ sym (parts_behind (parts rs gs ps []) threads)) k (omega (
        arith,
        records_long rs (globals_tokens gs (procedures_tokens ps [])),
        globals_long gs (procedures_tokens ps []),
        procedures_long ps [],
      )) in
      let thread-ranges = threads_ranges k ts [] in
      let procedure-ranges = procedures_ranges m ps thread-ranges in
      let R = each record_tokens (record_spans long) here rs in
      let G = each global_tokens (global_spans long) (past here one) gs in
      let P = each procedure_tokens (procedure_spans long) (past here two) ps in
      let T = each thread_tokens (thread_spans long) (past here three) ts in
      records_table 0 here rs globals (globals_ranges n gs procedure-ranges) h is
      ∙ (ap (λ x. R ++ x) (globals_table n (past here one) gs procedures procedure-ranges behind-records.0
      behind-records.1)
      ∙ (ap (λ x. R ++ (G ++ x)) (procedures_table m (past here two) ps threads thread-ranges behind-globals.0
      behind-globals.1)
      ∙ (ap (λ x. R ++ (G ++ (P ++ x))) (threads_table k (past here three) ts [] [] behind-procedures.0
      behind-procedures.1 ∙ append-nil T)
      ∙ (sym (append_assoc R G (P ++ T)) ∙ sym (append_assoc (R ++ G) P T)))))

-- the spans that the reader gives are those of the items
pub tabled : (bytes : List ℕ) (tree : TreeView) (s : IsSpelled bytes tree) (table : List Span)
    → AreSpansOf bytes tree table → AreItemSpans bytes tree table
tabled bytes tree s table is =
    let begins : At bytes s.places 0 (after_gap bytes) =
    record { before = bytes; last = s.spells.0; reaches = s.spells.1; gap = refl } in
    item_spans_are bytes tree s (map token_span s.places) table (item_tokens tree) refl refl (are_own tree)
    (is ∙ sym (source_table bytes s.places (after_gap bytes) tree begins (sym s.parses.tokens ∙ tokens_same tree)))

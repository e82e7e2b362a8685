-- Where the tokens that a rule passes stand, and the spans of what it reads.
use Rattle.std.proofs.Common.{◌≡◌, ℕ, ◌-◌, List, [], ◌∷◌, ◌++◌, length, drop, refl, sym, ◌∙◌, ap, subst}
use Rattle.std.proofs.Common.{append_assoc, append-nil, true, false, Bool}
use Rattle.std.proofs.lemmas.List.{length-take-le}
use Rattle.sect_front.specs.Syntax.{StatementView, BlockView, Primitive, If, IfElse, While, Atomic, Call, End, Then}
use Rattle.sect_front.specs.{Trees.{append}, Spelling.{spelling_of}, Gaps.{after_gap}, Grammar.{kind_token}}
use Rattle.sect_front.specs.Tokens.{statement_tokens, block_tokens, declarations_tokens}
use Rattle.sect_front.specs.Tokens.{more_parameters, parameters_tokens}
use Rattle.sect_front.specs.ItemSpans.{past, left, span_left, span_of, statement_own, statement_spans, block_spans}
use Rattle.sect_front.specs.ItemSpans.{declaration_own, declarations_spans, more_parameters_spans, parameters_spans}
use Rattle.sect_front.specs.ItemSpans.{inner_spans, body_spans}
use Rattle.sect_front.specs.{declared.token.Token.{Token}, declared.span.Span.{Span}}
use Rattle.sect_front.specs.declared.tree.Declaration.{Declaration}
use Rattle.sect_front.specs.declared.expected.Expected.{Expected}
use Rattle.sect_front.specs.steps.Passing.{CursorView, Stands, Passes, ArePassed, IsAlike, HasAdded}
use Rattle.sect_front.specs.steps.Spanning.{SpansView, with_spans, HasItems, AddsItem, HasBegunItems}
use Rattle.sect_front.specs.{steps.Declaring.{HasBegun}, declared.tree.Kind.{Kind}}
use Rattle.sect_front.proofs.Begun.{statement_begun}
use Rattle.sect_front.proofs.Stopping.{passed_append, added_behind}
use Rattle.sect_front.proofs.{Lexemes.{lexeme_first}, Growing.{operands_behind, block_behind, declarations_behind}}
use Rattle.sect_front.proofs.Growing.{parameters_behind}
use Rattle.sect_front.specs.declared.token.Token.TheVariants as token
use Rattle.sect_front.specs.declared.tree.Primitive.TheVariants as primitive
use Rattle.sect_front.specs.declared.expected.Expected.TheVariants as expected

-- 1. Tokens that are passed.

-- a token has as many bytes as spell it
pub width : (here : List ℕ) (t : Token) (there : List ℕ) → (s : Stands here t there)
    → s.count ≡ length (spelling_of t)
width here t there s =
    let f = lexeme_first here t s.count s.lexed in
    sym (length-take-le s.count here f.within) ∙ ap length f.spells.is

pub passed_here : (here : CursorView) (t : Token) (there : CursorView) → Passes here t there
    → there.here ≡ past here.here (t ∷ [])
passed_here here t there p =
    p.stands.behind ∙ ap (λ n. after_gap (drop n here.here)) (width here.here t there.here p.stands)

pub passed_last : (here : CursorView) (t : Token) (there : CursorView) → Passes here t there
    → there.last ≡ length here.here - length (spelling_of t)
passed_last here t there p = p.last ∙ ap (λ n. length here.here - n) (width here.here t there.here p.stands)

pub are_past : (here : CursorView) (ts : List Token) (there : CursorView) → ArePassed here ts there
    → there.here ≡ past here.here ts
are_past here [] there e = ap (λ x. x.here) (sym e)
are_past here (t ∷ ts) there (next, p, h) =
    are_past next ts there h ∙ ap (λ x. past x ts) (passed_here here t next p)

pub are_left : (here : CursorView) (ts : List Token) (there : CursorView) → ArePassed here ts there
    → there.last ≡ left here.last here.here ts
are_left here [] there e = ap (λ x. x.last) (sym e)
are_left here (t ∷ ts) there (next, p, h) =
    are_left next ts there h ∙ (ap (λ k. left k next.here ts) (passed_last here t next p)
    ∙ ap (λ x. left (length here.here - length (spelling_of t)) x ts) (passed_here here t next p))

-- behind the token before the last
pub are_ended : (here : CursorView) (ts : List Token) (t : Token) (there : CursorView)
    → ArePassed here (ts ++ t ∷ []) there → there.end ≡ left here.last here.here ts
are_ended here [] t there (next, p, e) = ap (λ x. x.end) (sym e) ∙ p.end
are_ended here (u ∷ ts) t there (next, p, h) =
    are_ended next ts t there h ∙ (ap (λ k. left k next.here ts) (passed_last here u next p)
    ∙ ap (λ x. left (length here.here - length (spelling_of u)) x ts) (passed_here here u next p))

pub past_append : (here : List ℕ) (ts us : List Token) → past here (ts ++ us) ≡ past (past here ts) us
past_append here [] us = refl
past_append here (t ∷ ts) us = past_append (past here (t ∷ [])) ts us

-- 2. The tokens of a statement that has no block.

abbrev pub opens : List Token → Bool
opens (token.If ∷ ts) = true
opens (token.While ∷ ts) = true
opens (token.Atomic ∷ ts) = true
opens _ = false

pub own_ends : (s : StatementView) → opens (statement_tokens s []) ≡ false
    → (statement_tokens s [] ≡ statement_own s ++ token.Semicolon ∷ [])
    × ((total : ℕ) (here : List ℕ) → inner_spans total here s ≡ [])
own_ends (Primitive (primitive.Assign x v)) e = (refl, λ total here. refl)
own_ends (Primitive (primitive.Compute x v o u)) e = (refl, λ total here. refl)
own_ends (Primitive (primitive.New x r)) e = (refl, λ total here. refl)
own_ends (Primitive (primitive.Load x y f)) e = (refl, λ total here. refl)
own_ends (Primitive (primitive.Store y f v)) e = (refl, λ total here. refl)
own_ends (Primitive (primitive.Print v)) e = (refl, λ total here. refl)
own_ends (If t a) e = absurd cc
own_ends (IfElse t a b) e = absurd cc
own_ends (While t a) e = absurd cc
own_ends (Atomic l a) e = absurd cc
own_ends (Call f vs) e = (
  ap (λ x. token.Call ∷ token.Name f ∷ token.OpenParen ∷ x)
      (sym (operands_behind vs (token.CloseParen ∷ []) (token.Semicolon ∷ []))),
  λ total here. refl,
)

opens_first : (t : Token) (ts : List Token) → opens (t ∷ ts) ≡ opens (t ∷ [])
opens_first token.If ts = refl
opens_first token.While ts = refl
opens_first token.Atomic ts = refl
opens_first _ ts = refl

-- what is left behind it doesn't depend on what is before it
own_left : (s : StatementView) (j k : ℕ) (here : List ℕ) → left j here (statement_own s) ≡ left k here (statement_own s)
own_left (Primitive (primitive.Assign x v)) j k here = refl
own_left (Primitive (primitive.Compute x v o u)) j k here = refl
own_left (Primitive (primitive.New x r)) j k here = refl
own_left (Primitive (primitive.Load x y f)) j k here = refl
own_left (Primitive (primitive.Store y f v)) j k here = refl
own_left (Primitive (primitive.Print v)) j k here = refl
own_left (If t a) j k here = refl
own_left (IfElse t a b) j k here = refl
own_left (While t a) j k here = refl
own_left (Atomic l a) j k here = refl
own_left (Call f vs) j k here = refl

-- the span of such a statement, whose last token but the `;` is the last but one that was passed
pub ended_span : (total : ℕ) (from there : CursorView) (s : StatementView) → opens (statement_tokens s []) ≡ false
    → ArePassed from (statement_tokens s []) there
    → statement_spans total from.here s ≡ span_left total (length from.here) there.end ∷ []
ended_span total from there s plain are =
    let own = own_ends s plain in
    let end : left (length from.here) from.here (statement_own s) ≡ there.end =
    own_left s (length from.here) from.last from.here
    ∙ sym (are_ended from (statement_own s) token.Semicolon there (subst (λ ts. ArePassed from ts there) own.0 are)) in
    (ap (λ x. span_of total from.here (statement_own s) ∷ x) (own.1 total (past from.here (statement_own s))))
    ∙ ap (λ k. span_left total (length from.here) k ∷ []) end

-- 3. One more part behind others.

statement_behind : (s : StatementView) (w : List Token) → statement_tokens s [] ++ w ≡ statement_tokens s w
statement_behind s w = block_behind (Then s End) [] w

pub block_spans_grow : (total : ℕ) (here : List ℕ) (b : BlockView) (s : StatementView)
    → block_spans total here (append b s)
    ≡ block_spans total here b ++ statement_spans total (past here (block_tokens b [])) s
block_spans_grow total here End s = append-nil (statement_spans total here s)
block_spans_grow total here (Then t b) s =
    let next = past here (statement_tokens t []) in
    let same : past next (block_tokens b []) ≡ past here (statement_tokens t (block_tokens b [])) =
    sym (past_append here (statement_tokens t []) (block_tokens b []))
    ∙ ap (past here) (statement_behind t (block_tokens b [])) in
    ap (λ x. statement_spans total here t ++ x)
    (block_spans_grow total next b s ∙ ap (λ x. block_spans total next b ++ statement_spans total x s) same)
    ∙ sym (append_assoc (statement_spans total here t) (block_spans total next b)
    (statement_spans total (past here (statement_tokens t (block_tokens b []))) s))

pub declarations_spans_grow : (total : ℕ) (here : List ℕ) (ds : List Declaration) (d : Declaration)
    → declarations_spans total here (ds ++ d ∷ [])
    ≡ declarations_spans total here ds ++ span_of total (past here (declarations_tokens ds [])) (declaration_own d) ∷ []
declarations_spans_grow total here [] d = refl
declarations_spans_grow total here (e ∷ ds) d =
    ap (λ x. span_of total here (declaration_own e) ∷ x)
    (declarations_spans_grow total (past here (kind_token e.kind ∷ token.Name e.name ∷ token.Semicolon ∷ [])) ds d)

more_spans_grow : (total : ℕ) (here : List ℕ) (ds : List Declaration) (d : Declaration)
    → more_parameters_spans total here (ds ++ d ∷ [])
    ≡ more_parameters_spans total here ds
    ++ span_of total (past here (more_parameters ds (token.Comma ∷ []))) (declaration_own d) ∷ []
more_spans_grow total here [] d = refl
more_spans_grow total here (e ∷ ds) d =
    ap (λ x. span_of total (past here (token.Comma ∷ [])) (declaration_own e) ∷ x)
    (more_spans_grow total (past here (token.Comma ∷ declaration_own e)) ds d)

pub parameters_spans_grow : (total : ℕ) (here : List ℕ) (ds : List Declaration) → (ds ≡ [] → ⊥) → (d : Declaration)
    → parameters_spans total here (ds ++ d ∷ [])
    ≡ parameters_spans total here ds
    ++ span_of total (past here (parameters_tokens ds (token.Comma ∷ []))) (declaration_own d) ∷ []
parameters_spans_grow total here [] some d = absurd (some refl)
parameters_spans_grow total here (e ∷ ds) some d =
    ap (λ x. span_of total here (declaration_own e) ∷ x) (more_spans_grow total (past here (declaration_own e)) ds d)

-- one more statement in a body
pub body_statement : (total : ℕ) (init : List ℕ) (ls : List Declaration) (b : BlockView) (s : StatementView)
    → body_spans total init ls (append b s)
    ≡ body_spans total init ls b
    ++ statement_spans total (past init (declarations_tokens ls (block_tokens b []))) s
body_statement total init ls b s =
    let here = past init (declarations_tokens ls []) in
    let same : past here (block_tokens b []) ≡ past init (declarations_tokens ls (block_tokens b [])) =
    sym (past_append init (declarations_tokens ls []) (block_tokens b []))
    ∙ ap (past init) (declarations_behind ls [] (block_tokens b [])) in
    ap (λ x. declarations_spans total init ls ++ x)
    (block_spans_grow total here b s ∙ ap (λ x. block_spans total here b ++ statement_spans total x s) same)
    ∙ sym (append_assoc (declarations_spans total init ls) (block_spans total here b)
    (statement_spans total (past init (declarations_tokens ls (block_tokens b []))) s))

-- one more local before any statement
pub body_local : (total : ℕ) (init : List ℕ) (ls : List Declaration) (d : Declaration)
    → body_spans total init (ls ++ d ∷ []) End
    ≡ body_spans total init ls End ++ span_of total (past init (declarations_tokens ls [])) (declaration_own d) ∷ []
body_local total init ls d =
    append-nil (declarations_spans total init (ls ++ d ∷ []))
    ∙ (declarations_spans_grow total init ls d
    ∙ ap (λ x. x ++ span_of total (past init (declarations_tokens ls [])) (declaration_own d) ∷ [])
    (sym (append-nil (declarations_spans total init ls))))

-- 4. Spans that are added one after another.

pub added_then : (was : SpansView) {one two : SpansView} (xs more : List Span) → one ≡ with_spans was xs
    → two ≡ with_spans one more → two ≡ with_spans was (xs ++ more)
added_then was xs more p q =
    q ∙ (ap (λ s. with_spans s more) p
    ∙ ap (λ ys. record { total = was.total; items = ys }) (append_assoc was.items xs more))

pub spans_then : (was : SpansView) {one two : SpansView} (xs : List Span) (more : ℕ → List Span)
    → one ≡ with_spans was xs → two ≡ with_spans one (more one.total) → two ≡ with_spans was (xs ++ more was.total)
spans_then was xs more p q =
    q ∙ (ap (λ s. with_spans s (more s.total)) p
    ∙ ap (λ ys. record { total = was.total; items = ys }) (append_assoc was.items xs (more was.total)))

-- the tokens of an item, whose last is the last that was passed
pub head_span : (was : SpansView) {one : SpansView} (from there : CursorView) (t : Token) (ts : List Token)
    (start end : ℕ) → ArePassed from (t ∷ ts) there → start ≡ length from.here → end ≡ there.last
    → one ≡ with_spans was (span_left was.total start end ∷ [])
    → one ≡ with_spans was (span_of was.total from.here (t ∷ ts) ∷ [])
head_span was from there t ts start end are same last p =
    p ∙ (ap (λ k. with_spans was (span_left was.total k end ∷ [])) same
    ∙ ap (λ k. with_spans was (span_left was.total (length from.here) k ∷ []))
    (last ∙ are_left from (t ∷ ts) there are))

-- the same of one before a `;`
pub ended_head : (was : SpansView) {one : SpansView} (from there : CursorView) (t : Token) (ts : List Token)
    (start end : ℕ) → ArePassed from (t ∷ ts ++ token.Semicolon ∷ []) there → start ≡ length from.here
    → end ≡ there.end → one ≡ with_spans was (span_left was.total start end ∷ [])
    → one ≡ with_spans was (span_of was.total from.here (t ∷ ts) ∷ [])
ended_head was from there t ts start end are same last p =
    p ∙ (ap (λ k. with_spans was (span_left was.total k end ∷ [])) same
    ∙ ap (λ k. with_spans was (span_left was.total (length from.here) k ∷ []))
    (last ∙ are_ended from (t ∷ ts) token.Semicolon there are))

-- the word of a statement with a block and what stands before the block, and the block behind it
pub one_block : (was : SpansView) {one two : SpansView} (from there : CursorView) (t : Token) (ts : List Token)
    (start end : ℕ) (b : BlockView) → ArePassed from (t ∷ ts) there → start ≡ length from.here → end ≡ there.last
    → one ≡ with_spans was (span_left was.total start end ∷ [])
    → two ≡ with_spans one (block_spans one.total (past there.here (token.OpenBrace ∷ [])) b)
    → two ≡ with_spans was (span_of was.total from.here (t ∷ ts)
    ∷ block_spans was.total (past (past from.here (t ∷ ts)) (token.OpenBrace ∷ [])) b)
one_block was from there t ts start end b are same last p q =
    spans_then was (span_of was.total from.here (t ∷ ts) ∷ [])
    (λ n. block_spans n (past there.here (token.OpenBrace ∷ [])) b)
    (head_span was from there t ts start end are same last p) q
    ∙ ap (λ x. with_spans was (span_of was.total from.here (t ∷ ts)
    ∷ block_spans was.total (past x (token.OpenBrace ∷ [])) b)) (are_past from (t ∷ ts) there are)

-- and another block behind `else`
pub two_blocks : (was : SpansView) {one two three : SpansView} (from there then other : CursorView) (t : Token)
    (ts : List Token) (start end : ℕ) (a b : BlockView) → ArePassed from (t ∷ ts) there → start ≡ length from.here
    → end ≡ there.last → one ≡ with_spans was (span_left was.total start end ∷ [])
    → two ≡ with_spans one (block_spans one.total (past there.here (token.OpenBrace ∷ [])) a)
    → ArePassed there (token.OpenBrace ∷ block_tokens a (token.CloseBrace ∷ [])) then → Passes then token.Else other
    → three ≡ with_spans two (block_spans two.total (past other.here (token.OpenBrace ∷ [])) b)
    → three ≡ with_spans was (span_of was.total from.here (t ∷ ts)
    ∷ block_spans was.total (past (past from.here (t ∷ ts)) (token.OpenBrace ∷ [])) a
    ++ block_spans was.total (past (past from.here (t ∷ ts)) (token.OpenBrace
    ∷ block_tokens a (token.CloseBrace ∷ token.Else ∷ token.OpenBrace ∷ []))) b)
two_blocks was from there then other t ts start end a b are same last p q inner e r =
    let head = span_of was.total from.here (t ∷ ts)
    ∷ block_spans was.total (past (past from.here (t ∷ ts)) (token.OpenBrace ∷ [])) a in
    let body = token.OpenBrace ∷ block_tokens a (token.CloseBrace ∷ []) in
    let behind = token.Else ∷ token.OpenBrace ∷ [] in
    let begun : past other.here (token.OpenBrace ∷ []) ≡ past (past from.here (t ∷ ts)) (body ++ behind) =
    ap (λ x. past x (token.OpenBrace ∷ [])) (passed_here then token.Else other e)
    ∙ (ap (λ x. past x behind) (are_past there body then inner)
    ∙ (sym (past_append there.here body behind) ∙ ap (λ x. past x (body ++ behind)) (are_past from (t ∷ ts) there are)))
    in
    spans_then was head (λ n. block_spans n (past other.here (token.OpenBrace ∷ [])) b)
    (one_block was from there t ts start end a are same last p q) r
    ∙ ap (λ x. with_spans was (head ++ block_spans was.total x b))
    (begun ∙ ap (λ x. past (past from.here (t ∷ ts)) (token.OpenBrace ∷ x)) (block_behind a (token.CloseBrace ∷ [])
    behind))

-- a statement without a block
pub one_item : (was : SpansView) {one : SpansView} (from there : CursorView) (s : StatementView) (start end : ℕ)
    → opens (statement_tokens s []) ≡ false → ArePassed from (statement_tokens s []) there → start ≡ length from.here
    → end ≡ there.end → one ≡ with_spans was (span_left was.total start end ∷ [])
    → one ≡ with_spans was (statement_spans was.total from.here s)
one_item was from there s start end plain are same last p =
    p ∙ (ap (λ k. with_spans was (span_left was.total k end ∷ [])) same
    ∙ (ap (λ k. with_spans was (span_left was.total (length from.here) k ∷ [])) last
    ∙ ap (with_spans was) (sym (ended_span was.total from there s plain are))))

-- one more statement in a block
pub one_statement : (was : SpansView) {one two : SpansView} (init here : CursorView) (b : BlockView)
    (s : StatementView) → ArePassed init (block_tokens b []) here
    → one ≡ with_spans was (block_spans was.total init.here b)
    → two ≡ with_spans one (statement_spans one.total here.here s)
    → two ≡ with_spans was (block_spans was.total init.here (append b s))
one_statement was init here b s are p q =
    spans_then was (block_spans was.total init.here b) (λ n. statement_spans n here.here s) p q
    ∙ ap (with_spans was) (ap (λ x. block_spans was.total init.here b ++ statement_spans was.total x s)
    (are_past init (block_tokens b []) here are) ∙ sym (block_spans_grow was.total init.here b s))

-- 5. A statement behind its first token.

-- it has no block
pub item_added : {was one : SpansView} (t : Token) (here mid there : CursorView) (old new : BlockView) (start end : ℕ)
    → opens (t ∷ []) ≡ false → Passes here t mid → HasAdded expected.Start (t ∷ []) mid there old new
    → start ≡ length here.here → end ≡ there.end → one ≡ with_spans was (span_left was.total start end ∷ [])
    → HasItems expected.Start [] here there old new (length here.here) was one
unfolding added_behind
item_added {was = was} {one = one} t here mid there old new start end plain p h same last adds = record {
  added = added_behind expected.Start [] t here mid there old new p h;
  spans = λ from e len. subst (λ x. one ≡ with_spans was (statement_spans was.total x.here h.statement)) (sym e)
      (one_item was here there h.statement start end (ap opens h.spelled ∙ (opens_first t h.tokens ∙ plain))
      (subst (λ ts. ArePassed here ts there) (sym h.spelled) (mid, p, h.are)) same last adds);
}

pub items_behind : {was one : SpansView} (e : Expected) (t : Token) (here mid there : CursorView)
    (old new : BlockView) (start : ℕ) → Passes here t mid → start ≡ length here.here
    → HasItems e (t ∷ []) mid there old new start was one → HasItems e [] here there old new (length here.here) was one
unfolding added_behind
items_behind {was = was} {one = one} e t here mid there old new start p same h = record {
  added = added_behind e [] t here mid there old new p h.added;
  spans = λ from is len. subst (λ x. one ≡ with_spans was (statement_spans was.total x.here h.added.statement)) (sym is)
      (h.spans here (mid, p, refl) same);
}

-- 6. A local or a statement of a body.

-- a type, a name and `;`
pub local_item : (k : Kind) (n : List ℕ) (front tokens : List Token) (here there : CursorView)
    (ls new : List Declaration) (block : BlockView) → new ≡ ls ++ record { kind = k; name = n } ∷ [] → block ≡ End
    → front ++ tokens ≡ kind_token k ∷ token.Name n ∷ token.Semicolon ∷ [] → ArePassed here tokens there
    → AddsItem front here there ls new block
local_item k n front tokens here there ls new block added none is h total init from are begins =
    let d : Declaration = record { kind = k; name = n } in
    let whole = subst (λ ts. ArePassed from ts there) is (passed_append from front tokens here there are h) in
    ap (λ ds. body_spans total init ds block) added
    ∙ (ap (body_spans total init (ls ++ d ∷ [])) none
    ∙ (body_local total init ls d
    ∙ (ap (λ x. body_spans total init ls End ++ span_of total x (declaration_own d) ∷ []) begins
    ∙ ap (λ x. body_spans total init ls End ++ span_left total (length from.here) x ∷ [])
    (sym (are_ended from (declaration_own d) token.Semicolon there whole)))))

-- the first statement, which begins with a name
pub word_item : (x : List ℕ) (t : Token) (here mid there : CursorView) (ls : List Declaration) (old new : BlockView)
    → old ≡ End → Passes here t mid → HasAdded expected.Start (token.Name x ∷ t ∷ []) mid there old new
    → AddsItem (token.Name x ∷ []) here there ls ls new
word_item x t here mid there ls old new none p h total init from are begins =
    let s = h.statement in
    let whole = subst (λ ts. ArePassed from ts there) (sym h.spelled)
    (passed_append from (token.Name x ∷ []) (t ∷ h.tokens) here there are (mid, p, h.are)) in
    ap (body_spans total init ls) (h.added ∙ ap (λ b. append b s) none)
    ∙ (body_statement total init ls End s
    ∙ (ap (λ y. body_spans total init ls End ++ statement_spans total y s) begins
    ∙ ap (λ y. body_spans total init ls End ++ y) (ended_span total from there s (ap opens h.spelled) whole)))

pub begun_item : {was one : SpansView} (d e : Expected) (t : Token) (here mid there : CursorView)
    (old new : List Declaration) (before block : BlockView) (start end : ℕ) → before ≡ End → Passes here t mid
    → HasBegun d e [] here there old new before block → AddsItem (t ∷ []) mid there old new block
    → start ≡ length here.here → end ≡ there.end → one ≡ with_spans was (span_left was.total start end ∷ [])
    → HasBegunItems d e here there old new before block was one
begun_item {was = was} d e t here mid there old new before block start end none p begun item same last adds = record {
  begun = begun;
  more = span_left was.total (length here.here) there.end ∷ [];
  adds = adds ∙ (ap (λ k. with_spans was (span_left was.total k end ∷ [])) same
      ∙ ap (λ k. with_spans was (span_left was.total (length here.here) k ∷ [])) last);
  grown = λ init begins. item was.total init here (mid, p, refl)
      (subst (λ b. past init (declarations_tokens old (block_tokens b [])) ≡ here.here) none begins)
      ∙ ap (λ b. body_spans was.total init old b ++ span_left was.total (length here.here) there.end ∷ []) (sym none);
}

pub begun_statement : {was one : SpansView} (d e : Expected) (here there : CursorView) (ds : List Declaration)
    (old new : BlockView) → IsAlike d expected.Start here
    → HasItems e [] here there old new (length here.here) was one → HasBegunItems d e here there ds ds old new was one
begun_statement {was = was} d e here there ds old new alike h = record {
  begun = statement_begun d e here there ds old new alike h.added;
  more = statement_spans was.total here.here h.added.statement;
  adds = h.spans here refl refl;
  grown = λ init begins. ap (body_spans was.total init ds) h.added.added
      ∙ (body_statement was.total init ds old h.added.statement
      ∙ ap (λ x. body_spans was.total init ds old ++ statement_spans was.total x h.added.statement) begins);
}

-- in the loop over them
pub begun_spans : (was : SpansView) {one two : SpansView} (d e : Expected) (init here there : CursorView)
    (old new : List Declaration) (before block : BlockView)
    → ArePassed init (declarations_tokens old (block_tokens before [])) here
    → one ≡ with_spans was (body_spans was.total init.here old before)
    → HasBegunItems d e here there old new before block one two
    → two ≡ with_spans was (body_spans was.total init.here new block)
begun_spans was {one = one} d e init here there old new before block are p h =
    let begins = sym (are_past init (declarations_tokens old (block_tokens before [])) here are) in
    added_then was (body_spans was.total init.here old before) h.more p h.adds
    ∙ ap (with_spans was) (sym (subst (λ n. body_spans n init.here new block
    ≡ body_spans n init.here old before ++ h.more) (ap (λ s. s.total) p) (h.grown init.here begins)))

-- one more declaration in a list
pub one_declaration : (was : SpansView) {one two : SpansView} (init here there : CursorView) (ds : List Declaration)
    (k : Kind) (n : List ℕ) (start end : ℕ) → ArePassed init (declarations_tokens ds []) here
    → ArePassed here (kind_token k ∷ token.Name n ∷ token.Semicolon ∷ []) there → start ≡ length here.here
    → end ≡ there.end → one ≡ with_spans was (declarations_spans was.total init.here ds)
    → two ≡ with_spans one (span_left one.total start end ∷ [])
    → two ≡ with_spans was (declarations_spans was.total init.here (ds ++ record { kind = k; name = n } ∷ []))
one_declaration was {one = one} init here there ds k n start end are next same last p q =
    let d : Declaration = record { kind = k; name = n } in
    spans_then was (declarations_spans was.total init.here ds) (λ m. span_of m here.here (declaration_own d) ∷ []) p
    (ended_head one here there (kind_token k) (token.Name n ∷ []) start end next same last q)
    ∙ ap (with_spans was) (ap (λ x. declarations_spans was.total init.here ds
    ++ span_of was.total x (declaration_own d) ∷ []) (are_past init (declarations_tokens ds []) here are)
    ∙ sym (declarations_spans_grow was.total init.here ds d))

-- one more parameter, behind a comma
pub one_parameter : (was : SpansView) {one two : SpansView} (init here comma there : CursorView)
    (ds : List Declaration) (k : Kind) (n : List ℕ) (start end : ℕ) → (ds ≡ [] → ⊥)
    → ArePassed init (parameters_tokens ds []) here → Passes here token.Comma comma
    → ArePassed comma (kind_token k ∷ token.Name n ∷ []) there → start ≡ length comma.here → end ≡ there.last
    → one ≡ with_spans was (parameters_spans was.total init.here ds)
    → two ≡ with_spans one (span_left one.total start end ∷ [])
    → two ≡ with_spans was (parameters_spans was.total init.here (ds ++ record { kind = k; name = n } ∷ []))
one_parameter was {one = one} init here comma there ds k n start end some are c next same last p q =
    let d : Declaration = record { kind = k; name = n } in
    let begins : comma.here ≡ past init.here (parameters_tokens ds (token.Comma ∷ [])) =
    passed_here here token.Comma comma c ∙ (ap (λ x. past x (token.Comma ∷ []))
    (are_past init (parameters_tokens ds []) here are)
    ∙ (sym (past_append init.here (parameters_tokens ds []) (token.Comma ∷ []))
    ∙ ap (past init.here) (parameters_behind ds [] (token.Comma ∷ [])))) in
    spans_then was (parameters_spans was.total init.here ds) (λ m. span_of m comma.here (declaration_own d) ∷ []) p
    (head_span one comma there (kind_token k) (token.Name n ∷ []) start end next same last q)
    ∙ ap (with_spans was) (ap (λ x. parameters_spans was.total init.here ds
    ++ span_of was.total x (declaration_own d) ∷ []) begins
    ∙ sym (parameters_spans_grow was.total init.here ds some d))

-- 7. A declaration: its word and its name, and what stands in it.

pub named_spans : (was : SpansView) {one two : SpansView} (from mid name inner : CursorView) (t : Token) (n : List ℕ)
    (rest : List Token) (start end : ℕ) (more : ℕ → List ℕ → List Span) → Passes from t mid
    → Passes mid (token.Name n) name → ArePassed name rest inner → start ≡ length from.here → end ≡ name.last
    → one ≡ with_spans was (span_left was.total start end ∷ []) → two ≡ with_spans one (more one.total inner.here)
    → two ≡ with_spans was (span_of was.total from.here (t ∷ token.Name n ∷ [])
    ∷ more was.total (past from.here (t ∷ token.Name n ∷ rest)))
named_spans was from mid name inner t n rest start end more p q are same last adds inside =
    spans_then was (span_of was.total from.here (t ∷ token.Name n ∷ []) ∷ []) (λ m. more m inner.here)
    (head_span was from name t (token.Name n ∷ []) start end (mid, p, (name, q, refl)) same last adds) inside
    ∙ ap (λ x. with_spans was (span_of was.total from.here (t ∷ token.Name n ∷ []) ∷ more was.total x))
    (are_past from (t ∷ token.Name n ∷ rest) inner (mid, p, (name, q, are)))

-- What stands at the front of a text, and where a rule of the grammar stops.
use Rattle.std.proofs.Common.{◌≡◌, ℕ, suc, zero, ◌<◌, ◌≤◌, Bool, true, false, List, [], ◌∷◌, ◌++◌, Some, None}
use Rattle.std.proofs.Common.{length, take, drop, refl, sym, ◌∙◌, ap, subst, arith, append_assoc, is_some}
use Rattle.std.specs.Prelude.{get_or, not, if◌then◌else◌}
use Rattle.std.proofs.lemmas.List.{length-take-le}
use Rattle.sect_front.specs.{Words.{is_name_byte}, Gaps.{begins_with}, Spelling.{spelling_of}}
use Rattle.sect_front.specs.Braces.{brace}
use Rattle.sect_front.specs.Syntax.{BlockView}
use Rattle.sect_front.specs.{Limits.{most_depth}, Grammar.{operand_token, operator_token, kind_token}}
use Rattle.sect_front.specs.{declared.token.Token.{Token}, declared.tree.Operand.{Operand}}
use Rattle.sect_front.specs.{declared.tree.Operator.{Operator}, declared.tree.Kind.{Kind}}
use Rattle.sect_front.specs.{declared.expected.Expected.{Expected}, declared.cursor.Stop.{Stop}}
use Rattle.sect_front.specs.declared.cursor.Keyword.{Keyword}
use Rattle.sect_front.specs.steps.{Recognition.{single_sign, double_sign}, Lexeme.{lexeme_of, longest}}
use Rattle.sect_front.specs.steps.Places.{follows, takes, after}
use Rattle.sect_front.specs.steps.Signs.{IsSign, sign_token, sign_byte, keyword_token}
use Rattle.sect_front.specs.steps.Passing.{CursorView, Stands, StandsBefore, Passes, ArePassed, IsBare, IsAbsent}
use Rattle.sect_front.specs.steps.Passing.{IsRefused, IsAlike}
use Rattle.sect_front.specs.steps.Passing.{Stops, IsReached, IsDeep, StopsAtBrace, StopsIn, HasAdded}
use Rattle.sect_front.proofs.{Lexemes.{lexeme_first}, Texts.{shorter}, Leading.{after_then, after_more}}
use Rattle.sect_lemmas.proofs.Options.{some_injective, none_or_some}
use Rattle.sect_front.specs.declared.token.Token.TheVariants as token
use Rattle.sect_front.specs.declared.tree.Operand.TheVariants as operand
use Rattle.sect_front.specs.declared.tree.Operator.TheVariants as operator
use Rattle.sect_front.specs.declared.tree.Kind.TheVariants as kind
use Rattle.sect_front.specs.declared.expected.Expected.TheVariants as expected
use Rattle.sect_front.specs.declared.cursor.Stop.TheVariants as stop
use Rattle.sect_front.specs.declared.cursor.Keyword.TheVariants as keyword

-- 1. Tokens at the front of a text.

-- a sign of one byte, with which no longer one begins
pub sign_alone : (b : ℕ) (rest : List ℕ) (t : Token) → is_name_byte b ≡ false → double_sign b ≡ None
    → single_sign b ≡ Some t → lexeme_of (b ∷ rest) ≡ Some (t, 1)
sign_alone b rest t word none e = rw word (go (begins_with 61 rest))
  where
    go : (x : Bool) → longest (if x then double_sign b else None) (single_sign b) ≡ Some (t, 1)
    go true = rw (none, e) refl
    go false = rw e refl

pub equal_alone : (rest : List ℕ) → begins_with 61 rest ≡ false → lexeme_of (61 ∷ rest) ≡ Some (token.Equal, 1)
equal_alone rest e = rw e refl

-- where no lexeme is, no token stands
pub bare : (here : List ℕ) → lexeme_of here ≡ None → IsBare here
bare here e t rest s = none_or_some _ (sym e ∙ s.lexed)

first_byte : (n b sign : ℕ) (bs : List ℕ) → 0 < n → take n (b ∷ bs) ≡ sign ∷ [] → b ≡ sign
first_byte zero b sign bs some e = absurd (omega (arith, some))
first_byte (suc n) b sign bs some e = ap (λ l. get_or l 0 0) e

pub nothing_stands : (t : Token) (rest : List ℕ) → Stands [] t rest → ⊥
nothing_stands t rest s = let f = lexeme_first [] t s.count s.lexed in absurd (omega (arith, f.within, f.some))

pub other_stands : (t : Token) (sign b : ℕ) (bs : List ℕ) → spelling_of t ≡ sign ∷ [] → (b ≡ sign → ⊥)
    → (rest : List ℕ) → Stands (b ∷ bs) t rest → ⊥
other_stands t sign b bs spelled other rest s =
    let f = lexeme_first (b ∷ bs) t s.count s.lexed in
    other (first_byte s.count b sign bs f.some (f.spells.is ∙ spelled))

-- no `=` stands where two do
pub two_equal : (bs : List ℕ) → begins_with 61 bs ≡ true → (rest : List ℕ) → Stands (61 ∷ bs) token.Equal rest → ⊥
two_equal bs two rest s =
    let f = lexeme_first (61 ∷ bs) token.Equal s.count s.lexed in
    let one : s.count ≡ 1 = sym (length-take-le s.count (61 ∷ bs) f.within) ∙ ap length f.spells.is in
    let free : not (begins_with 61 (drop s.count (61 ∷ bs))) ≡ true = f.free in
    let two' : not (begins_with 61 bs) ≡ true = subst (λ k. not (begins_with 61 (drop k (61 ∷ bs))) ≡ true) one free in
    let wrong : false ≡ true = ap not (sym two) ∙ two' in
    cc

-- one token stands there alone
pub same_token : (here rest other : List ℕ) (t u : Token) → Stands here t rest → Stands here u other → t ≡ u
same_token here rest other t u s v = ap (λ p. p.0) (some_injective _ _ (sym s.lexed ∙ v.lexed))

pub refused_by : (e : Expected) (here : CursorView) (rest : List ℕ) (t : Token) → Stands here.here t rest
    → takes e t ≡ false → IsRefused e here
refused_by e here rest t s missing u other v =
    subst (λ x. takes e x ≡ false) (same_token here.here rest other t u s v) missing

pub refused_bare : (e : Expected) (here : CursorView) → IsBare here.here → IsRefused e here
refused_bare e here h t rest s = absurd (h t rest s)

-- 2. A token that is passed.

pub calm_operand : (v : Operand) (k : ℕ) → brace k (operand_token v) ≡ k
calm_operand (operand.Number n) k = refl
calm_operand (operand.Name n) k = refl
calm_operand operand.Null k = refl

pub calm_kind : (v : Kind) (k : ℕ) → brace k (kind_token v) ≡ k
calm_kind kind.Int k = refl
calm_kind (kind.Record n) k = refl

pub calm_keyword : (w : Keyword) (k : ℕ) → brace k (keyword_token w) ≡ k
calm_keyword keyword.Else k = refl
calm_keyword keyword.All k = refl
calm_keyword keyword.ProtectedBy k = refl

-- no brace
pub passed_calm : (t : Token) (here there : CursorView) → ((k : ℕ) → brace k t ≡ k)
    → StandsBefore here.here t there.here there.last → there.braces ≡ here.braces → there.end ≡ here.last
    → Passes here t there
passed_calm t here there calm s same end = record {
  stands = s.stands;
  last = s.behind;
  end = end;
  braces = same ∙ sym (calm here.braces);
  low = λ h. subst (λ k. k ≤ most_depth) (sym same) h;
}

-- 3. Which places take no token.

pub refused_sign : (e : Expected) (here : CursorView) → IsSign e → IsAbsent (sign_token e) here → IsRefused e here
refused_sign expected.Semicolon here i h token.Semicolon rest s = absurd (h rest s)
refused_sign expected.Semicolon here i h _ rest s = refl
refused_sign expected.OpenParen here i h token.OpenParen rest s = absurd (h rest s)
refused_sign expected.OpenParen here i h _ rest s = refl
refused_sign expected.CloseParen here i h token.CloseParen rest s = absurd (h rest s)
refused_sign expected.CloseParen here i h _ rest s = refl
refused_sign _ here i h t rest s = absurd i

pub sign_single : (e : Expected) → IsSign e → single_sign (sign_byte e) ≡ Some (sign_token e)
sign_single expected.Semicolon i = refl
sign_single expected.OpenParen i = refl
sign_single expected.CloseParen i = refl
sign_single _ i = absurd i

pub sign_spelled : (e : Expected) → IsSign e → spelling_of (sign_token e) ≡ sign_byte e ∷ []
sign_spelled expected.Semicolon i = refl
sign_spelled expected.OpenParen i = refl
sign_spelled expected.CloseParen i = refl
sign_spelled _ i = absurd i

pub sign_calm : (e : Expected) → IsSign e → (k : ℕ) → brace k (sign_token e) ≡ k
sign_calm expected.Semicolon i k = refl
sign_calm expected.OpenParen i k = refl
sign_calm expected.CloseParen i k = refl
sign_calm _ i k = absurd i

pub sign_no_word : (e : Expected) → IsSign e → is_name_byte (sign_byte e) ≡ false
sign_no_word expected.Semicolon i = refl
sign_no_word expected.OpenParen i = refl
sign_no_word expected.CloseParen i = refl
sign_no_word _ i = absurd i

pub sign_no_double : (e : Expected) → IsSign e → double_sign (sign_byte e) ≡ None
sign_no_double expected.Semicolon i = refl
sign_no_double expected.OpenParen i = refl
sign_no_double expected.CloseParen i = refl
sign_no_double _ i = absurd i

pub refused_equal : (here : CursorView) → IsAbsent token.Equal here → IsRefused expected.Equal here
refused_equal here h token.Equal rest s = absurd (h rest s)
refused_equal here h _ rest s = refl

pub refused_after_name : (here : CursorView) → IsAbsent token.Equal here → IsAbsent token.Dot here
    → IsRefused expected.AfterName here
refused_after_name here h k token.Equal rest s = absurd (h rest s)
refused_after_name here h k token.Dot rest s = absurd (k rest s)
refused_after_name here h k _ rest s = refl

pub refused_word : (here : CursorView) → IsAbsent token.Equal here → IsAbsent token.Dot here
    → IsRefused expected.Name here → IsRefused expected.NameOrAfterName here
refused_word here h k n token.Equal rest s = absurd (h rest s)
refused_word here h k n token.Dot rest s = absurd (k rest s)
refused_word here h k n (token.Name x) rest s = let wrong : true ≡ false = n (token.Name x) rest s in cc
refused_word here h k n _ rest s = refl

pub refused_first : (here : CursorView) → IsAbsent token.Semicolon here
    → ((o : Operator) → IsAbsent (operator_token o) here) → IsRefused expected.AfterFirst here
refused_first here h k token.Semicolon rest s = absurd (h rest s)
refused_first here h k token.Plus rest s = absurd (k operator.Add rest s)
refused_first here h k token.Minus rest s = absurd (k operator.Subtract rest s)
refused_first here h k token.Star rest s = absurd (k operator.Multiply rest s)
refused_first here h k _ rest s = refl

pub absent_operator : (here : CursorView) → IsAbsent token.Plus here → IsAbsent token.Minus here
    → IsAbsent token.Star here → (o : Operator) → IsAbsent (operator_token o) here
absent_operator here p m s operator.Add = p
absent_operator here p m s operator.Subtract = m
absent_operator here p m s operator.Multiply = s

pub refused_argument : (here : CursorView) → IsAbsent token.CloseParen here → IsRefused expected.Operand here
    → IsRefused expected.Argument here
refused_argument here h k token.CloseParen rest s = absurd (h rest s)
refused_argument here h k (token.Name n) rest s = k (token.Name n) rest s
refused_argument here h k (token.Number n) rest s = k (token.Number n) rest s
refused_argument here h k token.Null rest s = k token.Null rest s
refused_argument here h k _ rest s = refl

pub refused_parameter : (here : CursorView) → IsAbsent token.CloseParen here → IsRefused expected.Kind here
    → IsRefused expected.Parameter here
refused_parameter here h k token.CloseParen rest s = absurd (h rest s)
refused_parameter here h k (token.Name n) rest s = k (token.Name n) rest s
refused_parameter here h k token.Int rest s = k token.Int rest s
refused_parameter here h k _ rest s = refl

pub refused_field : (here : CursorView) → IsAbsent token.CloseBrace here → IsRefused expected.Kind here
    → IsRefused expected.Field here
refused_field here h k token.CloseBrace rest s = absurd (h rest s)
refused_field here h k (token.Name n) rest s = k (token.Name n) rest s
refused_field here h k token.Int rest s = k token.Int rest s
refused_field here h k _ rest s = refl

pub refused_after_argument : (here : CursorView) → IsAbsent token.CloseParen here → IsAbsent token.Comma here
    → IsRefused expected.AfterArgument here
refused_after_argument here h k token.CloseParen rest s = absurd (h rest s)
refused_after_argument here h k token.Comma rest s = absurd (k rest s)
refused_after_argument here h k _ rest s = refl

pub refused_after_parameter : (here : CursorView) → IsAbsent token.CloseParen here → IsAbsent token.Comma here
    → IsRefused expected.AfterParameter here
refused_after_parameter here h k token.CloseParen rest s = absurd (h rest s)
refused_after_parameter here h k token.Comma rest s = absurd (k rest s)
refused_after_parameter here h k _ rest s = refl

pub refused_hint : (here : CursorView) → IsAbsent token.ProtectedBy here → IsAbsent token.OpenBrace here
    → IsRefused expected.HintOrBrace here
refused_hint here h k token.ProtectedBy rest s = absurd (h rest s)
refused_hint here h k token.OpenBrace rest s = absurd (k rest s)
refused_hint here h k _ rest s = refl

pub refused_brace : (here : CursorView) → IsAbsent token.OpenBrace here → IsRefused expected.OpenBrace here
refused_brace here k token.OpenBrace rest s = absurd (k rest s)
refused_brace here k _ rest s = refl

pub refused_body : (here : CursorView) → IsAbsent token.OpenBrace here → IsRefused expected.OpenBody here
refused_body here k token.OpenBrace rest s = absurd (k rest s)
refused_body here k _ rest s = refl

pub no_value : (t : Token) → ((x : List ℕ) → t ≡ token.Name x → ⊥) → (t ≡ token.New → ⊥)
    → ((n : ℕ) → t ≡ token.Number n → ⊥) → (t ≡ token.Null → ⊥) → takes expected.Value t ≡ false
no_value (token.Name x) a b c d = absurd (a x refl)
no_value token.New a b c d = absurd (b refl)
no_value (token.Number n) a b c d = absurd (c n refl)
no_value token.Null a b c d = absurd (d refl)
no_value _ a b c d = refl

-- no statement begins with this token, and no block ends
pub not_start : (t : Token) (here : CursorView) (rest : List ℕ) → Stands here.here t rest
    → IsAbsent token.CloseBrace here → ((x : List ℕ) → t ≡ token.Name x → ⊥) → (t ≡ token.If → ⊥)
    → (t ≡ token.While → ⊥) → (t ≡ token.Print → ⊥) → (t ≡ token.Atomic → ⊥) → (t ≡ token.Call → ⊥)
    → takes expected.Start t ≡ false
not_start (token.Name x) here rest s b n i w p a c = absurd (n x refl)
not_start token.If here rest s b n i w p a c = absurd (i refl)
not_start token.While here rest s b n i w p a c = absurd (w refl)
not_start token.Print here rest s b n i w p a c = absurd (p refl)
not_start token.Atomic here rest s b n i w p a c = absurd (a refl)
not_start token.Call here rest s b n i w p a c = absurd (c refl)
not_start token.CloseBrace here rest s b n i w p a c = absurd (b rest s)
not_start _ here rest s b n i w p a c = refl

-- 4. Places that are alike.

pub alike_takes : (e d : Expected) (t : Token) → follows e t ≡ follows d t → takes e t ≡ takes d t
alike_takes e d t h = ap is_some h

pub alike_else : (here : CursorView) → IsAbsent token.Else here → IsAlike expected.StartOrElse expected.Start here
alike_else here h token.Else rest s = absurd (h rest s)
alike_else here h _ rest s = refl

pub alike_local : (here : CursorView) (rest : List ℕ) (t : Token) → Stands here.here t rest → (t ≡ token.Int → ⊥)
    → ((x : List ℕ) → t ≡ token.Name x → ⊥) → IsAlike expected.StartOrLocal expected.Start here
alike_local here rest t s i n u other v =
    go u (λ e. i (same_token here.here rest other t u s v ∙ e))
    (λ x e. n x (same_token here.here rest other t u s v ∙ e))
  where
    go : (u : Token) → (u ≡ token.Int → ⊥) → ((x : List ℕ) → u ≡ token.Name x → ⊥)
        → follows expected.StartOrLocal u ≡ follows expected.Start u
    go token.Int i n = absurd (i refl)
    go (token.Name x) i n = absurd (n x refl)
    go _ i n = refl

pub alike_name : (here : CursorView) → IsAbsent token.Dot here
    → IsAlike expected.AfterFirstName expected.AfterFirst here
alike_name here h token.Dot rest s = absurd (h rest s)
alike_name here h _ rest s = refl

pub alike_all : (here : CursorView) → IsAbsent token.All here → IsAlike expected.AllOrBrace expected.OpenBrace here
alike_all here h token.All rest s = absurd (h rest s)
alike_all here h _ rest s = refl

pub refused_alike : (e d : Expected) (here : CursorView) → IsAlike e d here → IsRefused d here → IsRefused e here
refused_alike e d here a h t rest s = alike_takes e d t (a t rest s) ∙ h t rest s

-- 5. Tokens that are passed one after another.

pub passed_append : (here : CursorView) (ts us : List Token) (mid there : CursorView) → ArePassed here ts mid
    → ArePassed mid us there → ArePassed here (ts ++ us) there
passed_append here [] us mid there h k = subst (λ x. ArePassed x us there) (sym h) k
passed_append here (t ∷ ts) us mid there (next, p, h) k = (next, p, passed_append next ts us mid there h k)

pub passed_shorter : (here there : CursorView) (t : Token) → Passes here t there
    → length there.here < length here.here
passed_shorter here there t p = omega (
  arith,
  shorter here.here t p.stands.count p.stands.lexed,
  ap length
      p.stands.behind,
)

pub no_longer : (here : CursorView) (ts : List Token) (there : CursorView) → ArePassed here ts there
    → length there.here ≤ length here.here
no_longer here [] there h = omega (arith, ap (λ c. length c.here) h)
no_longer here (t ∷ ts) there (next, p, h) = omega (arith, passed_shorter here next t p, no_longer next ts there h)

pub are_shorter : (here : CursorView) (t : Token) (ts : List Token) (there : CursorView) → ArePassed here (t ∷ ts) there
    → length there.here < length here.here
are_shorter here t ts there (next, p, h) = omega (arith, passed_shorter here next t p, no_longer next ts there h)

-- 6. Where a rule stops.

reached_after : (ps qs : List Expected) (ts : List Token) (e : Expected) (here mid there : CursorView)
    → ArePassed here ts mid → after ps ts ≡ Some qs → IsReached qs e mid there → IsReached ps e here there
reached_after ps qs ts e here mid there h k r = record {
  passed = ts ++ r.passed;
  are = passed_append here ts r.passed mid there h r.are;
  rest = r.rest;
  next = after_then ps qs ts r.passed k ∙ r.next;
}

-- tokens that lead from some places to others are passed before
pub stops_after : (s : Stop) (ps qs : List Expected) (ts : List Token) (here mid there : CursorView)
    → ArePassed here ts mid → after ps ts ≡ Some qs → StopsIn s qs mid there → StopsIn s ps here there
stops_after stop.Memory ps qs ts here mid there h k r = tt
stops_after (stop.At e) ps qs ts here mid there h k r = (reached_after ps qs ts e here mid there h k r.0, r.1)
stops_after stop.TooDeep ps qs ts here mid there h k r =
    (r.0, reached_after ps qs ts r.0 here mid there h k r.1, r.2)

reached_more : (ps qs : List Expected) (e : Expected) (here there : CursorView) → IsReached ps e here there
    → IsReached (ps ++ qs) e here there
reached_more ps qs e here there r =
    record { passed = r.passed; are = r.are; rest = r.rest ++ qs; next = after_more ps qs r.passed (e ∷ r.rest) r.next }

-- more places come behind
pub stops_more : (s : Stop) (ps qs : List Expected) (here there : CursorView) → StopsIn s ps here there
    → StopsIn s (ps ++ qs) here there
stops_more stop.Memory ps qs here there r = tt
stops_more (stop.At e) ps qs here there r = (reached_more ps qs e here there r.0, r.1)
stops_more stop.TooDeep ps qs here there r = (r.0, reached_more ps qs r.0 here there r.1, r.2)

-- the first token of these places is passed
pub stops_behind : (s : Stop) (e : Expected) (t : Token) (behind ps : List Expected) (here mid there : CursorView)
    → Passes here t mid → follows e t ≡ Some behind → StopsIn s (behind ++ ps) mid there
    → StopsIn s (e ∷ ps) here there
stops_behind s e t behind ps here mid there p k r =
    stops_after s (e ∷ ps) (behind ++ ps) (t ∷ []) here mid there (mid, p, refl)
    (rw k refl) r

-- nothing is passed
pub stops_here : (s : Stop) (e : Expected) (ps : List Expected) (here there : CursorView) → Stops s e here there
    → StopsIn s (e ∷ ps) here there
stops_here s e ps here there h = subst (λ x. StopsIn x (e ∷ ps) here there) (sym h.0) (
  record { passed = []; are = sym h.1; rest = ps; next = refl },
  subst (IsRefused e) (sym h.1) h.2,
)

pub stops_at_brace : (s : Stop) (e : Expected) (ps : List Expected) (here there : CursorView)
    → StopsAtBrace s e here there → (IsAbsent token.OpenBrace here → IsRefused e here)
    → ((rest : List ℕ) → Stands here.here token.OpenBrace rest → takes e token.OpenBrace ≡ true)
    → StopsIn s (e ∷ ps) here there
stops_at_brace stop.Memory e ps here there h refused may = tt
stops_at_brace (stop.At d) e ps here there h refused may =
    stops_here (stop.At d) e ps here there (ap stop.At h.0, h.1, refused h.2)
stops_at_brace stop.TooDeep e ps here there h refused may = (
  e,
  record { passed = []; are = sym h.0; rest = ps; next = refl },
  subst (IsDeep e) (sym h.0) (record { rest = h.1; brace = h.2; may = may h.1 h.2; most = h.3 }),
)

pub operator_follows : (o : Operator)
    → follows expected.AfterFirst (operator_token o) ≡ Some (expected.Operand ∷ expected.Semicolon ∷ [])
operator_follows operator.Add = refl
operator_follows operator.Subtract = refl
operator_follows operator.Multiply = refl

pub parameter_follows : (k : Kind)
    → follows expected.Parameter (kind_token k) ≡ Some (expected.Name ∷ expected.AfterParameter ∷ [])
parameter_follows kind.Int = refl
parameter_follows (kind.Record n) = refl

pub kind_follows : (k : Kind) → follows expected.Kind (kind_token k) ≡ Some []
kind_follows kind.Int = refl
kind_follows (kind.Record n) = refl

pub field_follows : (k : Kind) → follows expected.Field (kind_token k)
    ≡ Some (expected.Name ∷ expected.Semicolon ∷ expected.Field ∷ [])
field_follows kind.Int = refl
field_follows (kind.Record n) = refl

-- 7. What a rule adds.

-- one more token stands before those that are passed
unfoldable pub added_behind : (e : Expected) (front : List Token) (t : Token) (here mid there : CursorView)
    (old new : BlockView)
    → Passes here t mid → HasAdded e (front ++ t ∷ []) mid there old new → HasAdded e front here there old new
added_behind e front t here mid there old new p h = record {
  statement = h.statement;
  tokens = t ∷ h.tokens;
  are = (mid, p, h.are);
  spelled = h.spelled ∙ append_assoc front (t ∷ []) h.tokens;
  added = h.added;
  behind = h.behind;
}

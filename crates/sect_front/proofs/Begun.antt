-- One more local or statement of a body is read.
use Rattle.std.proofs.Common.{◌≡◌, ◌≢◌, ℕ, ◌<◌, List, [], ◌∷◌, ◌++◌, Some, length, refl, sym, ◌∙◌, ap, subst}
use Rattle.std.proofs.Common.{append_assoc}
use Rattle.sect_front.specs.Syntax.{StatementView, BlockView, Primitive, If, IfElse, While, Atomic, Call}
use Rattle.sect_front.specs.{Tokens.{block_tokens, declarations_tokens, statement_tokens}}
use Rattle.sect_front.specs.{declared.token.Token.{Token}, declared.tree.Declaration.{Declaration}}
use Rattle.sect_front.specs.{declared.expected.Expected.{Expected}, steps.Places.{after}, steps.Declaring.{HasBegun}}
use Rattle.sect_front.specs.steps.Passing.{CursorView, Passes, ArePassed, IsAlike, HasAdded, place_behind}
use Rattle.sect_front.proofs.{Leading.{after_then, statement_after}, Stopping.{passed_append}}
use Rattle.sect_front.proofs.Growing.{declarations_behind, block_behind, block_grow}
use Rattle.sect_front.proofs.Adding.{some_tokens, alike_passed, shorter_by, whole}
use Rattle.sect_front.specs.declared.token.Token.TheVariants as token
use Rattle.sect_front.specs.declared.expected.Expected.TheVariants as expected

not_local : (s : StatementView) → place_behind s ≢ expected.StartOrLocal
not_local (Primitive p) e = cc
not_local (If t a) e = cc
not_local (IfElse t a b) e = cc
not_local (While t a) e = cc
not_local (Atomic l a) e = cc
not_local (Call f vs) e = cc

-- a statement that is added is one more part of the body
pub statement_begun : (d e : Expected) (here there : CursorView) (ds : List Declaration) (old new : BlockView)
    → IsAlike d expected.Start here → HasAdded e [] here there old new → HasBegun d e [] here there ds ds old new
statement_begun d e here there ds old new alike h =
    let s = h.statement in
    let some : statement_tokens s [] ≢ [] = some_tokens s in
    record {
      tokens = statement_tokens s [];
      are = whole e here there old new h;
      some = some;
      next = alike_passed d expected.Start [] here there (statement_tokens s []) some alike
          (whole e here there old new h) ∙ (statement_after s [] [] ∙ ap (λ x. Some (x ∷ [])) h.behind);
      spelled = ap (declarations_tokens ds) (ap (λ b. block_tokens b []) h.added ∙ block_grow old s []);
      none = λ is. absurd (not_local s (h.behind ∙ is));
    }

-- a statement that begins with a name and this token, where locals might stand too
pub named_begun : (x : List ℕ) (t : Token) (here mid there : CursorView) (ds : List Declaration)
    (old new : BlockView) → ((ts : List Token) → after (expected.StartOrLocal ∷ []) (token.Name x ∷ t ∷ ts)
    ≡ after (expected.Start ∷ []) (token.Name x ∷ t ∷ ts)) → Passes here t mid
    → HasAdded expected.Start (token.Name x ∷ t ∷ []) mid there old new
    → HasBegun expected.StartOrLocal expected.Start (token.Name x ∷ []) here there ds ds old new
named_begun x t here mid there ds old new same p h =
    let s = h.statement in
    record {
      tokens = t ∷ h.tokens;
      are = (mid, p, h.are);
      some = λ e. cc;
      next = same h.tokens ∙ (ap (after (expected.Start ∷ [])) (sym h.spelled)
          ∙ (statement_after s [] [] ∙ ap (λ y. Some (y ∷ [])) h.behind));
      spelled = ap (declarations_tokens ds) (ap (λ b. block_tokens b []) h.added
          ∙ (block_grow old s [] ∙ ap (block_tokens old) h.spelled));
      none = λ e. absurd cc;
    }

-- one more token stands before those that are passed
pub begun_behind : (d e : Expected) (front : List Token) (t : Token) (here mid there : CursorView)
    (old new : List Declaration) (before block : BlockView) → Passes here t mid
    → HasBegun d e (front ++ t ∷ []) mid there old new before block → HasBegun d e front here there old new before block
begun_behind d e front t here mid there old new before block p h =
    let same = append_assoc front (t ∷ []) h.tokens in
    record {
      tokens = t ∷ h.tokens;
      are = (mid, p, h.are);
      some = λ is. h.some (same ∙ is);
      next = ap (after (d ∷ [])) (sym same) ∙ h.next;
      spelled = h.spelled ∙ ap (λ ts. declarations_tokens old (block_tokens before ts)) same;
      none = h.none;
    }

body_behind : (ds : List Declaration) (b : BlockView) (ts : List Token)
    → declarations_tokens ds (block_tokens b []) ++ ts ≡ declarations_tokens ds (block_tokens b ts)
body_behind ds b ts = declarations_behind ds (block_tokens b []) ts ∙ ap (declarations_tokens ds) (block_behind b [] ts)

pub begun_are : (init here there : CursorView) (d e : Expected) (old new : List Declaration) (before block : BlockView)
    → ArePassed init (declarations_tokens old (block_tokens before [])) here
    → HasBegun d e [] here there old new before block
    → ArePassed init (declarations_tokens new (block_tokens block [])) there
begun_are init here there d e old new before block are h =
    subst (λ ts. ArePassed init ts there) (body_behind old before h.tokens ∙ sym h.spelled)
    (passed_append init (declarations_tokens old (block_tokens before [])) h.tokens here there are h.are)

pub begun_leads : (start : List Expected) (here there : CursorView) (d e : Expected) (old new : List Declaration)
    (before block : BlockView) → after start (declarations_tokens old (block_tokens before [])) ≡ Some (d ∷ [])
    → HasBegun d e [] here there old new before block
    → after start (declarations_tokens new (block_tokens block [])) ≡ Some (e ∷ [])
begun_leads start here there d e old new before block leads h =
    ap (after start) (h.spelled ∙ sym (body_behind old before h.tokens))
    ∙ (after_then start (d ∷ []) (declarations_tokens old (block_tokens before [])) h.tokens leads ∙ h.next)

pub begun_shorter : (here there : CursorView) (d e : Expected) (old new : List Declaration) (before block : BlockView)
    → HasBegun d e [] here there old new before block → length there.here < length here.here
begun_shorter here there d e old new before block h = shorter_by here there h.tokens h.some h.are

pub body_ends : (init here there : CursorView) (ds : List Declaration) (b : BlockView)
    → ArePassed init (declarations_tokens ds (block_tokens b [])) here → Passes here token.CloseBrace there
    → ArePassed init (declarations_tokens ds (block_tokens b (token.CloseBrace ∷ []))) there
body_ends init here there ds b are p =
    subst (λ ts. ArePassed init ts there) (body_behind ds b (token.CloseBrace ∷ []))
    (passed_append init (declarations_tokens ds (block_tokens b [])) (token.CloseBrace ∷ []) here there are
    (there, p, refl))

-- One more statement is read.
use Rattle.std.proofs.Common.{◌≡◌, ◌≢◌, ◌<◌, List, [], ◌∷◌, ◌++◌, Some, option_and_then, length, refl, sym}
use Rattle.std.proofs.Common.{◌∙◌}
use Rattle.std.proofs.Common.{ap, subst, append_assoc}
use Rattle.sect_front.specs.Syntax.{StatementView, BlockView, Primitive, If, IfElse, While, Atomic, Call}
use Rattle.sect_front.specs.{Tokens.{statement_tokens, block_tokens}, Trees.{append}}
use Rattle.sect_front.specs.{declared.token.Token.{Token}, declared.expected.Expected.{Expected}}
use Rattle.sect_front.specs.steps.Places.{after}
use Rattle.sect_front.specs.steps.Passing.{CursorView, ArePassed, IsAlike, HasAdded}
use Rattle.sect_front.proofs.{Leading.{after_then, statement_after}, Growing.{block_behind, block_grow}}
use Rattle.sect_front.proofs.Stopping.{passed_append, are_shorter}
use Rattle.sect_front.specs.declared.tree.Primitive.TheVariants as primitive
use Rattle.sect_front.specs.declared.expected.Expected.TheVariants as expected

pub some_tokens : (s : StatementView) → statement_tokens s [] ≢ []
some_tokens (Primitive (primitive.Assign x v)) e = cc
some_tokens (Primitive (primitive.Compute x v o u)) e = cc
some_tokens (Primitive (primitive.New x r)) e = cc
some_tokens (Primitive (primitive.Load x y f)) e = cc
some_tokens (Primitive (primitive.Store y f v)) e = cc
some_tokens (Primitive (primitive.Print v)) e = cc
some_tokens (If t a) e = cc
some_tokens (IfElse t a b) e = cc
some_tokens (While t a) e = cc
some_tokens (Atomic l a) e = cc
some_tokens (Call f vs) e = cc

-- tokens that begin alike at two places lead to the same from both
pub alike_passed : (d e : Expected) (ps : List Expected) (here there : CursorView) (ts : List Token) → ts ≢ []
    → IsAlike d e here → ArePassed here ts there → after (d ∷ ps) ts ≡ after (e ∷ ps) ts
alike_passed d e ps here there [] some alike h = absurd (some refl)
alike_passed d e ps here there (t ∷ ts) some alike (next, p, h) =
    ap (option_and_then (λ list. after (list ++ ps) ts)) (alike t next.here p.stands)

-- the tokens of what was added are passed
pub whole : (e : Expected) (here there : CursorView) (old new : BlockView) → (h : HasAdded e [] here there old new)
    → ArePassed here (statement_tokens h.statement []) there
whole e here there old new h = subst (λ ts. ArePassed here ts there) (sym h.spelled) h.are

pub shorter_by : (here there : CursorView) (ts : List Token) → ts ≢ [] → ArePassed here ts there
    → length there.here < length here.here
shorter_by here there [] some h = absurd (some refl)
shorter_by here there (t ∷ ts) some h = are_shorter here t ts there h

pub added_shorter : (e : Expected) (here there : CursorView) (old new : BlockView) → HasAdded e [] here there old new
    → length there.here < length here.here
added_shorter e here there old new h =
    shorter_by here there (statement_tokens h.statement []) (some_tokens h.statement) (whole e here there old new h)

grown : (pre : List Token) (b : BlockView) (s : StatementView)
    → (pre ++ block_tokens b []) ++ statement_tokens s [] ≡ pre ++ block_tokens (append b s) []
grown pre b s =
    append_assoc pre (block_tokens b []) (statement_tokens s [])
    ∙ ap (λ x. pre ++ x) (block_behind b [] (statement_tokens s []) ∙ sym (block_grow b s []))

pub added_are : (pre : List Token) (init here there : CursorView) (b new : BlockView) (e : Expected)
    → ArePassed init (pre ++ block_tokens b []) here → HasAdded e [] here there b new
    → ArePassed init (pre ++ block_tokens new []) there
added_are pre init here there b new e are h =
    subst (λ x. ArePassed init (pre ++ block_tokens x []) there) (sym h.added)
    (subst (λ ts. ArePassed init ts there) (grown pre b h.statement)
    (passed_append init (pre ++ block_tokens b []) (statement_tokens h.statement []) here there are
    (whole e here there b new h)))

pub added_leads : (start : List Expected) (pre : List Token) (here there : CursorView) (b new : BlockView)
    (d e : Expected) → after start (pre ++ block_tokens b []) ≡ Some (d ∷ []) → IsAlike d expected.Start here
    → HasAdded e [] here there b new → after start (pre ++ block_tokens new []) ≡ Some (e ∷ [])
added_leads start pre here there b new d e leads alike h =
    subst (λ x. after start (pre ++ block_tokens x []) ≡ Some (e ∷ [])) (sym h.added)
    (ap (after start) (sym (grown pre b h.statement))
    ∙ (after_then start (d ∷ []) (pre ++ block_tokens b []) (statement_tokens h.statement []) leads
    ∙ (alike_passed d expected.Start [] here there (statement_tokens h.statement []) (some_tokens h.statement) alike
    (whole e here there b new h)
    ∙ (statement_after h.statement [] [] ∙ ap (λ x. Some (x ∷ [])) h.behind))))

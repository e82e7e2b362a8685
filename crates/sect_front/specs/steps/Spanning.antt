-- Where the items stand that a rule of the grammar reads.
use Rattle.std.specs.Prelude.{◌≡◌, ℕ, List, [], ◌∷◌, ◌++◌, length}
use Rattle.sect_front.specs.{Syntax.{BlockView, End}, TreeView.{TreeView}, declared.span.Span.{Span}}
use Rattle.sect_front.specs.Tokens.{declarations_tokens, block_tokens, source_tokens}
use Rattle.sect_front.specs.ItemSpans.{past, span_left, statement_spans, body_spans, source_spans}
use Rattle.sect_front.specs.{declared.token.Token.{Token}, declared.tree.Declaration.{Declaration}}
use Rattle.sect_front.specs.declared.expected.Expected.{Expected}
use Rattle.sect_front.specs.steps.{Passing.{CursorView, Passes, ArePassed, HasAdded}, Declaring.{HasBegun, HasPart}}

-- how many bytes the text has, and the spans of the items that have been read
pub record SpansView : Type 0 where
  pub total : ℕ
  pub items : List Span

-- the same, and more spans
abbrev pub with_spans : SpansView → List Span → SpansView
with_spans s more = record { total = s.total; items = s.items ++ more }

-- a statement is added that begins with these tokens, before which so many bytes are left, and the spans of its items
pub record HasItems (e : Expected) (front : List Token) (here there : CursorView) (old new : BlockView) (start : ℕ)
    (was now : SpansView) : Type 0
  where
    pub added : HasAdded e front here there old new
    pub spans : (from : CursorView) → ArePassed from front here → start ≡ length from.here
        → now ≡ with_spans was (statement_spans was.total from.here added.statement)

-- these tokens and then those that are passed, with the `;` at their end, are one item more of a body
abbrev pub AddsItem : List Token → CursorView → CursorView → List Declaration → List Declaration → BlockView → Type 0
AddsItem front here there old new block =
    (total : ℕ) (init : List ℕ) (from : CursorView) → ArePassed from front here
    → past init (declarations_tokens old []) ≡ from.here
    → body_spans total init new block
    ≡ body_spans total init old End ++ span_left total (length from.here) there.end ∷ []

-- a local or a statement is read, and the spans of its items are added
pub record HasBegunItems (d e : Expected) (here there : CursorView) (old new : List Declaration)
    (before block : BlockView) (was now : SpansView) : Type 0
  where
    pub begun : HasBegun d e [] here there old new before block
    pub more : List Span
    pub adds : now ≡ with_spans was more
    pub grown : (init : List ℕ) → past init (declarations_tokens old (block_tokens before [])) ≡ here.here
        → body_spans was.total init new block ≡ body_spans was.total init old before ++ more

-- behind this token, before which so many bytes are left, all that begins with it is read, and these spans are added
abbrev pub HasSpansOf : (ℕ → List ℕ → List Span) → Token → CursorView → ℕ → SpansView → SpansView → Type 0
HasSpansOf spans t here start was now =
    (from : CursorView) → Passes from t here → start ≡ length from.here
    → now ≡ with_spans was (spans was.total from.here)

-- a declaration is read, and the spans of its items are added
pub record HasPartItems (part e : Expected) (here there : CursorView) (old new : TreeView) (was now : SpansView)
    : Type 0
  where
    pub read : HasPart part e here there old new
    pub more : List Span
    pub adds : now ≡ with_spans was more
    pub grown : (init : List ℕ) → past init (source_tokens old []) ≡ here.here
        → source_spans was.total init new ≡ source_spans was.total init old ++ more

-- What is said beside the carets.
use Rattle.std.specs.Prelude.{◌≡◌, ◌<◌, ⊤, ℕ, ◌-◌, List, [], ◌∷◌, ◌++◌, Option, Some, None, length, slice_get, codes}
use Rattle.std.specs.{Prelude.{All, take, drop, get_or}, List.{flat_map}, Fmt.{decimal}}
use Rattle.sect_front.specs.{FaultPlaces.{open_braces, IsWithin}, Lexing.{Spells}, TokenAt.{TokenAt}}
use Rattle.sect_front.specs.{TreeView.{TreeView}, Grammar.{tokens_of}, declared.token.Token.{Token}}
use Rattle.sect_front.specs.{declared.parsing.FrontFault.{FrontFault}, declared.span.Span.{Span}}
use Rattle.sect_places.specs.{Positions.{position}, declared.position.Position.{Position}}
use Rattle.sect_places.specs.declared.name_use.NameSpan.{NameSpan}
use Rattle.sect_places.specs.{declared.range.TokenRange.{TokenRange}, Ranges.{item_tokens}}
use Rattle.sect_types.specs.declared.rules.rule.TypeFault.{TypeFault}
use Rattle.sect_lint.specs.Naming.{found, declared_at, earlier_name, earlier_detail}
use Rattle.sect_lint.specs.{Places.{no_range, of_types, item_number}, Arguments.{mistyped_detail}}
use Rattle.sect_lint.specs.{Limits.{words_of, item_limit}, Counting.{counts_detail}}
use Rattle.sect_lint.specs.{Labels.{quoted, typed_text, types_text, counts_text, IsTypedWithin}, Calls.{IsCircleTold}}
use Rattle.sect_lint.specs.{Kinds.{kinds_text, AreKindsTold}, declared.diagnostic.Detail.{Detail}}
use Rattle.sect_front.specs.declared.parsing.FrontFault.TheVariants as front
use Rattle.sect_types.specs.declared.rules.rule.TypeFault.TheVariants as types
use Rattle.sect_lint.specs.declared.diagnostic.Detail.TheVariants as detail

-- that the brace at this place is open, if there is one
abbrev pub of_brace : Option ℕ → Detail
of_brace None = detail.Nothing
of_brace (Some at) = detail.OpenBrace at

-- of a name and of a text that are too long it is said how long they are, of a text that ends too early which brace is
-- the innermost that is open, and of a token that can't stand where it does which kinds may
abbrev pub IsFrontDetail : List ℕ → FrontFault → Span → Detail → Type 0
IsFrontDetail source (front.LongName line) span told = told ≡ detail.Bytes (span.end - span.start)
IsFrontDetail source front.TooLarge span told = told ≡ detail.Bytes (length source)
IsFrontDetail source (front.UnexpectedEnd line) span told = (places : List TokenAt) → Spells source places
    → told ≡ of_brace (slice_get (open_braces places) (length (open_braces places) - 1))
IsFrontDetail source (front.Unexpected line) span told = AreKindsTold source span told
IsFrontDetail source _ span told = told ≡ detail.Nothing

-- which tokens an item has
abbrev pub own_range : TreeView → ℕ → TokenRange
own_range tree item = get_or (item_tokens tree) item no_range

abbrev pub own_tokens : TreeView → ℕ → List Token
own_tokens tree item = take (own_range tree item).count (drop (own_range tree item).first (tokens_of tree))

-- of the bytes of all tokens those of its tokens
abbrev pub own_spans : TreeView → List Span → ℕ → List Span
own_spans tree spans item = take (own_range tree item).count (drop (own_range tree item).first spans)

-- of a name that is declared twice it is said where it is first declared, of types that don't agree which they are, of
-- a limit that is passed which that is, and of a call how many arguments and parameters there are. These are the tokens
-- of the item at fault, and their bytes
abbrev pub item_detail : TreeView → List NameSpan → List Token → List Span → TypeFault → Detail
item_detail tree names tokens spans (types.Twice item) = earlier_detail (earlier_name names item)
item_detail tree names tokens spans (types.WrongType item) = mistyped_detail tree.procedures names item tokens spans
item_detail tree names tokens spans (types.TooMany item) =
    detail.Limit (item_limit (found names (declared_at names item)) tokens)
item_detail tree names tokens spans (types.Arguments item) = counts_detail tree.procedures tokens spans
item_detail tree names tokens spans _ = detail.Nothing

-- of a call that leads back it is said by which calls, and of all else this
abbrev pub IsToldOf : List NameSpan → TypeFault → Detail → Detail → Type 0
IsToldOf names (types.Recursion item) other told = IsCircleTold names item told
IsToldOf names _ other told = told ≡ other

-- what is said of a tree that breaks a rule, where these are the bytes of its tokens
abbrev pub IsDetailBy : TreeView → List NameSpan → List Span → TypeFault → Detail → Type 0
IsDetailBy tree names spans why told =
    let item : ℕ = item_number tree (of_types why) in
    IsToldOf names why (item_detail tree names (own_tokens tree item) (own_spans tree spans item) why) told

-- a line and a column, and those of a place
abbrev pub position_text : Position → List ℕ
position_text p = decimal p.line ++ codes ":" ++ decimal p.column

abbrev pub place_text : List ℕ → ℕ → List ℕ
place_text source at = position_text (position source at)

abbrev pub earlier_text : List ℕ → ℕ → List ℕ
earlier_text source at = codes " first declared at " ++ place_text source at

-- a call with its place, and a call behind others
abbrev pub called_text : List ℕ → Span → List ℕ → List ℕ
called_text source s words = quoted source s ++ words ++ place_text source s.start

abbrev pub next_text : List ℕ → Span → List ℕ
next_text source s = codes ", " ++ called_text source s (codes " at ")

-- the calls of a circle, each with its place
abbrev pub circle_text : List ℕ → List Span → List ℕ
circle_text source [] = []
circle_text source (s ∷ spans) =
    called_text source s (codes " is called at ") ++ flat_map (next_text source) spans

abbrev pub detail_text : List ℕ → Detail → List ℕ
detail_text source detail.Nothing = []
detail_text source (detail.Bytes count) = codes " " ++ decimal count ++ codes " bytes"
detail_text source (detail.OpenBrace at) = codes " the `{` at " ++ place_text source at ++ codes " is open"
detail_text source (detail.Earlier span) = earlier_text source span.start
detail_text source (detail.Type t) = codes " " ++ typed_text source t
detail_text source (detail.Types a b) = codes " " ++ types_text source a b
detail_text source (detail.Limit l) = codes " " ++ words_of l
detail_text source (detail.Counts c) = codes " " ++ counts_text source c
detail_text source (detail.Circle spans) = codes " " ++ circle_text source spans.items
detail_text source (detail.Expected kinds) = codes " " ++ kinds_text kinds.items

-- a place that is told is one of a text of so many bytes
abbrev pub IsDetailWithin : ℕ → Detail → Type 0
IsDetailWithin total (detail.OpenBrace at) = at < total
IsDetailWithin total (detail.Earlier span) = IsWithin total span
IsDetailWithin total (detail.Type t) = IsTypedWithin total t
IsDetailWithin total (detail.Types a b) = IsTypedWithin total a × IsTypedWithin total b
IsDetailWithin total (detail.Counts c) = IsWithin total c.procedure
IsDetailWithin total (detail.Circle spans) = All (IsWithin total) spans.items
IsDetailWithin total _ = ⊤

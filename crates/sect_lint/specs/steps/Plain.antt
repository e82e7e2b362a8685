-- What is said beside the carets, whatever the places of names are.
use Rattle.std.specs.Prelude.{◌≡◌, ◌&&◌, ℕ, Bool, true, false, List, ◌∷◌, Option, Some, None, map, nat_eq, slice_get}
use Rattle.sect_front.specs.{TreeView.{TreeView}, declared.span.Span.{Span}, declared.token.Token.{Token}}
use Rattle.sect_front.specs.declared.tree.Procedure.{Procedure}
use Rattle.sect_types.specs.declared.rules.rule.TypeFault.{TypeFault}
use Rattle.sect_places.specs.{declared.name_use.NameUse.{NameUse}, declared.name_use.NameSpan.{NameSpan}}
use Rattle.sect_places.specs.{NameUses.{name_uses}, Openings.{IsOpening}, declared.opening.Opening.{Opening}}
use Rattle.sect_places.specs.Declarations.{is_declaration}
use Rattle.sect_lint.specs.{Places.{marked_name}, Limits.{limit_by, statement_limit}, Details.{IsToldOf, item_detail}}
use Rattle.sect_lint.specs.{declared.limit.Limit.{Limit}, Counting.{counts_by, parameters_of}}
use Rattle.sect_lint.specs.declared.diagnostic.Detail.{Detail}
use Rattle.sect_front.specs.declared.token.Token.TheVariants as token
use Rattle.sect_types.specs.declared.rules.rule.TypeFault.TheVariants as types
use Rattle.sect_lint.specs.declared.diagnostic.Detail.TheVariants as detail

-- a name is declared in that item
abbrev pub is_declared_there : ℕ → NameUse → Bool
is_declared_there item u = nat_eq u.item item && is_declaration u.role

abbrev pub by_use : Option NameUse → List Token → Limit
by_use None tokens = statement_limit tokens
by_use (Some u) tokens = limit_by u.role tokens

-- the limit of an item of these tokens in which the name of this number is declared, if one is
abbrev pub use_limit : List NameUse → Option ℕ → List Token → Limit
use_limit uses None tokens = statement_limit tokens
use_limit uses (Some k) tokens = by_use (slice_get uses k) tokens

-- what is said of an item that breaks this rule takes the place of no name but of those in the item
abbrev pub is_plain : TypeFault → Bool
is_plain (types.TooMany item) = true
is_plain (types.Arguments item) = true
is_plain (types.SharedOutside item) = true
is_plain (types.Nested item) = true
is_plain _ = false

-- what is told of a call with so many arguments, by its first tokens and their bytes
abbrev pub opened_counts : List Procedure → List Token → List Span → ℕ → Detail
opened_counts ps (keyword ∷ token.Name f ∷ rest) (word ∷ at ∷ spans) n = counts_by at n (parameters_of ps f)
opened_counts ps _ _ n = detail.Nothing

-- it is said of the tree, and its item at fault is marked whole, wherever its names stand
abbrev pub IsPlain : TreeView → List Token → List Span → TypeFault → Detail → Type 0
IsPlain tree tokens spans why told =
    (names : List NameSpan) → map (λ n. n.used) names ≡ name_uses tree
    → IsToldOf names why (item_detail tree names tokens spans why) told × (marked_name names why ≡ None)

-- and so of the tokens of which these are kept
abbrev pub IsPlainBy : TreeView → Opening → TypeFault → Detail → Type 0
IsPlainBy tree o why told = (tokens : List Token) (spans : List Span)
    → IsOpening tokens spans o.tokens.items o.spans.items o.values o.last → IsPlain tree tokens spans why told

-- Which kinds of tokens are told.
use Rattle.std.specs.{Prelude.{ℕ, if◌then◌else◌, List, [], ◌∷◌, ◌++◌, take, length, codes, nat_lt}, List.{flat_map}}
use Rattle.sect_front.specs.{Samples.{kind_spelling}, Expected.{AreExpectedAt}, declared.span.Span.{Span}}
use Rattle.sect_front.specs.declared.token_kind.TokenKind.{TokenKind}
use Rattle.sect_lint.specs.declared.diagnostic.Detail.{Detail}
use Rattle.sect_front.specs.declared.token_kind.TokenKind.TheVariants as kind
use Rattle.sect_lint.specs.declared.diagnostic.Detail.TheVariants as detail

-- a kind that has many spellings
abbrev pub open_kind : TokenKind → List ℕ
open_kind kind.Name = codes "a name"
open_kind _ = codes "a number"

abbrev pub words_by : TokenKind → List ℕ → List ℕ
words_by k [] = open_kind k
words_by k (b ∷ bs) = codes "`" ++ (b ∷ bs) ++ codes "`"

-- keywords and signs are told by their spelling
abbrev pub kind_words : TokenKind → List ℕ
kind_words k = words_by k (kind_spelling k)

-- what stands before the first of more than two kinds, and between kinds, of which these are all but the first
abbrev pub lead : List TokenKind → List ℕ
lead ks = if nat_lt 1 (length ks) then codes "one of " else []

abbrev pub separator : List TokenKind → List ℕ
separator ks = if nat_lt 1 (length ks) then codes ", " else codes " or "

-- a kind behind others
abbrev pub next_kind : List ℕ → TokenKind → List ℕ
next_kind between k = between ++ kind_words k

-- what is told where kinds are left out
abbrev pub rest_text : List TokenKind → List ℕ
rest_text ks = if nat_lt 5 (length ks) then codes ", .." else []

-- the kinds that may stand there, of which six are told at most
abbrev pub kinds_text : List TokenKind → List ℕ
kinds_text [] = []
kinds_text (k ∷ ks) =
    codes "expected " ++ lead ks ++ kind_words k ++ flat_map (next_kind (separator ks)) (take 5 ks) ++ rest_text ks

-- of a token that can't stand where it does it is told which kinds may, by the tokens before it
abbrev pub AreKindsTold : List ℕ → Span → Detail → Type 0
AreKindsTold source span (detail.Expected kinds) = AreExpectedAt source span.start kinds.items
AreKindsTold source span _ = ⊥

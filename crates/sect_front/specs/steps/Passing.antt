-- What a rule of the grammar reads, and where it stops.
use Rattle.std.specs.Prelude.{◌≡◌, ℕ, ◌-◌, ◌≤◌, true, false, List, [], ◌∷◌, ◌++◌, Some, ⊤, drop, length}
use Rattle.sect_front.specs.{Syntax.{BlockView, StatementView, If}, Trees.{append}, Tokens.{statement_tokens}}
use Rattle.sect_front.specs.{Gaps.{after_gap}, Braces.{brace}, Limits.{most_depth}, declared.token.Token.{Token}}
use Rattle.sect_front.specs.{declared.expected.Expected.{Expected}, declared.cursor.Stop.{Stop}}
use Rattle.sect_front.specs.steps.{Lexeme.{lexeme_of}, Places.{follows, takes, after}}
use Rattle.sect_front.specs.declared.token.Token.TheVariants as token
use Rattle.sect_front.specs.declared.expected.Expected.TheVariants as expected
use Rattle.sect_front.specs.declared.cursor.Stop.TheVariants as stop

-- what is left of a text behind the gap before it, how many braces are open there, and how many bytes are left behind
-- the last token that was passed and behind the one before that
pub record CursorView : Type 0 where
  pub here : List ℕ
  pub braces : ℕ
  pub last : ℕ
  pub end : ℕ

-- where a text begins
abbrev pub text_start : List ℕ → CursorView
text_start bytes = record { here = after_gap bytes; braces = 0; last = 0; end = 0 }

-- the token stands at the front, and what follows it and the gap behind it is this
pub record Stands (here : List ℕ) (t : Token) (there : List ℕ) : Type 0 where
  pub count : ℕ
  pub lexed : lexeme_of here ≡ Some (t, count)
  pub behind : there ≡ after_gap (drop count here)

-- the same, and behind the token so many bytes are left
pub record StandsBefore (here : List ℕ) (t : Token) (there : List ℕ) (left : ℕ) : Type 0 where
  pub stands : Stands here t there
  pub behind : left ≡ length here - stands.count

-- the token is passed, and with it no brace too many is opened
pub record Passes (here : CursorView) (t : Token) (there : CursorView) : Type 0 where
  pub stands : Stands here.here t there.here
  pub last : there.last ≡ length here.here - stands.count
  pub end : there.end ≡ here.last
  pub braces : there.braces ≡ brace here.braces t
  pub low : here.braces ≤ most_depth → there.braces ≤ most_depth

-- these tokens are passed, one after another
abbrev pub ArePassed : CursorView → List Token → CursorView → Type 0
ArePassed here [] there = here ≡ there
ArePassed here (t ∷ ts) there = (next : CursorView) × Passes here t next × ArePassed next ts there

-- no token stands at the front
abbrev pub IsBare : List ℕ → Type 0
IsBare here = (t : Token) (rest : List ℕ) → Stands here t rest → ⊥

-- this token doesn't stand at the front
abbrev pub IsAbsent : Token → CursorView → Type 0
IsAbsent t here = (rest : List ℕ) → Stands here.here t rest → ⊥

-- none of the tokens that may stand at a place stands here
abbrev pub IsRefused : Expected → CursorView → Type 0
IsRefused e here = (t : Token) (rest : List ℕ) → Stands here.here t rest → takes e t ≡ false

-- the token that stands here, if one does, is followed alike at both places
abbrev pub IsAlike : Expected → Expected → CursorView → Type 0
IsAlike e d here = (t : Token) (rest : List ℕ) → Stands here.here t rest → follows e t ≡ follows d t

-- nothing is passed, since no token stands here that may stand at that place
abbrev pub Stops : Stop → Expected → CursorView → CursorView → Type 0
Stops s e here there = (s ≡ stop.At e) × (there ≡ here) × IsRefused e here

-- tokens are passed for the first of these places, and this is the next one then
pub record IsReached (places : List Expected) (e : Expected) (here there : CursorView) : Type 0 where
  pub passed : List Token
  pub are : ArePassed here passed there
  pub rest : List Expected
  pub next : after places passed ≡ Some (e ∷ rest)

-- a brace may and does stand here, and would open a block too many
pub record IsDeep (e : Expected) (here : CursorView) : Type 0 where
  pub rest : List ℕ
  pub brace : Stands here.here token.OpenBrace rest
  pub may : takes e token.OpenBrace ≡ true
  pub most : most_depth ≤ here.braces

-- no brace stands here, or one that would open a block too many
abbrev pub StopsAtBrace : Stop → Expected → CursorView → CursorView → Type 0
StopsAtBrace stop.Memory e here there = ⊥
StopsAtBrace (stop.At d) e here there = (d ≡ e) × (there ≡ here) × IsAbsent token.OpenBrace here
StopsAtBrace stop.TooDeep e here there =
    (there ≡ here) × (rest : List ℕ) × Stands here.here token.OpenBrace rest × (most_depth ≤ here.braces)

-- where and why what these places stand for is not read to its end
abbrev pub StopsIn : Stop → List Expected → CursorView → CursorView → Type 0
StopsIn stop.Memory places here there = ⊤
StopsIn (stop.At e) places here there = IsReached places e here there × IsRefused e there
StopsIn stop.TooDeep places here there = (e : Expected) × IsReached places e here there × IsDeep e there

-- the place behind a statement
abbrev pub place_behind : StatementView → Expected
place_behind (If t a) = expected.StartOrElse
place_behind _ = expected.Start

-- the tokens of a statement begin with these, the others are passed, it is added, and this is the place behind it
pub record HasAdded (e : Expected) (front : List Token) (here there : CursorView) (old new : BlockView) : Type 0 where
  pub statement : StatementView
  pub tokens : List Token
  pub are : ArePassed here tokens there
  pub spelled : statement_tokens statement [] ≡ front ++ tokens
  pub added : new ≡ append old statement
  pub behind : place_behind statement ≡ e

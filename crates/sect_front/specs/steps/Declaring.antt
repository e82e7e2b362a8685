-- What a rule of declarations reads.
use Rattle.std.specs.Prelude.{◌≡◌, ◌≢◌, ℕ, List, [], ◌∷◌, ◌++◌, Some, ⊤}
use Rattle.sect_front.specs.{Syntax.{BlockView, End}, Tokens.{block_tokens, declarations_tokens, source_tokens}}
use Rattle.sect_front.specs.{TreeView.{TreeView}, declared.token.Token.{Token}, declared.tree.Kind.{Kind}}
use Rattle.sect_front.specs.{declared.tree.Record.{Record}, declared.tree.GlobalObject.{GlobalObject}}
use Rattle.sect_front.specs.{declared.tree.Procedure.{Procedure}, declared.tree.Thread.{Thread}}
use Rattle.sect_front.specs.{declared.tree.Declaration.{Declaration}, declared.expected.Expected.{Expected}}
use Rattle.sect_front.specs.steps.Places.{follows, after}
use Rattle.sect_front.specs.steps.Passing.{CursorView, Passes, ArePassed, IsRefused, StopsIn}
use Rattle.sect_front.specs.declared.token.Token.TheVariants as token
use Rattle.sect_front.specs.declared.cursor.Stop.{Stop}
use Rattle.sect_front.specs.declared.expected.Expected.TheVariants as expected
use Rattle.sect_front.specs.declared.cursor.Stop.TheVariants as stop

-- a name and `;` are passed, and a declaration of this type and that name is added
pub record HasDeclared (k : Kind) (here there : CursorView) (old new : List Declaration) : Type 0 where
  pub name : List ℕ
  pub are : ArePassed here (token.Name name ∷ token.Semicolon ∷ []) there
  pub added : new ≡ old ++ record { kind = k; name = name } ∷ []

-- these tokens and then those that are passed are a local or a statement, which is added; the first place is before it,
-- and the second behind it
pub record HasBegun (d e : Expected) (front : List Token) (here there : CursorView) (old new : List Declaration)
    (before block : BlockView) : Type 0 where
  pub tokens : List Token
  pub are : ArePassed here tokens there
  pub some : front ++ tokens ≢ []
  pub next : after (d ∷ []) (front ++ tokens) ≡ Some (e ∷ [])
  pub spelled : declarations_tokens new (block_tokens block [])
      ≡ declarations_tokens old (block_tokens before (front ++ tokens))
  pub none : e ≡ expected.StartOrLocal → block ≡ End

-- one more declaration
abbrev pub with_record : TreeView → Record → TreeView
with_record s r =
    record { records = s.records ++ r ∷ []; globals = s.globals; procedures = s.procedures; threads = s.threads }

abbrev pub with_global : TreeView → GlobalObject → TreeView
with_global s g =
    record { records = s.records; globals = s.globals ++ g ∷ []; procedures = s.procedures; threads = s.threads }

abbrev pub with_procedure : TreeView → Procedure → TreeView
with_procedure s p =
    record { records = s.records; globals = s.globals; procedures = s.procedures ++ p ∷ []; threads = s.threads }

abbrev pub with_thread : TreeView → Thread → TreeView
with_thread s t =
    record { records = s.records; globals = s.globals; procedures = s.procedures; threads = s.threads ++ t ∷ [] }

-- of the declarations that come behind those of this part there are none
abbrev pub FitsPart : Expected → TreeView → Type 0
FitsPart expected.Records s = (s.globals ≡ []) × (s.procedures ≡ []) × (s.threads ≡ [])
FitsPart expected.Globals s = (s.procedures ≡ []) × (s.threads ≡ [])
FitsPart expected.Procedures s = s.threads ≡ []
FitsPart expected.Threads s = ⊤
FitsPart _ s = ⊥

-- the tokens of one more declaration are passed, and this is the place behind it
pub record HasPart (part e : Expected) (here there : CursorView) (old new : TreeView) : Type 0 where
  pub first : Token
  pub tokens : List Token
  pub are : ArePassed here (first ∷ tokens) there
  pub next : after (part ∷ []) (first ∷ tokens) ≡ Some (e ∷ [])
  pub spelled : source_tokens new [] ≡ source_tokens old (first ∷ tokens)
  pub fits : FitsPart e new

-- where and why a declaration is not read: there is no memory, no token stands here that one of this part or of a later
-- one begins with, or it is begun and not read to its end
pub data Halts (s : Stop) (part : Expected) (here there : CursorView) : Type 0 where
  Starved : s ≡ stop.Memory → Halts s part here there
  Before : s ≡ stop.At part → there ≡ here → IsRefused part here → Halts s part here there
  Within : (t : Token) (next : CursorView) (places : List Expected) (e : Expected) → Passes here t next
      → follows part t ≡ Some (places ++ e ∷ []) → StopsIn s places next there → Halts s part here there

-- whole declarations are passed, more follows, and the next one is not read
pub record StopsText (s : Stop) (here there : CursorView) : Type 0 where
  pub tokens : List Token
  pub mid : CursorView
  pub are : ArePassed here tokens mid
  pub part : Expected
  pub next : after (expected.Records ∷ []) tokens ≡ Some (part ∷ [])
  pub more : mid.here ≢ []
  pub halts : Halts s part mid there

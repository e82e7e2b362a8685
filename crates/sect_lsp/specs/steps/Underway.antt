-- A session that goes on.
use Rattle.std.specs.{Prelude.{◌≡◌, ℕ, List, ◌++◌, Option, Some}, Io.KnownBytes.{Appends}}
use Rattle.serde_json.specs.Data.{Data}
use Rattle.sect_lsp.specs.{Framing.{Spells}, Server.{ServerView, Step, start}, Sessions.{Runs, AreSent}}

-- these bytes have come or will come: messages were taken, what is in the inbox isn't taken yet, and what is left
-- hasn't come. The writer has been given what was sent
pub record IsUnderway (bytes : List ℕ) (old new : Option (List ℕ)) (inbox : List ℕ) (left : Option (List ℕ))
    (s : ServerView) : Type 0 where
  pub messages : List (List ℕ)
  pub out : List Data
  pub sent : List ℕ
  pub more : List ℕ
  pub left_is : left ≡ Some more
  pub spelled : Spells bytes messages (inbox ++ more)
  pub runs : Runs start messages out s
  pub sent_is : AreSent out sent
  pub appended : Appends old new sent

-- a message was taken, and what goes out for it was written
abbrev pub IsAnswered : ServerView → List ℕ → ServerView → Option (List ℕ) → Option (List ℕ) → Type 0
IsAnswered s message t old new =
    (out : List Data) × (sent : List ℕ) × Step s message out t × AreSent out sent × Appends old new sent

-- A session: the bytes that come, the messages that they spell, and what is written for them.
use Rattle.std.specs.Prelude.{◌≡◌, ℕ, Bool, true, false, List, [], ◌∷◌, ◌++◌}
use Rattle.serde_json.specs.{Data.{Data}, Written.{IsInOrder, has_float, compact_text}}
use Rattle.sect_lsp.specs.{declared.framing.Front.{Front}, declared.server.Phase.{Phase}}
use Rattle.sect_lsp.specs.{Framing.{Spells, IsRest, front_of, frame}, Server.{ServerView, Step, start}}
use Rattle.sect_lsp.specs.declared.framing.Front.TheVariants as front
use Rattle.sect_lsp.specs.declared.server.Phase.TheVariants as phase

-- nothing more is taken
abbrev pub is_ended : Phase → Bool
is_ended phase.Done = true
is_ended phase.Abandoned = true
is_ended _ = false

-- messages come, one after another, and these go out; none is taken once the server has ended
abbrev pub Runs : ServerView → List (List ℕ) → List Data → ServerView → Type 0
Runs s [] out t = (out ≡ []) × (t ≡ s)
Runs s (message ∷ messages) out t =
    (is_ended s.phase ≡ false) × (first : List Data) × (mid : ServerView) × (others : List Data)
    × Step s message first mid × (out ≡ first ++ others) × Runs mid messages others t

-- the text of a message, without blanks: each member once and in order
abbrev pub IsTextOf : Data → List ℕ → Type 0
IsTextOf d text = IsInOrder text d × (has_float d ≡ false → text ≡ compact_text d)

-- what is written is these messages, one behind the other
abbrev pub AreSent : List Data → List ℕ → Type 0
AreSent [] bytes = bytes ≡ []
AreSent (d ∷ ds) bytes =
    (text : List ℕ) × (others : List ℕ) × IsTextOf d text × (bytes ≡ frame text ++ others) × AreSent ds others

-- the status of the program: 0 if the server was shut down before it ended or before the bytes did
abbrev pub status_by : Phase → Front → ℕ
status_by phase.Done f = 0
status_by phase.ShutDown front.Part = 0
status_by _ _ = 1

-- the bytes are those of a session that writes these bytes and ends so
pub record IsSession (bytes sent : List ℕ) (status : ℕ) : Type 0 where
  pub messages : List (List ℕ)
  pub rest : List ℕ
  pub out : List Data
  pub end : ServerView
  pub spelled : Spells bytes messages rest
  pub runs : Runs start messages out end
  pub sent_is : AreSent out sent
  -- all messages are taken, unless the server ends before
  pub all : is_ended end.phase ≡ false → IsRest rest
  pub status_is : status ≡ status_by end.phase (front_of rest)

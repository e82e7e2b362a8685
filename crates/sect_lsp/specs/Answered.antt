-- Which answers go out for which messages.
use Rattle.std.specs.{Prelude.{ℕ, List, [], ◌∷◌, Option, Some, None, codes, ⊤}, List.{flat_map}}
use Rattle.serde_json.specs.{Data.{Data, null}, Find.{get}}
use Rattle.sect_lsp.specs.Protocol.{Kind, Request, Notification, Response, Invalid, kind_of, IsRead}

-- under which numbers or names a message wants an answer: a request under its own, what is no message under `null`, and
-- all others none
abbrev pub ids_by : Kind → List Data
ids_by (Request id method) = id ∷ []
ids_by (Notification method) = []
ids_by Response = []
ids_by Invalid = null ∷ []

abbrev pub ids_asked : Option Data → List Data
ids_asked None = null ∷ []
ids_asked (Some d) = ids_by (kind_of d)

abbrev pub listed : Option Data → List Data
listed None = []
listed (Some id) = id ∷ []

-- under which numbers or names messages that go out are answers
abbrev pub ids_answered : List Data → List Data
ids_answered ds = flat_map (λ d. listed (get (codes "id") d)) ds

-- the bytes of each message are this value, or no JSON
abbrev pub AreRead : List (List ℕ) → List (Option Data) → Type 0
AreRead [] [] = ⊤
AreRead (m ∷ ms) (d ∷ ds) = IsRead m d × AreRead ms ds
AreRead _ _ = ⊥

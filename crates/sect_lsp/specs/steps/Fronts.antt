-- What stands at the front of bytes lies in them.
use Rattle.std.specs.Prelude.{ℕ, ◌+◌, ◌≤◌, ⊤}
use Rattle.sect_lsp.specs.declared.framing.Front.{Front}
use Rattle.sect_lsp.specs.declared.framing.Front.TheVariants.{Message, Part, Malformed}

-- a whole message ends within so many bytes
abbrev pub IsFrontWithin : ℕ → Front → Type 0
IsFrontWithin total (Message header body) = header + body ≤ total
IsFrontWithin total Part = ⊤
IsFrontWithin total Malformed = ⊤

-- Messages on a stream: header lines, an empty line, and as many bytes as the header says.
use Rattle.std.specs.Prelude.{◌≡◌, ℕ, ◌+◌, ◌-◌, ◌*◌, ◌==◌, ◌||◌, ◌&&◌, ◌⊎◌, Bool, if◌then◌else◌, nat_lt, nat_le, nat_eq}
use Rattle.std.specs.Prelude.{List, [], ◌∷◌, ◌++◌, length, take, drop, slice_index, Option, Some, None, option_map}
use Rattle.std.specs.{Prelude.{codes, decimal}, List.{starts_with}}
use Rattle.sect_lsp.specs.declared.framing.Front.{Front}
use Rattle.sect_lsp.specs.declared.framing.Front.TheVariants.{Message, Part, Malformed}
use Rattle.sect_lsp.specs.{declared.framing.Taken.{Taken}, Limits.{most_header, most_message}}
use Rattle.sect_lsp.specs.declared.framing.Taken.TheVariants as taken

-- the first place at which the word stands in the bytes
abbrev pub place_of : List ℕ → List ℕ → Option ℕ
place_of word [] = None
place_of word (b ∷ bs) =
    if starts_with nat_eq (b ∷ bs) word then Some 0 else option_map (λ n. n + 1) (place_of word bs)

-- how many bytes the header lines take, with the empty line behind them
abbrev pub header_length : List ℕ → Option ℕ
header_length bytes = option_map (λ n. n + 4) (place_of (codes "\r\n\r\n") bytes)

-- the number that the digits go on to, of which `value` stands before; they end with the line. There is none above
-- the most bytes of a message
abbrev pub number_from : ℕ → List ℕ → Option ℕ
number_from value [] = None
number_from value (b ∷ bs) =
    if b == 13 then Some value
    else if nat_le 48 b && nat_le b 57 && nat_le (10 * value + (b - 48)) most_message
    then number_from (10 * value + (b - 48)) bs else None

-- whether a line begins at this place
abbrev pub begins_line : List ℕ → ℕ → Bool
begins_line header at = at == 0 || slice_index header (at - 1) == 10

abbrev pub length_at : List ℕ → Option ℕ → Option ℕ
length_at header None = None
length_at header (Some at) = if begins_line header at then number_from 0 (drop (at + 16) header) else None

-- how many bytes a message has, by its header
abbrev pub content_length : List ℕ → Option ℕ
content_length header = length_at header (place_of (codes "Content-Length: ") header)

-- a message stands at the front if all of its bytes have come, behind a header of so many bytes
abbrev pub front_behind : List ℕ → ℕ → Option ℕ → Front
front_behind bytes header None = Malformed
front_behind bytes header (Some body) =
    if nat_lt (length bytes) (header + body) then Part else Message header body

abbrev pub front_by : List ℕ → Option ℕ → Front
front_by bytes None = if nat_lt (length bytes) most_header then Part else Malformed
front_by bytes (Some header) = front_behind bytes header (content_length (take header bytes))

-- what stands at the front of the bytes. A header ends among the first bytes, as many as one may have
abbrev pub front_of : List ℕ → Front
front_of bytes = front_by bytes (header_length (take most_header bytes))

-- the bytes are these messages, each behind its header, and then the rest
abbrev pub Spells : List ℕ → List (List ℕ) → List ℕ → Type 0
Spells bytes [] rest = rest ≡ bytes
Spells bytes (message ∷ messages) rest =
    (header : ℕ) × (body : ℕ) × (front_of bytes ≡ Message header body)
    × (message ≡ take body (drop header bytes)) × Spells (drop (header + body) bytes) messages rest

-- no whole message stands at the front
abbrev pub IsRest : List ℕ → Type 0
IsRest bytes = (front_of bytes ≡ Part) ⊎ (front_of bytes ≡ Malformed)

-- what is taken of the bytes, and what is left of them
abbrev pub IsTaken : List ℕ → List ℕ → Taken → Type 0
IsTaken old new (taken.Message message) =
    (header : ℕ) × (body : ℕ) × (front_of old ≡ Message header body) × (message.items ≡ take body (drop header old))
    × (new ≡ drop (header + body) old)
IsTaken old new taken.Part = (front_of old ≡ Part) × (new ≡ old)
IsTaken old new taken.Malformed = (front_of old ≡ Malformed) × (new ≡ old)

-- a message as it is written
abbrev pub frame : List ℕ → List ℕ
frame message = codes "Content-Length: " ++ decimal (length message) ++ codes "\r\n\r\n" ++ message

-- What the words of a command line say. The functions that read them cite it.
use Rattle.std.specs.Prelude.{◌≡◌, ◌≤◌, ◌⊎◌, ⊤, ℕ, Bool, true, false, List, [], ◌∷◌, ◌++◌, Option, Some, None, codes}
use Rattle.std.specs.{Prelude.{option_map, unwrap_or}, List.{AllZip}, String.{string_bytes}}
use Rattle.std.specs.Str.Parse.{IsNumeral, digits_value}
use Rattle.clap.specs.{Matches.{first_value, one_text, raw_values, matched_of}}
use Rattle.clap.specs.declared.parser.matches.Found.{Found}
use Rattle.sect_answers.specs.declared.format.Format.{Format}
use Rattle.sect_answers.specs.declared.format.Format.TheVariants as format
use Rattle.sect_answers.specs.declared.naming.ThreadWord.{ThreadWord}
use Rattle.sect_answers.specs.declared.naming.ThreadWord.TheVariants as thread
use Rattle.sect_front.specs.Words.{is_name}
use Rattle.sect_lint.specs.declared.format.LintFormat.{LintFormat}
use Rattle.sect_lint.specs.declared.format.LintFormat.TheVariants as lint_format
use Rattle.sect_command.specs.declared.{colours.Colour.{Colour}, request.Form.{Form}}
use Rattle.sect_command.specs.declared.colours.Colour.TheVariants as colour
use Rattle.sect_command.specs.declared.request.Form.TheVariants as form

-- the text is decimal digits alone, and spells this number, which lies between these two
abbrev pub Spells : ℕ → ℕ → List ℕ → ℕ → Type 0
Spells least most text n = IsNumeral 10 text × (digits_value 10 text ≡ n) × (least ≤ n) × (n ≤ most)

-- the option's value spells this number, between these two; or it has none, and this is the default
abbrev pub SaysNumber : ℕ → ℕ → ℕ → Option (List ℕ) → ℕ → Type 0
SaysNumber least most default None n = n ≡ default
SaysNumber least most default (Some text) n = Spells least most text n

-- the option's value spells this number, between these two; or it has none, and there is no number
abbrev pub MaySayNumber : ℕ → ℕ → Option (List ℕ) → Option ℕ → Type 0
MaySayNumber least most None n = n ≡ None
MaySayNumber least most (Some text) None = ⊥
MaySayNumber least most (Some text) (Some n) = Spells least most text n

-- the option names this format; where it has no value, it is text
abbrev pub SaysFormat : Option (List ℕ) → Format → Type 0
SaysFormat None f = f ≡ format.Text
SaysFormat (Some word) format.Text = word ≡ codes "text"
SaysFormat (Some word) format.Json = word ≡ codes "json"

-- the option of `lint` names this form; where it has no value, it is text
abbrev pub SaysLintFormat : Option (List ℕ) → LintFormat → Type 0
SaysLintFormat None f = f ≡ lint_format.Text
SaysLintFormat (Some word) lint_format.Text = word ≡ codes "text"
SaysLintFormat (Some word) lint_format.Json = word ≡ codes "json"
SaysLintFormat (Some word) lint_format.Sarif = word ≡ codes "sarif"

-- the option says when an answer is painted; where it has no value, it is where standard output shows colours
abbrev pub SaysColour : Option (List ℕ) → Colour → Type 0
SaysColour None c = c ≡ colour.Auto
SaysColour (Some word) colour.Auto = word ≡ codes "auto"
SaysColour (Some word) colour.Always = word ≡ codes "always"
SaysColour (Some word) colour.Never = word ≡ codes "never"

-- the word spells the number of a thread, or it is its name; no name is a number
abbrev pub SaysThread : List ℕ → ThreadWord → Type 0
SaysThread text (thread.Number n) = Spells 0 65535 text n
SaysThread text (thread.Name name) = (is_name text ≡ true) × (string_bytes name ≡ text)

-- the most turns that a word gives a thread
abbrev pub most_turns : ℕ
most_turns = 1000000

-- the word names a thread that has one turn; or a thread, and behind `:` how many turns it has
abbrev pub SaysTurns : List ℕ → ThreadWord → ℕ → Type 0
SaysTurns text t n =
    (SaysThread text t × (n ≡ 1))
    ⊎ ((name : List ℕ) × (count : List ℕ) × (text ≡ name ++ codes ":" ++ count) × SaysThread name t
    × Spells 1 most_turns count n)

-- the words give turns so, one after another
abbrev pub AreTurns : List (List ℕ) → List ThreadWord → List ℕ → Type 0
AreTurns [] [] [] = ⊤
AreTurns [] [] (n ∷ ns) = ⊥
AreTurns [] (t ∷ ts) ns = ⊥
AreTurns (w ∷ ws) [] ns = ⊥
AreTurns (w ∷ ws) (t ∷ ts) [] = ⊥
AreTurns (w ∷ ws) (t ∷ ts) (n ∷ ns) = SaysTurns w t n × AreTurns ws ts ns

-- the words name threads so, one after another
abbrev pub AreThreads : List (List ℕ) → List ThreadWord → Type 0
AreThreads words threads = AllZip SaysThread words threads

-- the values that were found for an option or an operand, in order
abbrev pub values_in : Found → List ℕ → List (List ℕ)
values_in found name = unwrap_or (option_map raw_values (matched_of found name)) []

-- the flag was given, or it wasn't
abbrev pub SaysFlag : Option (List ℕ) → Bool → Type 0
SaysFlag word given = (word ≡ Some (codes "true") → given ≡ true) × (word ≡ Some (codes "false") → given ≡ false)
    × (word ≡ None → given ≡ false)

-- the value of a flag, as `clap` keeps it
abbrev pub flag_in : Found → List ℕ → Option (List ℕ)
flag_in found name = one_text found name

-- the most fields of a path that the options say
abbrev pub SaysK : Found → ℕ → Type 0
SaysK found k = SaysNumber 0 65535 2 (first_value found (codes "k")) k

-- the form of a compiled program that the options say: the certificate is no document
abbrev pub SaysForm : Found → Form → Type 0
SaysForm found form.Listing =
    SaysFlag (flag_in found (codes "cert")) false × SaysFormat (first_value found (codes "format")) format.Text
SaysForm found form.Document =
    SaysFlag (flag_in found (codes "cert")) false × SaysFormat (first_value found (codes "format")) format.Json
SaysForm found form.Certificate =
    SaysFlag (flag_in found (codes "cert")) true × SaysFormat (first_value found (codes "format")) format.Text

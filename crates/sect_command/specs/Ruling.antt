-- What the words of `lint` say of warnings.
use Rattle.std.specs.Prelude.{◌≡◌, ◌++◌, ℕ, zero, suc, List, [], ◌∷◌, codes, length, option_map, unwrap_or}
use Rattle.std.specs.{Prelude.{slice_index_or}, List.{AllZip}}
use Rattle.clap.specs.{Matches.{matched_of}, declared.parser.matches.Found.{Found}}
use Rattle.sect_warnings.specs.{Rulings.{code_name}, declared.ruling.Level.{Level}, declared.ruling.Ruling.{Ruling}}
use Rattle.sect_warnings.specs.declared.ruling.Which.{Which}
use Rattle.sect_warnings.specs.declared.ruling.Level.TheVariants as level
use Rattle.sect_warnings.specs.declared.ruling.Which.TheVariants as which
use Rattle.sect_command.specs.Saying.{values_in}

-- the word that stands for all warnings
abbrev pub all_word : Level → List ℕ
all_word level.Allow = codes "all"
all_word level.Deny = codes "warnings"

-- the word is the name of a warning, or stands for all
abbrev pub SaysWhich : Level → List ℕ → Which → Type 0
SaysWhich l word which.All = word ≡ all_word l
SaysWhich l word (which.One c) = word ≡ code_name c

-- at which words the values of an option stand, in order
abbrev pub places_in : Found → List ℕ → List ℕ
places_in found name = unwrap_or (option_map (λ a. a.indices.items) (matched_of found name)) []

-- the first rulings, so many, of these warnings, at these words
abbrev pub rulings_to : Level → List ℕ → List Which → ℕ → List Ruling
rulings_to l places warnings zero = []
rulings_to l places warnings (suc i) = rulings_to l places warnings i ++ record {
  at = slice_index_or places i 0;
  which = slice_index_or warnings i which.All;
  level = l;
} ∷ []

-- the option that says so
abbrev pub option_of : Level → List ℕ
option_of level.Allow = codes "allow"
option_of level.Deny = codes "deny"

-- what the words of an option say of warnings is added
abbrev pub AddsRulings : Found → Level → List Ruling → List Ruling → Type 0
AddsRulings found l old new =
    (warnings : List Which) × AllZip (SaysWhich l) (values_in found (option_of l)) warnings
    × (new ≡ old ++ rulings_to l (places_in found (option_of l)) warnings (length warnings))

-- and of both
abbrev pub SaysRulings : Found → List Ruling → Type 0
SaysRulings found rulings =
    (denied : List Ruling) × AddsRulings found level.Deny [] denied × AddsRulings found level.Allow denied rulings

-- Which warnings are told, and for which a text is refused.
use Rattle.std.specs.Prelude.{ℕ, Bool, true, false, not, nat_lt, if◌then◌else◌, List, Option, Some, None, codes}
use Rattle.std.specs.{Prelude.{filter, fold}, List.{list_any}, Option.{option_map_or}, Str.{bytes_eq}}
use Rattle.sect_warnings.specs.{Placed.{PlacedView}, Titles.{told_name}, declared.ruling.Code.{Code}}
use Rattle.sect_warnings.specs.declared.ruling.{Level.{Level}, Ruling.{Ruling}, Which.{Which}}
use Rattle.sect_warnings.specs.declared.ruling.Code.TheVariants as code
use Rattle.sect_warnings.specs.declared.ruling.Level.TheVariants as level
use Rattle.sect_warnings.specs.declared.ruling.Which.TheVariants as which

-- the name of a warning
abbrev pub code_name : Code → List ℕ
code_name code.NoLock = codes "no-lock"
code_name code.AllForOne = codes "all-for-one"
code_name code.ClassLock = codes "class-lock"
code_name code.NeverFilled = codes "never-filled"
code_name code.NoCommonField = codes "no-common-field"
code_name code.LostUpdate = codes "lost-update"
code_name code.Unused = codes "unused"
code_name code.HintWithoutUse = codes "hint-without-use"

-- a warning of this name is one of these
abbrev pub names : Which → List ℕ → Bool
names which.All name = true
names (which.One c) name = bytes_eq (code_name c) name

-- the one of two rulings that stands later
abbrev pub later_of : Option Ruling → Ruling → Option Ruling
later_of None r = Some r
later_of (Some last) r = if nat_lt r.at last.at then Some last else Some r

-- the last of the rulings so far that is of warnings of this name, and with one more
abbrev pub with_ruling : List ℕ → Option Ruling → Ruling → Option Ruling
with_ruling name last r = if names r.which name then later_of last r else last

-- the last ruling that is of warnings of this name; of each it is told at which word it stands
abbrev pub ruling_of : List Ruling → List ℕ → Option Ruling
ruling_of rulings name = fold (with_ruling name) None rulings

abbrev pub is_allow : Level → Bool
is_allow level.Allow = true
is_allow level.Deny = false

abbrev pub is_deny : Level → Bool
is_deny level.Allow = false
is_deny level.Deny = true

-- a warning of this name isn't told
abbrev pub is_allowed : List Ruling → List ℕ → Bool
is_allowed rulings name = option_map_or (λ (r : Ruling). is_allow r.level) (ruling_of rulings name) false

-- for a warning of this name the text is refused
abbrev pub is_denied : List Ruling → List ℕ → Bool
is_denied rulings name = option_map_or (λ (r : Ruling). is_deny r.level) (ruling_of rulings name) false

-- of these warnings those that are told
abbrev pub told_by : List Ruling → List PlacedView → List PlacedView
told_by rulings ps = filter (λ (p : PlacedView). not (is_allowed rulings (told_name p.told))) ps

-- for one of them at least the text is refused
abbrev pub is_refused : List Ruling → List PlacedView → Bool
is_refused rulings ps = list_any (λ (p : PlacedView). is_denied rulings (told_name p.told)) ps

-- What the command `conflicts` answers to a source text. `program_conflicts` cites it.
use Rattle.std.specs.Prelude.{◌≡◌, ◌==◌, ℕ, Bool, true, false, List, [], ◌∷◌, ◌++◌, length, codes, count_by}
use Rattle.std.specs.{Prelude.{if◌then◌else◌}, List.{flat_map}, Fmt.{decimal}}
use Rattle.sect_front.specs.TreeView.{TreeView}
use Rattle.sect_types.specs.Programs.{ProgramView}
use Rattle.sect_modes.specs.Mode.{mode_text}
use Rattle.sect_names.specs.Printing.{path_text}
use Rattle.sect_emit.specs.Compiled.{CompiledView, IsCompiledFrom, program_of}
use Rattle.sect_conflicts.specs.{declared.conflict.KeyClash.{KeyClash}, declared.conflict.PathPair.{PathPair}}
use Rattle.sect_conflicts.specs.{declared.conflict.SectionPair.{SectionPair}, declared.conflict.Conflict.{Conflict}}
use Rattle.sect_conflicts.specs.declared.conflict.Conflict.TheVariants.{Always, Sometimes, Never}
use Rattle.sect_conflicts.specs.Comparing.{AreConflicts}
use Rattle.sect_json.specs.Conflicts.{IsConflictsDocument}
use Rattle.sect_draw.specs.Words.{key_text}
use Rattle.sect_answers.specs.{declared.format.Format.{Format}, declared.format.Format.TheVariants.{Text, Json}}

-- a key and both modes, as `class 1 S, IX`
abbrev pub clash_text : ProgramView → KeyClash → List ℕ
clash_text p clash =
    key_text p clash.key ++ codes " " ++ mode_text clash.first ++ codes ", " ++ mode_text clash.second

-- two paths, as `head.next is x`
abbrev pub path_pair_text : TreeView → PathPair → List ℕ
path_pair_text t pair = path_text t pair.first ++ codes " is " ++ path_text t pair.second

-- the pairs, with `, or ` between them
abbrev pub path_pairs_text : TreeView → List PathPair → List ℕ
path_pairs_text t [] = []
path_pairs_text t (pair ∷ pairs) = path_pair_text t pair ++ flat_map (λ q. codes ", or " ++ path_pair_text t q) pairs

abbrev pub conflict_text : ProgramView → Conflict → List ℕ
conflict_text p (Always clash) = codes "exclude each other: " ++ clash_text p clash
conflict_text p (Sometimes pairs) = codes "exclude each other where " ++ path_pairs_text p.source pairs.items
conflict_text p Never = codes "go together"

-- the line of two sections: their numbers, and whether they exclude each other
abbrev pub pair_line : ProgramView → SectionPair → List ℕ
pair_line p pair =
    codes "sections " ++ decimal pair.first ++ codes " and " ++ decimal pair.second ++ codes " "
    ++ conflict_text p pair.conflict ++ codes "\n"

abbrev pub is_always : Conflict → Bool
is_always (Always clash) = true
is_always (Sometimes pairs) = false
is_always Never = false

abbrev pub is_sometimes : Conflict → Bool
is_sometimes (Always clash) = false
is_sometimes (Sometimes pairs) = true
is_sometimes Never = false

abbrev pub is_never : Conflict → Bool
is_never (Always clash) = false
is_never (Sometimes pairs) = false
is_never Never = true

-- how many of the pairs have such a conflict
abbrev pub count_of : (Conflict → Bool) → List SectionPair → ℕ
count_of test pairs = count_by (λ (pair : SectionPair). test pair.conflict) pairs

-- one is a pair, and any other number are pairs
abbrev pub pairs_word : ℕ → List ℕ
pairs_word n = if n == 1 then codes "pair" else codes "pairs"

-- how many pairs there are, and how many of each kind
abbrev pub heading : List SectionPair → List ℕ
heading pairs =
    decimal (length pairs) ++ codes " " ++ pairs_word (length pairs) ++ codes ": "
    ++ decimal (count_of is_always pairs) ++ codes " exclude each other, "
    ++ decimal (count_of is_sometimes pairs) ++ codes " sometimes, "
    ++ decimal (count_of is_never pairs) ++ codes " go together\n"

-- the bytes are the heading, and then a line for each pair of sections of different threads
pub record AreConflictLines (c : CompiledView) (bytes : List ℕ) : Type 0 where
  pub pairs : List SectionPair
  pub told : AreConflicts c pairs
  pub printed : bytes ≡ heading pairs ++ flat_map (pair_line (program_of c)) pairs

-- the bytes are those lines, or the document
abbrev pub AreConflictsPrinted : CompiledView → Format → List ℕ → Type 0
AreConflictsPrinted c Text bytes = AreConflictLines c bytes
AreConflictsPrinted c Json bytes = IsConflictsDocument c bytes

-- the source is accepted, and the bytes say of its compiled program which sections exclude each other
pub record AreProgramConflicts (source : List ℕ) (k : ℕ) (format : Format) (bytes : List ℕ) : Type 0 where
  pub compiled : CompiledView
  pub from : IsCompiledFrom source k compiled
  pub printed : AreConflictsPrinted compiled format bytes

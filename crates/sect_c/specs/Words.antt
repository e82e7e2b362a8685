-- The constants of the modes in C.
use Rattle.std.specs.{Prelude.{ℕ, List, [], ◌∷◌, ◌++◌, codes}, List.{flat_map}, Fmt.{decimal}}
use Rattle.sect_modes.specs.{declared.mode.Mode.{Mode}, Word.{unit_of, against}}
use Rattle.sect_modes.specs.declared.mode.Mode.TheVariants.{IntentionShared, IntentionExclusive, Shared}
use Rattle.sect_modes.specs.declared.mode.Mode.TheVariants.{SharedIntentionExclusive, Exclusive}

-- in the order of their constants in C
abbrev pub modes : List Mode
modes = IntentionShared ∷ IntentionExclusive ∷ Shared ∷ SharedIntentionExclusive ∷ Exclusive ∷ []

abbrev pub entry_c : ℕ → List ℕ
entry_c n = codes "  UINT64_C(" ++ decimal n ++ codes "),\n"

-- for each mode what a holder adds to the word of a key, and which bits of the word keep it out
abbrev pub words_c : List ℕ
words_c =
    codes "static const uint64_t sect_unit[] = {\n" ++ flat_map (λ m. entry_c (unit_of m)) modes
    ++ codes "};\nstatic const uint64_t sect_against[] = {\n" ++ flat_map (λ m. entry_c (against m)) modes
    ++ codes "};\n"

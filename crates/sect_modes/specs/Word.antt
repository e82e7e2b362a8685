-- A key as one word: how many hold it in each mode, and whether somebody waits. The functions on words cite it.
use Rattle.std.specs.Prelude.{◌≡◌, ◌+◌, ◌*◌, ◌^◌, ◌<◌, ◌≤◌, ◌++◌, ℕ, Bool, List, [], ◌∷◌, length, if◌then◌else◌}
use Rattle.std.specs.List.{list_all}
use Rattle.sect_modes.specs.{declared.mode.Mode.{Mode}, Mode.{are_compatible}}
use Rattle.sect_modes.specs.declared.mode.Mode.TheVariants.{IntentionShared, IntentionExclusive, Shared}
use Rattle.sect_modes.specs.declared.mode.Mode.TheVariants.{SharedIntentionExclusive, Exclusive}

-- the holders in a mode are counted in twelve bits, from this one on
abbrev pub first_bit : Mode → ℕ
first_bit IntentionShared = 0
first_bit IntentionExclusive = 12
first_bit Shared = 24
first_bit SharedIntentionExclusive = 36
first_bit Exclusive = 48

-- what a holder in this mode adds to the word
abbrev pub unit_of : Mode → ℕ
unit_of m = 2 ^ first_bit m

-- the word of a key that these hold
abbrev pub word_of : List Mode → ℕ
word_of [] = 0
word_of (m ∷ ms) = unit_of m + word_of ms

-- and for which so many wait: the bits above the counts are theirs
abbrev pub waited_word : ℕ → List Mode → ℕ
waited_word waiting holders = 2 ^ 60 * waiting + word_of holders

-- all bits of a mode's count, if that mode isn't compatible with m
abbrev pub count_against : Mode → Mode → ℕ
count_against m n = if are_compatible n m then 0 else 4095 * unit_of n

-- the counts of the modes that aren't compatible with this one
abbrev pub against : Mode → ℕ
against m = count_against m IntentionShared + count_against m IntentionExclusive + count_against m Shared
    + count_against m SharedIntentionExclusive + count_against m Exclusive

-- all holders' modes are compatible with this one
abbrev pub goes_with : Mode → List Mode → Bool
goes_with m holders = list_all (λ n. are_compatible n m) holders

-- giving back takes away what taking has added, whoever gives back
abbrev pub GivesBack : Mode → List Mode → List Mode → Type 0
GivesBack m before after = word_of (before ++ m ∷ after) ≡ unit_of m + word_of (before ++ after)

-- the words of up to sixty-four holders, with a sign that somebody waits, fit into sixty-four bits
abbrev pub Fits : List Mode → Type 0
Fits holders = length holders ≤ 64 → waited_word 1 holders < 2 ^ 64

-- The words of a text, whether or not it is one of the language.
use Rattle.std.specs.Prelude.{◌≡◌, ◌<◌, ℕ, if◌then◌else◌, max, List, [], ◌∷◌, length, take, drop, take_while, codes}
use Rattle.std.specs.Str.{bytes_eq}
use Rattle.sect_front.specs.{Gaps.{after_gap}, Words.{is_name_byte, is_name}}
use Rattle.sect_editor.specs.declared.words.Word.{Word}
use Rattle.sect_editor.specs.declared.words.Word.TheVariants as word

-- a name, a word that begins a declaration, `int`, a dot, or another word or sign
abbrev pub word_of : List ℕ → Word
word_of bytes =
    if is_name bytes then word.Name bytes
    else if bytes_eq bytes (codes "record") then word.Record
    else if bytes_eq bytes (codes "global") then word.Global
    else if bytes_eq bytes (codes "proc") then word.Procedure
    else if bytes_eq bytes (codes "thread") then word.Thread
    else if bytes_eq bytes (codes "int") then word.Int
    else if bytes_eq bytes (codes ".") then word.Dot
    else word.Other

-- how many bytes the first word has: as many bytes of names as stand at the front, or one other byte
abbrev pub word_length : List ℕ → ℕ
word_length bytes = max (length (take_while is_name_byte bytes)) 1

-- these words stand at the front, each behind a gap of blanks and comments, and what follows the last gap is the rest
abbrev pub Begins : List ℕ → List Word → List ℕ → Type 0
Begins bytes [] rest = rest ≡ after_gap bytes
Begins bytes (w ∷ ws) rest =
    (0 < length (after_gap bytes)) × (w ≡ word_of (take (word_length (after_gap bytes)) (after_gap bytes)))
    × Begins (drop (word_length (after_gap bytes)) (after_gap bytes)) ws rest

-- these are all words of a text
abbrev pub AreWords : List ℕ → List Word → Type 0
AreWords bytes ws = Begins bytes ws []

-- Names and keywords, byte by byte.
use Rattle.std.specs.Prelude.{ℕ, Bool, false, not, ◌||◌, ◌&&◌, ◌==◌, nat_le, List, [], ◌∷◌, length, codes}
use Rattle.std.specs.{List.{list_all, list_any}, Str.{bytes_eq}}
use Rattle.sect_front.specs.Limits.{most_name_bytes}

-- a to z, A to Z or `_`
abbrev pub is_letter : ℕ → Bool
is_letter b = (nat_le 97 b && nat_le b 122) || (nat_le 65 b && nat_le b 90) || b == 95

-- 0 to 9
abbrev pub is_digit : ℕ → Bool
is_digit b = nat_le 48 b && nat_le b 57

-- what stands in a name after its first byte
abbrev pub is_name_byte : ℕ → Bool
is_name_byte b = is_letter b || is_digit b

-- the first byte passes a test
abbrev pub begins : (ℕ → Bool) → List ℕ → Bool
begins test [] = false
begins test (b ∷ bs) = test b

abbrev pub keywords : List (List ℕ)
keywords =
    codes "record" ∷ codes "protected_by" ∷ codes "global" ∷ codes "proc" ∷ codes "thread" ∷ codes "int" ∷ codes "null"
    ∷ codes "new" ∷ codes "print" ∷
    codes "if" ∷ codes "else" ∷ codes "while" ∷ codes "atomic" ∷ codes "all" ∷ codes "call" ∷ codes "class" ∷ []

abbrev pub is_keyword : List ℕ → Bool
is_keyword bytes = list_any (bytes_eq bytes) keywords

-- one name: a letter or `_`, then letters, `_` and digits, at most 32 bytes, and no keyword
abbrev pub is_name : List ℕ → Bool
is_name bytes =
    begins is_letter bytes && list_all is_name_byte bytes && nat_le (length bytes) most_name_bytes
    && not (is_keyword bytes)

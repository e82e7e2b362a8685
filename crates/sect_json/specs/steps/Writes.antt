-- Documents as they are written, part by part.
use Rattle.std.specs.{Prelude.{◌≡◌, ℕ, ◌+◌, ◌==◌, if◌then◌else◌, List, [], ◌∷◌, ◌++◌, drop, map}, List.{flat_map}}
use Rattle.serde_json.specs.{Data.{Data, string}, Written.{compact_text}}
use Rattle.sect_front.specs.TreeView.{TreeView}
use Rattle.sect_names.specs.declared.lock.Lock.{Lock}
use Rattle.sect_json.specs.Locks.{lock_json}

-- a name with its colon, behind a mark
abbrev pub name_text : ℕ → List ℕ → List ℕ
name_text mark name = mark ∷ (compact_text (string name) ++ 58 ∷ [])

-- a member, behind a mark
abbrev pub member_text : ℕ → List ℕ → Data → List ℕ
member_text mark name d = name_text mark name ++ compact_text d

-- members, each behind a comma
abbrev pub members_behind : List (List ℕ × Data) → List ℕ
members_behind ms = flat_map (λ m. member_text 44 m.0 m.1) ms

-- the members of an object behind others, and the brace that closes it
abbrev pub tail_text : Data → List ℕ
tail_text d = 44 ∷ drop 1 (compact_text d)

-- what stands before the element of this place
abbrev pub comma_before : ℕ → List ℕ
comma_before n = if n == 0 then [] else 44 ∷ []

-- elements, each behind a comma, but not the one of place 0; the first has place n
abbrev pub elements_from : ℕ → List Data → List ℕ
elements_from n [] = []
elements_from n (d ∷ ds) = comma_before n ++ (compact_text d ++ elements_from (n + 1) ds)

-- locks, and a text for each
pub record LockTextsView : Type 0 where
  pub keys : List Lock
  pub texts : List (List ℕ)

-- the text of each is that of its value
abbrev pub AreLockTexts : TreeView → LockTextsView → Type 0
AreLockTexts t v = v.texts ≡ map (λ l. compact_text (lock_json t l)) v.keys

-- Chains through an arena of links.
use Rattle.std.specs.Prelude.{◌≡◌, ◌≢◌, ◌⊎◌, ℕ, zero, suc, ◌+◌, ◌<◌, List, [], ◌∷◌, ◌++◌, length, map, Option, Some}
use Rattle.std.specs.Prelude.{None, ◌==◌, slice_index_or, slice_set, if◌then◌else◌}
use Rattle.sect_table.specs.{declared.links.Link.{Link}, declared.links.Ends.{Ends}}

abbrev pub no_link : Link
no_link = record { list = 0; previous = None; next = None }

abbrev pub no_ends : Ends
no_ends = record { first = None; last = None; len = 0 }

abbrev pub link_at : List Link → ℕ → Link
link_at links i = slice_index_or links i no_link

abbrev pub ends_at : List Ends → ℕ → Ends
ends_at ends i = slice_index_or ends i no_ends

abbrev pub head_or : List ℕ → Option ℕ → Option ℕ
head_or [] o = o
head_or (x ∷ xs) o = Some x

abbrev pub last_or : Option ℕ → List ℕ → Option ℕ
last_or o [] = o
last_or o (x ∷ xs) = last_or (Some x) xs

-- the numbers that lie on the way from here, by their next ones
abbrev pub walk : List Link → ℕ → Option ℕ → List ℕ
walk links zero at = []
walk links (suc n) None = []
walk links (suc n) (Some i) = i ∷ walk links n ((link_at links i).next)

-- these numbers stand one after another in a list, after `p` and before `n`
abbrev pub Run : List Link → ℕ → Option ℕ → List ℕ → Option ℕ → Type 0
Run links l p [] n = Unit {0}
Run links l p (x ∷ xs) n = (x < length links) ×
    (link_at links x ≡ record { list = l; previous = p; next = head_or xs n }) × Run links l (Some x) xs n

abbrev pub Each : (ℕ → Type 0) → List ℕ → Type 0
Each P [] = Unit {0}
Each P (x ∷ xs) = P x × Each P xs

abbrev pub IsAbsent : ℕ → List ℕ → Type 0
IsAbsent x = Each (λ y. y ≢ x)

abbrev pub Among : ℕ → List ℕ → Type 0
Among x [] = ⊥
Among x (y ∷ ys) = (y ≡ x) ⊎ Among x ys

abbrev pub AreDistinct : List ℕ → Type 0
AreDistinct [] = Unit {0}
AreDistinct (x ∷ xs) = IsAbsent x xs × AreDistinct xs

abbrev pub without : ℕ → List ℕ → List ℕ
without x [] = []
without x (y ∷ ys) = if y == x then without x ys else (y ∷ without x ys)

-- the whole list `xs`, with its ends
pub record IsList (links : List Link) (l : ℕ) (e : Ends) (xs : List ℕ) : Type 0 where
  pub run : Run links l None xs None
  pub first : e.first ≡ head_or xs None
  pub last : e.last ≡ last_or None xs
  pub len : e.len ≡ length xs
  pub distinct : AreDistinct xs

-- what `detach` wrote, place by place
pub record IsDetached (old new : List Link) (e e' : Ends) (x : ℕ) : Type 0 where
  pub size : length new ≡ length old
  pub others : (j : ℕ) → (link_at old x).previous ≢ Some j → (link_at old x).next ≢ Some j →
      link_at new j ≡ link_at old j
  pub before : (a : ℕ) → (link_at old x).previous ≡ Some a → (link_at old x).next ≢ Some a → a < length old →
      link_at new a ≡ record (link_at old a) { next = (link_at old x).next }
  pub after : (b : ℕ) → (link_at old x).next ≡ Some b → (link_at old x).previous ≢ Some b → b < length old →
      link_at new b ≡ record (link_at old b) { previous = (link_at old x).previous }
  pub labels : (j : ℕ) → (link_at new j).list ≡ (link_at old j).list
  pub first : (link_at old x).previous ≡ None → e'.first ≡ (link_at old x).next
  pub first_kept : (a : ℕ) → (link_at old x).previous ≡ Some a → e'.first ≡ e.first
  pub last : (link_at old x).next ≡ None → e'.last ≡ (link_at old x).previous
  pub last_kept : (b : ℕ) → (link_at old x).next ≡ Some b → e'.last ≡ e.last
  pub len : e'.len + 1 ≡ e.len

pub record IsAppended (old new : List Link) (e e' : Ends) (l x : ℕ) : Type 0 where
  pub size : length new ≡ length old
  pub others : (j : ℕ) → e.last ≢ Some j → j ≢ x → link_at new j ≡ link_at old j
  pub before : (a : ℕ) → e.last ≡ Some a → a ≢ x → a < length old →
      link_at new a ≡ record (link_at old a) { next = Some x }
  pub labels : (j : ℕ) → j ≢ x → (link_at new j).list ≡ (link_at old j).list
  pub here : link_at new x ≡ record { list = l; previous = e.last; next = None }
  pub first : e.last ≡ None → e'.first ≡ Some x
  pub first_kept : (a : ℕ) → e.last ≡ Some a → e'.first ≡ e.first
  pub last : e'.last ≡ Some x
  pub len : e'.len ≡ e.len + 1

abbrev pub list_at : List (List ℕ) → ℕ → List ℕ
list_at lists l = slice_index_or lists l []

-- the lists that the links and the ends make
abbrev pub lists_of : List Link → List Ends → List (List ℕ)
lists_of links ends = map (λ e. walk links e.len e.first) ends

-- the links and ends make these lists, and each number stands in the list of its label; `out` stands in none
pub record AreLists (links : List Link) (ends : List Ends) (lists : List (List ℕ)) (out : Option ℕ) : Type 0 where
  pub counted : length lists ≡ length ends
  pub each : (l : ℕ) → l < length ends → IsList links l (ends_at ends l) (list_at lists l)
  pub placed : (i : ℕ) → i < length links → out ≢ Some i →
      ((link_at links i).list < length ends) × Among i (list_at lists (link_at links i).list)
  pub outside : (i : ℕ) → out ≡ Some i → (l : ℕ) → l < length ends → IsAbsent i (list_at lists l)

-- what a client sees: how many numbers there are, how many more numbers and lists there is room for, and the lists
pub record Shape : Type 0 where
  pub size : ℕ
  pub room : ℕ
  pub list_room : ℕ
  pub labels : List ℕ
  pub lists : List (List ℕ)

-- `x` goes from where it stands to the end of list `l`
abbrev pub moved : ℕ → ℕ → List (List ℕ) → List (List ℕ)
moved x l lists = let rest = map (without x) lists in slice_set rest l (list_at rest l ++ x ∷ [])

abbrev pub labels_of : List Link → List ℕ
labels_of = map (λ k. k.list)

abbrev pub label_at : Shape → ℕ → ℕ
label_at s i = slice_index_or s.labels i 0

-- each number stands in the list of its label and in no other, once
pub record ArePlaced (s : Shape) : Type 0 where
  pub sized : length s.labels ≡ s.size
  pub labelled : (l : ℕ) → l < length s.lists → Each (λ i. (i < s.size) × (label_at s i ≡ l)) (list_at s.lists l)
  pub there : (i : ℕ) → i < s.size → (label_at s i < length s.lists) × Among i (list_at s.lists (label_at s i))
  pub distinct : (l : ℕ) → l < length s.lists → AreDistinct (list_at s.lists l)

-- a call takes `x` out of its list, and puts it at the end of list `l`
pub record Goes (s s' : Shape) (x l : ℕ) : Type 0 where
  pub size : s'.size ≡ s.size
  pub count : length s'.lists ≡ length s.lists
  pub labels : s'.labels ≡ slice_set s.labels x l
  pub lists : s'.lists ≡ moved x l s.lists
  pub placed : ArePlaced s'
  pub places : (from : ℕ) → from < length s.lists → Among x (list_at s.lists from)
      → map (without x) s.lists ≡ slice_set s.lists from (without x (list_at s.lists from))

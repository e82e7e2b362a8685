-- The text of a document is that of its parts, one behind the other.
use Rattle.std.specs.Prelude.{if◌then◌else◌, ◌==◌, false}
use Rattle.std.proofs.Common.{rules, arith, map, ◌≤◌, ◌≡◌, ℕ, true, ◌+◌, List, [], ◌∷◌, ◌++◌, length, drop}
use Rattle.std.proofs.{Common.{append_assoc, refl, sym, ap, ◌∙◌, codes}, lemmas.List.{append-nil, drop_all}}
use Rattle.serde_json.specs.{Data.{Data, string}, View.{items_of}, Written.{compact_text, items_text, members_text}}
use Rattle.serde_json.proofs.OnLiterals.{serde_json_on_literals}
use Rattle.sect_json.specs.Values.{list, by_place, members, record_of}
use Rattle.sect_json.specs.steps.Writes.{name_text, member_text, members_behind, elements_from, tail_text, comma_before}

-- a member and what follows it
pub member_then : (mark : ℕ) (name : List ℕ) (d : Data) (rest : List ℕ)
    → mark ∷ (compact_text (string name) ++ 58 ∷ (compact_text d ++ rest)) ≡ member_text mark name d ++ rest
member_then mark name d rest =
    ap (λ r. mark ∷ r) (sym (append_assoc (compact_text (string name)) (58 ∷ []) (compact_text d ++ rest))
    ∙ sym (append_assoc (compact_text (string name) ++ 58 ∷ []) (compact_text d) rest))

-- the members behind others
pub members_written : (ms : List (List ℕ × Data)) → members_text true (members ms) ≡ members_behind ms ++ 125 ∷ []
members_written [] = refl
members_written (m ∷ ms) =
    member_then 44 m.0 m.1 (members_text true (members ms))
    ∙ (ap (λ r. member_text 44 m.0 m.1 ++ r) (members_written ms)
    ∙ sym (append_assoc (member_text 44 m.0 m.1) (members_behind ms) (125 ∷ [])))

-- an object by its first member and the others
pub record_written : (name : List ℕ) (d : Data) (ms : List (List ℕ × Data))
    → compact_text (record_of ((name, d) ∷ ms)) ≡ member_text 123 name d ++ (members_behind ms ++ 125 ∷ [])
record_written name d ms =
    member_then 123 name d (members_text true (members ms))
    ∙ ap (λ r. member_text 123 name d ++ r) (members_written ms)

items_written : (n : ℕ) (ds : List Data) → items_text true (items_of ds) ≡ elements_from (n + 1) ds ++ 93 ∷ []
items_written n [] = refl
items_written n (d ∷ ds) =
    ap (λ r. 44 ∷ (compact_text d ++ r)) (items_written (n + 1) ds)
    ∙ (ap (λ r. 44 ∷ r) (sym (append_assoc (compact_text d) (elements_from ((n + 1) + 1) ds) (93 ∷ [])))
    ∙ ap (λ b. (if b then [] else 44 ∷ []) ++ (compact_text d ++ elements_from ((n + 1) + 1) ds) ++ 93 ∷ [])
    (sym (later n)))
  where
    later : (n : ℕ) → (n + 1 == 0) ≡ false
    later n = search (rules, arith)

-- a list by its elements
pub list_written : (ds : List Data) → compact_text (list ds) ≡ 91 ∷ (elements_from 0 ds ++ 93 ∷ [])
list_written [] = refl
list_written (d ∷ ds) =
    ap (λ r. 91 ∷ (compact_text d ++ r)) (items_written 0 ds)
    ∙ ap (λ r. 91 ∷ r) (sym (append_assoc (compact_text d) (elements_from 1 ds) (93 ∷ [])))

-- an object by its first member and the others
pub head_and_tail : (name other : List ℕ) (d e : Data) (ms : List (List ℕ × Data))
    → compact_text (record_of ((name, d) ∷ (other, e) ∷ ms))
    ≡ name_text 123 name ++ (compact_text d ++ tail_text (record_of ((other, e) ∷ ms)))
head_and_tail name other d e ms =
    record_written name d ((other, e) ∷ ms)
    ∙ (append_assoc (name_text 123 name) (compact_text d) (members_behind ((other, e) ∷ ms) ++ 125 ∷ [])
    ∙ ap (λ r. name_text 123 name ++ (compact_text d ++ r)) (sym (members_written ((other, e) ∷ ms))))

-- the beginnings of objects that are written often
pub lock_begins : name_text 123 (codes "lock") ≡ codes "{\"lock\":"
unfolding serde_json_on_literals
lock_begins = refl

pub needs_begins : name_text 123 (codes "needs") ≡ codes "{\"needs\":"
unfolding serde_json_on_literals
needs_begins = refl

pub steps_begins : name_text 123 (codes "steps") ≡ codes "{\"steps\":"
unfolding serde_json_on_literals
steps_begins = refl

-- the brackets round the elements, none of which is left
pub list_closed : {A : Type 0} (of : A → Data) (xs : List A) (n : ℕ) (start opened old new : List ℕ) → length xs ≤ n
    → opened ≡ start ++ 91 ∷ [] → old ++ elements_from n (map of (drop n xs)) ≡ opened ++ elements_from 0 (map of xs)
    → new ≡ old ++ 93 ∷ [] → new ≡ start ++ compact_text (list (map of xs))
list_closed of xs n start opened old new past bracket had closed =
    let written : old ≡ (start ++ 91 ∷ []) ++ elements_from 0 (map of xs) =
    sym (append-nil old) ∙ (ap (λ ys. old ++ elements_from n (map of ys)) (sym (drop_all n xs past))
    ∙ (had ∙ ap (λ r. r ++ elements_from 0 (map of xs)) bracket)) in
    closed ∙ (ap (λ r. r ++ 93 ∷ []) (written ∙ append_assoc start (91 ∷ []) (elements_from 0 (map of xs)))
    ∙ (append_assoc start (91 ∷ elements_from 0 (map of xs)) (93 ∷ [])
    ∙ ap (λ r. start ++ r) (sym (list_written (map of xs)))))

-- the same where each element goes by its place
pub places_closed : {A : Type 0} (of : ℕ → A → Data) (xs : List A) (n : ℕ) (start opened old new : List ℕ)
    → length xs ≤ n → opened ≡ start ++ 91 ∷ []
    → old ++ elements_from n (by_place of n (drop n xs)) ≡ opened ++ elements_from 0 (by_place of 0 xs)
    → new ≡ old ++ 93 ∷ [] → new ≡ start ++ compact_text (list (by_place of 0 xs))
places_closed of xs n start opened old new past bracket had closed =
    let all = elements_from 0 (by_place of 0 xs) in
    let written : old ≡ (start ++ 91 ∷ []) ++ all =
    sym (append-nil old) ∙ (ap (λ ys. old ++ elements_from n (by_place of n ys)) (sym (drop_all n xs past))
    ∙ (had ∙ ap (λ r. r ++ all) bracket)) in
    closed ∙ (ap (λ r. r ++ 93 ∷ []) (written ∙ append_assoc start (91 ∷ []) all)
    ∙ (append_assoc start (91 ∷ all) (93 ∷ []) ∙ ap (λ r. start ++ r) (sym (list_written (by_place of 0 xs)))))

-- one element more
element_behind : (n : ℕ) (ds : List Data) (d : Data) → elements_from n (ds ++ d ∷ [])
    ≡ elements_from n ds ++ (comma_before (n + length ds) ++ compact_text d)
element_behind n [] d =
    ap (λ r. comma_before n ++ r) (append-nil (compact_text d))
    ∙ ap (λ m. comma_before m ++ compact_text d) (omega arith)
element_behind n (e ∷ ds) d =
    ap (λ r. comma_before n ++ (compact_text e ++ r)) (element_behind (n + 1) ds d
    ∙ ap (λ m. elements_from (n + 1) ds ++ (comma_before m ++ compact_text d)) (omega arith))
    ∙ (ap (λ r. comma_before n ++ r)
    (sym (append_assoc (compact_text e) (elements_from (n + 1) ds)
    (comma_before (n + length (e ∷ ds)) ++ compact_text d)))
    ∙ sym (append_assoc (comma_before n) (compact_text e ++ elements_from (n + 1) ds)
    (comma_before (n + length (e ∷ ds)) ++ compact_text d)))

-- the elements so far, a comma and one more
pub element_next : (n : ℕ) (start old behind new : List ℕ) (ds : List Data) (d : Data) → length ds ≡ n
    → old ≡ start ++ elements_from 0 ds → behind ≡ old ++ comma_before n → new ≡ behind ++ compact_text d
    → new ≡ start ++ elements_from 0 (ds ++ d ∷ [])
element_next n start old behind new ds d many had comma put =
    let place : n ≡ 0 + length ds = omega (arith, many) in
    put ∙ (ap (λ r. r ++ compact_text d) (comma ∙ ap (λ r. r ++ comma_before n) had)
    ∙ (append_assoc (start ++ elements_from 0 ds) (comma_before n) (compact_text d)
    ∙ (append_assoc start (elements_from 0 ds) (comma_before n ++ compact_text d)
    ∙ ap (λ r. start ++ r) (ap (λ m. elements_from 0 ds ++ (comma_before m ++ compact_text d)) place
    ∙ sym (element_behind 0 ds d)))))

-- the brackets round the elements
pub elements_closed : (start opened old new : List ℕ) (ds : List Data) → opened ≡ start ++ 91 ∷ []
    → old ≡ opened ++ elements_from 0 ds → new ≡ old ++ 93 ∷ [] → new ≡ start ++ compact_text (list ds)
elements_closed start opened old new ds bracket had closed =
    closed ∙ (ap (λ r. r ++ 93 ∷ []) (had ∙ (ap (λ r. r ++ elements_from 0 ds) bracket
    ∙ append_assoc start (91 ∷ []) (elements_from 0 ds)))
    ∙ (append_assoc start (91 ∷ elements_from 0 ds) (93 ∷ []) ∙ ap (λ r. start ++ r) (sym (list_written ds))))

-- three parts, one behind the other
pub parts_written : (a b rest old first second new : List ℕ) → first ≡ old ++ a → second ≡ first ++ b
    → new ≡ second ++ rest → new ≡ old ++ (a ++ (b ++ rest))
parts_written a b rest old first second new e f g =
    g ∙ (ap (λ r. r ++ rest) (f ∙ ap (λ r. r ++ b) e)
    ∙ (append_assoc (old ++ a) b rest ∙ append_assoc old a (b ++ rest)))

-- an object has a text
pub some_text : (ms : List (List ℕ × Data)) → 1 ≤ length (compact_text (record_of ms))
some_text ms = omega arith

-- an object of one member
pub alone_written : (name : List ℕ) (d : Data)
    → compact_text (record_of ((name, d) ∷ [])) ≡ name_text 123 name ++ (compact_text d ++ 125 ∷ [])
alone_written name d = record_written name d [] ∙ append_assoc (name_text 123 name) (compact_text d) (125 ∷ [])

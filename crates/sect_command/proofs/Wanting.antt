-- What `clap` finds, as a function of the words.
use Rattle.std.proofs.Common.{◌≡◌, ◌∙◌, ◌⊎◌, ◌∷◌, ◌<◌, ◌||◌, ℕ, Bool, cond, true, false, Option, Some, None, List, []}
use Rattle.std.proofs.Common.{inl, inr, refl, ap, sym, map, take, drop, get_or, length, arith, codes}
use Rattle.std.proofs.lemmas.{List.{map-append, take-append-drop, drop_all}, Slice.Eq.{bytes_eq-Decides}}
use Rattle.std.specs.{Prelude.{find, option_map}, Str.{bytes_eq}}
use Rattle.clap.specs.{Faults.{is_simple_and_free}, Simple.{is_simple}, Walk.{Row, Text}}
use Rattle.sect_command.specs.{Commands.{name_of, sectc}, Wanting.{AreToldApart, take_threads}}
use Rattle.sect_command.specs.declared.subcommand.Subcommand.{Subcommand}

-- the command line is one of which `clap` says exactly what it finds, and why it refuses what
pub simple : is_simple sectc ≡ true
simple = refl

pub simple_and_free : is_simple_and_free sectc ≡ true
simple_and_free = refl

-- the subcommand that the getter gives is the one that was met
pub met_is : {X S : Type 0} (name : X → Text) (rows : X → List Row) (sub : S → Text × List Row) (r : Option X)
    (o : Option S) (x : X) → r ≡ Some x → option_map name r ≡ option_map (λ s. (sub s).0) o
    → option_map rows r ≡ option_map (λ p. p.1) (option_map sub o) → option_map sub o ≡ Some (name x, rows x)
met_is name rows sub r None x is names found =
    let none : Some (name x) ≡ None = ap (option_map name) (sym is) ∙ names in absurd cc
met_is name rows sub r (Some s) x is names found =
    let same : Some (name x) ≡ Some (sub s).0 = ap (option_map name) (sym is) ∙ names in
    let alike : Some (rows x) ≡ Some (sub s).1 = ap (option_map rows) (sym is) ∙ found in
    ap Some (λ i. (some_of (name x) (sym same i), some_of (rows x) (sym alike i)))
  where
    some_of : {Y : Type 0} → Y → Option Y → Y
    some_of d None = d
    some_of d (Some y) = y

-- the command of a name has that name
pub found_named : (name : Text) (s : Subcommand) (ss : List Subcommand)
    → Some s ≡ find (λ t. bytes_eq (name_of t) name) ss → name_of s ≡ name
found_named name s [] e = absurd cc
found_named name s (t ∷ ts) e = go (bytes_eq (name_of t) name) refl e (found_named name s ts)
  where
    others : Option Subcommand
    others = find (λ t. bytes_eq (name_of t) name) ts

    go : (b : Bool) → bytes_eq (name_of t) name ≡ b → Some s ≡ cond b (Some t) others
        → (Some s ≡ others → name_of s ≡ name) → name_of s ≡ name
    go true is same more =
        let one : s ≡ t = cc in
        ap name_of one ∙ (bytes_eq-Decides (name_of t) name).0 is
    go false is same more = more same

-- a command of another name takes no threads
pub not_taken : {X : Type 0} (f : X → Text) (words : List X) (d : X) (word : Text) → 1 < length words
    → word ≡ f (get_or words 1 d) → (word ≡ codes "serial" → ⊥) → (word ≡ codes "schedule" → ⊥)
    → false ≡ take_threads (map f words)
not_taken f [] d word within is serial schedule = absurd (omega arith)
not_taken f (program ∷ []) d word within is serial schedule = absurd (omega arith)
not_taken f (program ∷ command ∷ words) d word within is serial schedule =
    neither _ _ (λ e. serial (is ∙ (bytes_eq-Decides (f command) (codes "serial")).0 e))
    (λ e. schedule (is ∙ (bytes_eq-Decides (f command) (codes "schedule")).0 e))
  where
    neither : (a b : Bool) → (a ≡ true → ⊥) → (b ≡ true → ⊥) → false ≡ (a || b)
    neither true b first second = absurd (first refl)
    neither false true first second = absurd (second refl)
    neither false false first second = refl

-- the words of which `clap` is told, and those behind
pub told_apart : {X : Type 0} (f : X → Text) (words : List X) (n : ℕ)
    → (n ≡ length words) ⊎ (take_threads (map f words) ≡ true)
    → AreToldApart (map f words) (map f (take n words)) (map f (drop n words))
told_apart f words n why = record {
  all = ap (map f) (sym (take-append-drop n words)) ∙ map-append f (take n words) (drop n words);
  threads = elim why [
    | inl all ↦ inl (ap (map f) (drop_all n words (omega (arith, all))))
    | inr takes ↦ inr takes
  ];
}

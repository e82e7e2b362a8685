-- The rows of the table and the commands.
use Rattle.std.proofs.Common.{◌≡◌, ◌∙◌, ◌<◌, ◌+◌, ℕ, Bool, true, false, cond, List, [], ◌∷◌, length, drop, map, get_or}
use Rattle.std.proofs.Common.{refl, ap, sym, fold}
use Rattle.std.proofs.lemmas.List.{drop_more}
use Rattle.std.specs.{Prelude.{Option, Some, None, find}, Str.{bytes_eq}}
use Rattle.clap.specs.{Simple.{App, Shape, with_subcommand}, Walk.{Text}}
use Rattle.sect_command.specs.Commands.{command_told, name_of, shape_by}
use Rattle.sect_command.specs.steps.Rows.{row_told, shape_told}
use Rattle.sect_command.specs.declared.{subcommand.Subcommand.{Subcommand}, grammar.Row.{Row}}

abbrev heads : {X : Type 0} → X → List X → X
heads d [] = d
heads d (x ∷ xs) = x

abbrev tails : {X : Type 0} → List X → List X
tails [] = []
tails (x ∷ xs) = xs

-- a search by name among the rows
abbrev pub row_named : Text → List Row → Option Row
row_named name rows = find (λ row. bytes_eq row.name.now name) rows

abbrev pub subcommand_in : Option Row → Option Subcommand
subcommand_in None = None
subcommand_in (Some row) = Some row.subcommand

-- it finds the command of that name
pub named_alike : (name : Text) (rows : List Row) (ss : List Subcommand) → map row_told rows ≡ map command_told ss
    → subcommand_in (row_named name rows) ≡ find (λ s. bytes_eq (name_of s) name) ss
named_alike name [] [] e = refl
named_alike name [] (s ∷ ss) e = absurd cc
named_alike name (r ∷ rs) [] e = absurd cc
named_alike name (r ∷ rs) (s ∷ ss) e =
    let here : row_told r ≡ command_told s = ap (heads (row_told r)) e in
    let same : r.name.now ≡ name_of s = ap (λ (p : Subcommand × Shape). p.1.name) here in
    let is : r.subcommand ≡ s = ap (λ (p : Subcommand × Shape). p.0) here in
    go (bytes_eq r.name.now name) (bytes_eq (name_of s) name) (ap (λ t. bytes_eq t name) same) is
    (named_alike name rs ss (ap tails e))
  where
    go : (a b : Bool) → a ≡ b → r.subcommand ≡ s
        → subcommand_in (row_named name rs) ≡ find (λ s. bytes_eq (name_of s) name) ss
        → subcommand_in (cond a (Some r) (row_named name rs))
        ≡ cond b (Some s) (find (λ s. bytes_eq (name_of s) name) ss)
    go true true e is more = ap Some is
    go false false e is more = more
    go true false e is more = absurd cc
    go false true e is more = absurd cc

-- the command line that the rows make
pub told_alike : (a : App) (rows : List Row) (ss : List Subcommand) → map row_told rows ≡ map command_told ss
    → fold (λ a row. with_subcommand a (shape_told row)) a rows ≡ fold (λ a s. with_subcommand a (shape_by s)) a ss
told_alike a [] [] e = refl
told_alike a [] (s ∷ ss) e = absurd cc
told_alike a (r ∷ rs) [] e = absurd cc
told_alike a (r ∷ rs) (s ∷ ss) e =
    let here : row_told r ≡ command_told s = ap (heads (row_told r)) e in
    told_alike (with_subcommand a (shape_told r)) rs ss (ap tails e)
    ∙ ap (λ (p : Subcommand × Shape). fold (λ a s. with_subcommand a (shape_by s)) (with_subcommand a p.1) ss) here

module _ (name : Text) (rows : List Row) (i : ℕ) (d : Row) (within : i < length rows) where
  -- the search ends here
  pub named_here : bytes_eq (get_or rows i d).name.now name ≡ true
      → row_named name (drop i rows) ≡ Some (get_or rows i d)
  named_here e = ap (row_named name) (drop_more rows i d within)
      ∙ ap (λ b. cond b (Some (get_or rows i d)) (row_named name (drop (i + 1) rows))) e

  -- or it goes on
  pub named_behind : bytes_eq (get_or rows i d).name.now name ≡ false
      → row_named name (drop (i + 1) rows) ≡ row_named name (drop i rows)
  named_behind e = sym (ap (row_named name) (drop_more rows i d within)
      ∙ ap (λ b. cond b (Some (get_or rows i d)) (row_named name (drop (i + 1) rows))) e)

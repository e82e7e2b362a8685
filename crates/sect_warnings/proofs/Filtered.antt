-- What is told lies where all of it does.
use Rattle.std.proofs.Common.{ℕ, List}
use Rattle.std.proofs.lemmas.List.Elements.{All-filter}
use Rattle.std.specs.Prelude.{not}
use Rattle.sect_front.specs.FaultPlaces.{IsWithin}
use Rattle.sect_warnings.specs.{Comments.{is_noted, unnoted}, Placed.{PlacedView}, Reports.{AreWithin}}
use Rattle.sect_warnings.specs.{Rulings.{is_allowed, told_by}, Titles.{told_name}, declared.ruling.Ruling.{Ruling}}

pub unnoted_within : (source : List ℕ) (total : ℕ) (ps : List PlacedView) → AreWithin total ps
    → AreWithin total (unnoted source ps)
unnoted_within source total ps h =
    All-filter (λ (p : PlacedView). not (is_noted source p.span.start (told_name p.told)))
    (λ (p : PlacedView). IsWithin total p.span) ps h

pub told_within : (rulings : List Ruling) (total : ℕ) (ps : List PlacedView) → AreWithin total ps
    → AreWithin total (told_by rulings ps)
told_within rulings total ps h =
    All-filter (λ (p : PlacedView). not (is_allowed rulings (told_name p.told)))
    (λ (p : PlacedView). IsWithin total p.span) ps h

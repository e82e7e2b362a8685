-- What is among referents is found by a test.
use Rattle.std.proofs.Common.{◌≡◌, ◌↔◌, ◌⊎◌, List, [], ◌∷◌, ◌++◌, Bool, true, false, Option, Some, None, inl, inr, refl}
use Rattle.std.proofs.Common.{sym, rules, true≢false, ℕ, ◌+◌, ◌<◌, length, take, get_or, ap, ◌∙◌, subst}
use Rattle.std.proofs.{lemmas.List.{take_more, append-nil}, lemmas.Grind.{flat_map-append}}
use Rattle.std.specs.{Prelude.{not}, Bool.{Decides}, List.{list_any, flat_map}}
use Rattle.sect_lemmas.specs.Lists.{Has}
use Rattle.sect_lemmas.proofs.{Finding.{any_tells}, Membership.{Has-cases, Has-left, Has-right}}
use Rattle.sect_places.specs.declared.name_use.NameSpan.{NameSpan}
use Rattle.sect_lint.specs.declared.unused.Referent.{Referent}
use Rattle.sect_lint.specs.contracts.unused.ReferentPartialEq.TheImpl.{ghosts as the_referent_eq}
use Rattle.sect_lint.specs.Unused.{IsNotAmong, mentions}
use Rattle.sect_lint.specs.steps.Spare.{is_spare}
use Rattle.sect_lint.specs.declared.unused.Referent.TheVariants as referent

pub referent_tells : (a b : Referent) → Decides (the_referent_eq.eq a b) (a ≡ b)
referent_tells (referent.Record x) (referent.Record y) = search rules
referent_tells (referent.Record x) (referent.Global y) = search rules
referent_tells (referent.Record x) (referent.Procedure y) = search rules
referent_tells (referent.Record x) (referent.Local m y) = search rules
referent_tells (referent.Global x) (referent.Record y) = search rules
referent_tells (referent.Global x) (referent.Global y) = search rules
referent_tells (referent.Global x) (referent.Procedure y) = search rules
referent_tells (referent.Global x) (referent.Local m y) = search rules
referent_tells (referent.Procedure x) (referent.Record y) = search rules
referent_tells (referent.Procedure x) (referent.Global y) = search rules
referent_tells (referent.Procedure x) (referent.Procedure y) = search rules
referent_tells (referent.Procedure x) (referent.Local m y) = search rules
referent_tells (referent.Local l x) (referent.Record y) = search rules
referent_tells (referent.Local l x) (referent.Global y) = search rules
referent_tells (referent.Local l x) (referent.Procedure y) = search rules
referent_tells (referent.Local l x) (referent.Local m y) = search rules

-- the test tells what is declared and not among them
pub spare_tells : (rs : List Referent) (o : Option Referent) → (is_spare rs o ≡ true) ↔ IsNotAmong rs o
spare_tells rs None = (λ e. true≢false (sym e), λ none. absurd none)
spare_tells rs (Some r) = by (list_any (the_referent_eq.eq r) rs) (any_tells the_referent_eq.eq referent_tells rs r)
  where
    by : (b : Bool) → ((b ≡ true) ↔ Has rs r) → (not b ≡ true) ↔ (Has rs r → ⊥)
    by true t = (λ e. absurd (true≢false (sym e)), λ none. absurd (none (t.0 refl)))
    by false t = (λ e h. true≢false (sym (t.1 h)), λ none. refl)

-- one name more
pub next_mentions : (names : List NameSpan) (i : ℕ) (n : NameSpan) (before after : List Referent) → i < length names
    → n ≡ get_or names i n → ((r : Referent) → Has before r ↔ Has (flat_map mentions (take i names)) r)
    → ((r : Referent) → Has after r ↔ (Has before r ⊎ Has (mentions n) r))
    → (r : Referent) → Has after r ↔ Has (flat_map mentions (take (i + 1) names)) r
next_mentions names i n before after within is so_far more r =
    let list = flat_map mentions (take i names) in
    let all : flat_map mentions (take (i + 1) names) ≡ list ++ mentions n =
    ap (flat_map mentions) (take_more names i n within)
    ∙ flat_map-append mentions (take i names) (get_or names i n ∷ [])
    ∙ ap (λ (ms : List Referent). list ++ ms) (append-nil (mentions (get_or names i n)) ∙ ap mentions (sym is)) in
    subst (λ rs. Has after r ↔ Has rs r) (sym all) (
      λ h. elim ((more r).0 h) [
        | inl a ↦ Has-left list (mentions n) r ((so_far r).0 a)
        | inr b ↦ Has-right list (mentions n) r b
      ],
      λ h. (more r).1 (elim (Has-cases list (mentions n) r h) [ inl a ↦ inl ((so_far r).1 a) | inr b ↦ inr b ]),
    )

-- also where others are the same
pub among_same : (rs ss : List Referent) → ((r : Referent) → Has rs r ↔ Has ss r) → (o : Option Referent)
    → IsNotAmong rs o ↔ IsNotAmong ss o
among_same rs ss same None = (λ none. none, λ none. none)
among_same rs ss same (Some r) = (λ none h. none ((same r).1 h), λ none h. none ((same r).0 h))

-- The bytes of what is told of declarations lie in the text.
use Rattle.std.proofs.Common.{ℕ, zero, suc, List, [], ◌∷◌, ◌++◌, map, Bool, true, false, arith, sym, subst}
use Rattle.std.specs.{Prelude.{filter, if◌then◌else◌, ◌&&◌}, List.{flat_map}}
use Rattle.sect_front.specs.{FaultPlaces.{IsWithin}, declared.span.Span.{Span}}
use Rattle.sect_places.specs.{Declarations.{is_record}, Spans.{IsProper, AreProper}}
use Rattle.sect_places.specs.{declared.name_use.NameSpan.{NameSpan}, declared.name_use.Role.{Role}}
use Rattle.sect_names.specs.Schemes.{SchemeView}
use Rattle.sect_lint.specs.Idle.{is_idle, idle_at, idle_from, behind}
use Rattle.sect_warnings.specs.{Placed.{PlacedView}, Reports.{AreWithin}}
use Rattle.sect_warnings.specs.Spares.{unused_by, unused_at, hint_at, AreSpares}
use Rattle.sect_places.specs.declared.name_use.Role.TheVariants as role

module _ (total : ℕ) where
  -- the same as `AreWithin`, element by element
  abbrev Each : List PlacedView → Type 0
  Each [] = Unit {0}
  Each (p ∷ ps) = IsWithin total p.span × Each ps

  each_within : (ps : List PlacedView) → Each ps → AreWithin total ps
  each_within [] h k d lt = absurd (omega arith)
  each_within (p ∷ ps) h zero d lt = h.0
  each_within (p ∷ ps) h (suc k) d lt = each_within ps h.1 k d (omega arith)

  each_of : (ps : List PlacedView) → AreWithin total ps → Each ps
  each_of [] h = tt
  each_of (p ∷ ps) h = (h 0 p (omega arith), each_of ps (λ k d lt. h (suc k) d (omega arith)))

  each_both : (ps qs : List PlacedView) → Each ps → Each qs → Each (ps ++ qs)
  each_both [] qs h g = g
  each_both (p ∷ ps) qs h g = (h.0, each_both ps qs h.1 g)

  abbrev Proper : List NameSpan → Type 0
  Proper ns = AreProper total (map (λ (n : NameSpan). n.span) ns)

  unused_each : (span : Span) (r : Role) → IsProper total span → Each (unused_by span r)
  unused_each span (role.Declared what) h = ((omega (arith, h.0), h.1), tt)
  unused_each span _ h = tt

  all_unused : (ns : List NameSpan) → Proper ns → Each (flat_map unused_at ns)
  all_unused [] h = tt
  all_unused (n ∷ ns) h =
      each_both (unused_at n) (flat_map unused_at ns) (unused_each n.span n.used.role h.0) (all_unused ns h.1)

  all_hints : (ns : List NameSpan) → Proper ns → Each (map hint_at ns)
  all_hints [] h = tt
  all_hints (n ∷ ns) h = ((omega (arith, h.0.0), h.0.1), all_hints ns h.1)

  filtered : (test : NameSpan → Bool) (ns : List NameSpan) → Proper ns → Proper (filter test ns)
  filtered test [] h = tt
  filtered test (n ∷ ns) h = by (test n) (filtered test ns h.1)
    where
      by : (b : Bool) → Proper (filter test ns) → Proper (if b then n ∷ filter test ns else filter test ns)
      by true rest = (h.0, rest)
      by false rest = rest

  proper_both : (ns ms : List NameSpan) → Proper ns → Proper ms → Proper (ns ++ ms)
  proper_both [] ms h g = g
  proper_both (n ∷ ns) ms h g = (h.0, proper_both ns ms h.1 g)

  one_idle : (s : SchemeView) (r : ℕ) (n : NameSpan) → IsProper total n.span → Proper (idle_at s r n)
  one_idle s r n h = by (is_record n.used.role && is_idle s r)
    where
      by : (b : Bool) → Proper (if b then n ∷ [] else [])
      by true = (h, tt)
      by false = tt

  all_idle : (s : SchemeView) (r : ℕ) (ns : List NameSpan) → Proper ns → Proper (idle_from s r ns)
  all_idle s r [] h = tt
  all_idle s r (n ∷ ns) h =
      proper_both (idle_at s r n) (idle_from s (behind r n) ns) (one_idle s r n h.0) (all_idle s (behind r n) ns h.1)

  -- what is told of sections and then of declarations
  pub with_spares : (s : SchemeView) (names : List NameSpan) (ps spares : List PlacedView) → Proper names
      → AreSpares s names spares → AreWithin total ps → AreWithin total (ps ++ spares)
  with_spares s names ps spares proper are within =
      each_within (ps ++ spares)
      (each_both ps spares (each_of ps within) (subst Each (sym are.2)
      (each_both (flat_map unused_at are.0) (map hint_at (idle_from s 0 names))
      (all_unused are.0 (subst Proper (sym are.1.2) (filtered are.1.0 names proper)))
      (all_hints (idle_from s 0 names) (all_idle s 0 names proper)))))

use Rattle.std.proofs.Common.{◌≡◌, ◌<◌, ◌≤◌, ◌++◌, ℕ, [], Some, map, length, refl, sym, ap, ◌∙◌, subst, inl, inr, arith}
use Rattle.std.proofs.lemmas.Option.{slice_get_read, get_or_from_slice_get}
use Rattle.std.specs.Prelude.{All, slice_get, slice_index_or}
use Rattle.sect_types.specs.{Items.{items}, Sections.{sections_of}}
use Rattle.sect_places.specs.{NodeOrigins.{AreOrigins}, SectionItems.{section_items_of, IsAtomicItem}}
use Rattle.sect_conflicts.specs.Conflicts.{Selects}
use Rattle.sect_conflicts.proofs.shared.Selecting.{selected, adds_all}
use Rattle.sect_warnings.specs.{Warnings.{IsDue, to_section, AreAtItems}, declared.warning.Warning.{Warning}}
use Rattle.sect_warnings.specs.Warnings.{AreOfFlows, lost_warning}
use Rattle.sect_warnings.proofs.{Losing.{accesses_there, flows_at}, Parting.{each_of_both, pairs_at}}
use Rattle.sect_names.specs.declared.lock.Effect.TheVariants.{Write}
use Rattle.sect_places.specs.{declared.origin.Origin.{Origin}, Origins.{section_origins_of}}
use Rattle.sect_lemmas.proofs.Membership.{Has-cases}
use Rattle.sect_warnings.proofs.Judging.{origins_many, origins_within, item_within, all_within, next_section}
use Rattle.sect_warnings.proofs.judge.warnings.Goals as goal

pub add_section-requires-clause-origins : goal.add_section-requires-clause-origins
add_section-requires-clause-origins c =
    let v = c.args.compiled.now in
    let are : AreOrigins v.scheme.program c.in_ok-origins.origins =
    rw (c.program-program.ensures, c.scheme.ensures) at c.in_ok-origins.ensures in
    let count : c.section_count-section-end.result ≡ length (sections_of v.scheme.program.texts) =
    rw (c.program-program.ensures, c.scheme.ensures) at c.section_count-section-end.ensures.count in
    origins_many v c.facts.ensures.compiled.scheme c.loop-section.section
    (omega (arith, count, c.loop-section-test.true)) c.in_ok-origins.origins are c.section.result.now c.section.ensures

pub loop-section-preserved : goal.loop-section-preserved
loop-section-preserved c =
    let v = c.args.compiled.now in
    let i = c.loop-section.section in
    let tree = v.scheme.program.source in
    let list = c.in_ok-items.items.items in
    let x = c.index-item.result.now in
    let are : AreOrigins v.scheme.program c.in_ok-origins.origins =
    rw (c.program-program.ensures, c.scheme.ensures) at c.in_ok-origins.ensures in
    let those : list ≡ section_items_of tree =
    rw (c.program-program.ensures, c.scheme.ensures) at c.in_ok-items.ensures.are in
    let many = c.in_ok-items.ensures.many in
    let there = slice_get_read list (length list) i x refl
    (omega (arith, many, c.section_count-section-end.ensures.count, c.loop-section-test.true)) c.index-item.ensures in
    next_section v i x c.section.result.now [] c.loop-section.found.items c.add_section.new.found.items
    (ap (λ l. slice_index_or l i 0) (sym those) ∙ get_or_from_slice_get list i x 0 there)
    (ap (λ l. slice_index_or l i []) (sym are.sections_are)
    ∙ get_or_from_slice_get c.in_ok-origins.origins.sections i c.section.result.now [] c.section.ensures)
    c.loop-section.invariant c.in_ok-add_section.ensures

pub of_pairs-requires-clause-items : goal.of_pairs-requires-clause-items
of_pairs-requires-clause-items c =
    let v = c.args.compiled.now in
    let those : c.in_ok-items.items.items ≡ section_items_of v.scheme.program.source =
    rw (c.program-program.ensures, c.scheme.ensures) at c.in_ok-items.ensures.are in
    c.as_slice.ensures.value ∙ those

pub of_pairs-requires-clause-many : goal.of_pairs-requires-clause-many
of_pairs-requires-clause-many c =
    let v = c.args.compiled.now in
    let many : length c.in_ok-items.items.items ≡ length (sections_of v.scheme.program.texts) =
    rw (c.program-program.ensures, c.scheme.ensures) at c.in_ok-items.ensures.many in
    ap length c.as_slice.ensures.value ∙ many

pub returns-clause-due : goal.returns-clause-due
returns-clause-due c =
    let v = c.args.compiled.now in
    let found = c.loop-section.found.items in
    let count : c.section_count-section-end.result ≡ length (sections_of v.scheme.program.texts) =
    rw (c.program-program.ensures, c.scheme.ensures) at c.section_count-section-end.ensures.count in
    let most : c.loop-section.section ≤ c.section_count-section-end.result = c.loop-section.auto.section-end in
    let all : c.loop-section.section ≡ length (sections_of v.scheme.program.texts) =
    omega (arith, most, count, c.loop-section-test.false) in (
      found,
      c.in_ok-apart.apart.items,
      map lost_warning c.in_ok-lost.lost.items,
      subst (λ n. Selects (IsDue v) (to_section v n) found) all
          (adds_all (IsDue v) (to_section v c.loop-section.section) found c.loop-section.invariant),
      c.in_ok-apart.ensures,
      (c.in_ok-lost.lost.items, c.in_ok-lost.ensures, refl),
      c.in_ok-put_lost.ensures ∙ ap (λ us. c.append.new.self.items ++ map lost_warning us) c.as_slice-2.ensures.value
          ∙ ap (λ ws. ws ++ map lost_warning c.in_ok-lost.lost.items) c.in_ok-append.ensures.items,
    )

pub returns-clause-items : goal.returns-clause-items
returns-clause-items c =
    let v = c.args.compiled.now in
    let n = c.loop-section.section in
    let tree = v.scheme.program.source in
    let found = c.loop-section.found.items in
    let apart = c.in_ok-apart.apart.items in
    let list = c.in_ok-items.items.items in
    let are : AreOrigins v.scheme.program c.in_ok-origins.origins =
    rw (c.program-program.ensures, c.scheme.ensures) at c.in_ok-origins.ensures in
    let those : list ≡ section_items_of tree =
    rw (c.program-program.ensures, c.scheme.ensures) at c.in_ok-items.ensures.are in
    let atomic : All (IsAtomicItem tree) list =
    rw (c.program-program.ensures, c.scheme.ensures) at c.in_ok-items.ensures.atomic in
    let many : length list ≡ length (sections_of v.scheme.program.texts) =
    rw (c.program-program.ensures, c.scheme.ensures) at c.in_ok-items.ensures.many in
    let count : c.section_count-section-end.result ≡ length (sections_of v.scheme.program.texts) =
    rw (c.program-program.ensures, c.scheme.ensures) at c.section_count-section-end.ensures.count in
    let most : n ≤ c.section_count-section-end.result = c.loop-section.auto.section-end in
    let there : (i : ℕ) → i < length list → slice_index_or (section_items_of tree) i 0 < length (items tree) =
    item_within tree list those atomic in
    let flowing : AreOfFlows v (map lost_warning c.in_ok-lost.lost.items) =
    (c.in_ok-lost.lost.items, c.in_ok-lost.ensures, refl) in
    let is = c.in_ok-put_lost.ensures ∙ ap (λ us. c.append.new.self.items ++ map lost_warning us) c.as_slice-2.ensures.value
    ∙ ap (λ ws. ws ++ map lost_warning c.in_ok-lost.lost.items) c.in_ok-append.ensures.items in
    let within : (i : ℕ) → i < length (sections_of v.scheme.program.texts) → (j : ℕ) (o : Origin)
    → slice_get (slice_index_or (section_origins_of tree) i []) j ≡ Some o → o.item < length (items tree) =
    λ i below. origins_within v c.facts.ensures.compiled.scheme i below c.in_ok-origins.origins are in
    subst (AreAtItems tree) (sym is)
    (each_of_both (λ (w : Warning). w.item < length (items tree)) (found ++ apart)
    (map lost_warning c.in_ok-lost.lost.items)
    (λ w h. elim (Has-cases found apart w h) [
      | inl first ↦ all_within (length (items tree)) v n (λ i below. there i (omega (arith, below, most, many, count)))
          (λ i below. within i (omega (arith, below, most, count))) w
          (selected (IsDue v) (to_section v n) found
          (adds_all (IsDue v) (to_section v n) found c.loop-section.invariant) w first).0
      | inr second ↦ (let at = pairs_at v apart c.in_ok-apart.ensures w second in
          subst (λ k. k < length (items tree)) (sym at.2) (there at.0 (omega (arith, at.1, many))))
    ])
    (λ w h.
    (let (a, stored, is) = flows_at v (map lost_warning c.in_ok-lost.lost.items) flowing w h in
    subst (λ k. k < length (items tree)) (sym is)
    (accesses_there Write (λ item. item < length (items tree)) v (length (sections_of v.scheme.program.texts)) within a
    stored).1)))

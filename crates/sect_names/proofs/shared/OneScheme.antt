-- A program has one scheme.
use Rattle.std.proofs.Common.{◌≡◌, inl, inr, ℕ, zero, suc, ◌<◌, ◌≤◌, List, [], length, Option, Some, None, refl}
use Rattle.std.proofs.{Common.{sym, ◌∙◌, subst, arith}, lemmas.Bool.{cases_lt}, lemmas.Option.{slice_get-get_or}}
use Rattle.std.proofs.lemmas.List.{ext_get_or}
use Rattle.std.specs.Prelude.{slice_index, slice_index_or}
use Rattle.sect_types.specs.{Statements.{TextView, Stop}, Programs.{ProgramView, sites_of}, Sections.{sections_of}}
use Rattle.sect_graph.specs.Graphs.{GraphView, AreGraphs}
use Rattle.sect_points.specs.declared.holders.ThreadAction.{ThreadAction}
use Rattle.sect_points.specs.Flow.{Family, Within, IsClosed, family_of, IsLeastFlow}
use Rattle.sect_points.specs.Sets.{PointsToView, InSets, AreBelow}
use Rattle.sect_points.specs.Partitions.{ClassesView, Together, IsParted, AreSlotsOfSites}
use Rattle.sect_points.specs.Statements.{thread_actions}
use Rattle.sect_points.proofs.shared.SolvingLaws.{moved_more}
use Rattle.sect_hints.specs.Hints.{AreGuards}
use Rattle.sect_names.specs.{Schemes.{SchemeView, IsScheme}, Laws.{AreOneScheme}}
use Rattle.sect_names.proofs.Facts.{facts, facts_tell}

-- a family that lies within another one and has it within has the same moved
closed_as : (F G : Family) (list : List ThreadAction) → Within G F → Within F G → IsClosed F list → IsClosed G list
closed_as F G list to from closed p h k s moved =
    from k s (closed p h k s (moved_more G F p.thread p.action to k s moved))

-- sets that are least lie within others that are
least_within : (a b : PointsToView) (list : List ThreadAction) → IsLeastFlow (InSets a) list
    → IsLeastFlow (InSets b) list → AreBelow b → AreSlotsOfSites b → Within (InSets a) (InSets b)
least_within a b list least other low slots h s here =
    let tell = facts_tell b low slots in
    let G = family_of (facts b) in
    let closed : IsClosed G list =
    closed_as (InSets b) G list (λ k x i. (tell k x).1 i) (λ k x i. (tell k x).0 i) other.closed in
    (tell h s).1 (least.within (facts b) closed h s here)

-- partitions that are finest for the same sets keep the same sites together
finest_together : (a b : ClassesView) → IsParted a → IsParted b → length a.numbers ≡ length b.numbers
    → Within (InSets a.sets) (InSets b.sets)
    → (x y : ℕ) → x < length a.numbers → y < length a.numbers → Together a.numbers x y → Together b.numbers x y
finest_together a b is_a is_b long to x y within_x within_y =
    is_a.finest.finest b.numbers (λ h k m n at_h at_k linked. is_b.finest.respects h k m n (to h m at_h) (to k n at_k)
    linked) x y within_x within_y

module _ (a b : ClassesView) (is_a : IsParted a) (is_b : IsParted b) (long : length a.numbers ≡ length b.numbers)
    (to : Within (InSets a.sets) (InSets b.sets)) (from : Within (InSets b.sets) (InSets a.sets)) where
  -- an earlier number of one is an earlier number of the other
  not_below : (i : ℕ) → i < length a.numbers → ((j : ℕ) → j < i → slice_index a.numbers j ≡ slice_index b.numbers j)
      → slice_index a.numbers i < slice_index b.numbers i → ⊥
  not_below i within same less =
      let earlier = is_b.least i (slice_index a.numbers i) (omega (arith, within, long)) less in
      let j = earlier.0 in
      let number : slice_index a.numbers j ≡ slice_index a.numbers i = same j earlier.1 ∙ earlier.2 in
      let together = finest_together a b is_a is_b long to j i (omega (arith, within, earlier.1)) within number in
      omega (arith, less, together, earlier.2)

-- so sites have the same numbers, up to each site
same_below : (a b : ClassesView) → IsParted a → IsParted b → length a.numbers ≡ length b.numbers
    → Within (InSets a.sets) (InSets b.sets) → Within (InSets b.sets) (InSets a.sets)
    → (n : ℕ) → n ≤ length a.numbers → (j : ℕ) → j < n → slice_index a.numbers j ≡ slice_index b.numbers j
same_below a b is_a is_b long to from zero most j less = absurd (omega (arith, less))
same_below a b is_a is_b long to from (suc n) most j less =
    let before = same_below a b is_a is_b long to from n (omega (arith, most)) in
    elim (cases_lt j n) [
      | inl earlier ↦ before j earlier
      | inr last ↦
          let is : j ≡ n = omega (arith, less, last) in
          subst (λ i. slice_index a.numbers i ≡ slice_index b.numbers i) (sym is)
          (elim (cases_lt (slice_index a.numbers n) (slice_index b.numbers n)) [
            | inl up ↦ absurd (not_below a b is_a is_b long to from n (omega (arith, most)) before up)
            | inr over ↦ elim (cases_lt (slice_index b.numbers n) (slice_index a.numbers n)) [
              | inl down ↦ absurd (not_below b a is_b is_a (sym long) from to n (omega (arith, most, long))
                  (λ k lt. sym (before k lt)) down)
              | inr under ↦ omega (arith, over, under)
            ]
          ])
    ]

-- guards of one program are one list
same_guards : (p : ProgramView) (xs ys : List (Option ℕ)) → AreGuards p xs → AreGuards p ys → xs ≡ ys
same_guards p xs ys a b = ext_get_or None xs ys (a.as_many ∙ sym b.as_many)
    (λ r within. by r (slice_index_or xs r None) refl)
  where
    by : (r : ℕ) (o : Option ℕ) → slice_index_or xs r None ≡ o → slice_index_or xs r None ≡ slice_index_or ys r None
    by r None is = is ∙ sym ((b.unguarded r).1 ((a.unguarded r).0 is))
    by r (Some g) is = is ∙ sym ((b.guarded r g).1 ((a.guarded r g).0 is))

-- graphs of one program's texts are one
same_graphs : (texts : List TextView) (x y : GraphView) → AreGraphs texts x → AreGraphs texts y → x ≡ y
same_graphs texts x y a b = λ i. record { threads = threads i; sections = sections i }
  where
    threads : x.threads ≡ y.threads
    threads = ext_get_or [] x.threads y.threads (a.thread_count ∙ sym b.thread_count) (λ t within.
        let text = slice_get-get_or texts t Stop (omega (arith, within, a.thread_count)) in
        let one = a.threads t _ _ text (slice_get-get_or x.threads t [] within) in
        let other = b.threads t _ _ text
        (slice_get-get_or y.threads t [] (omega (arith, within, a.thread_count, b.thread_count))) in
        one.nodes ∙ sym other.nodes)

    sections : x.sections ≡ y.sections
    sections = ext_get_or [] x.sections y.sections (a.section_count ∙ sym b.section_count) (λ t within.
        let section = slice_get-get_or (sections_of texts) t (record { thread = 0; body = Stop })
        (omega (arith, within, a.section_count)) in
        let one = a.sections t _ _ section (slice_get-get_or x.sections t [] within) in
        let other = b.sections t _ _ section
        (slice_get-get_or y.sections t [] (omega (arith, within, a.section_count, b.section_count))) in
        one.nodes ∙ sym other.nodes)

pub one_scheme : (s r : SchemeView) → IsScheme s → IsScheme r → s.program ≡ r.program → AreOneScheme s r
one_scheme s r is_s is_r same =
    let flow = subst (λ (p : ProgramView). IsLeastFlow (InSets r.classes.sets) (thread_actions p)) (sym same)
    is_r.flow in
    let sites = subst (λ (p : ProgramView). r.classes.sets.sites ≡ length (sites_of p.globals p.texts)) (sym same)
    is_r.sites in
    let to = least_within s.classes.sets r.classes.sets (thread_actions s.program) is_s.flow flow is_r.parted.below
    is_r.parted.slots in
    let from = least_within r.classes.sets s.classes.sets (thread_actions s.program) flow is_s.flow is_s.parted.below
    is_s.parted.slots in
    let long : length s.classes.numbers ≡ length r.classes.numbers = is_s.parted.sites ∙ is_s.sites ∙ sym sites
    ∙ sym is_r.parted.sites in
    record {
      numbers = ext_get_or 0 s.classes.numbers r.classes.numbers long
          (same_below s.classes r.classes is_s.parted is_r.parted long to from (length s.classes.numbers)
          (omega arith));
      sets = λ h site. (to h site, from h site);
      guards = same_guards s.program s.guards r.guards is_s.guarded
          (subst (λ (p : ProgramView). AreGuards p r.guards) (sym same) is_r.guarded);
      graphs = same_graphs s.program.texts s.graphs r.graphs is_s.graphed
          (subst (λ (p : ProgramView). AreGraphs p.texts r.graphs) (sym same) is_r.graphed);
    }

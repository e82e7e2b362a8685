use Rattle.std.proofs.{Common.{◌≡◌, ◌<◌, ℕ, List, length, map, refl, sym, ap, subst, ◌∙◌}, lemmas.List.{length-map}}
use Rattle.std.specs.Prelude.{All}
use Rattle.sect_front.specs.{FaultPlaces.{IsWithin}, TreeView.{TreeView}}
use Rattle.sect_types.specs.Items.{items}
use Rattle.sect_places.specs.{Items.{AreItemSpans}, NodeSpans.{item_span, node_span, IsNodeWithin}}
use Rattle.sect_places.proofs.Lining.{threads_placed, sections_placed}
use Rattle.sect_places.proofs.Spanning.{texts_within, items_within, atomics_within}
use Rattle.sect_places.proofs.origin_spans.node_spans.Goals as goal

pub texts_spans-requires : goal.texts_spans-requires
texts_spans-requires c =
    threads_placed c.args.program.now (length c.as_slice.result.now)
    (ap length c.as_slice.ensures.value ∙ c.in_ok-spans.ensures.many
    ∙ ap (λ (t : TreeView). length (items t)) c.tree.ensures.tree)
    c.in_ok-origins.origins c.in_ok-origins.ensures c.threads.result.now c.threads.ensures

pub texts_spans-requires-2 : goal.texts_spans-requires-2
texts_spans-requires-2 c =
    sections_placed c.args.program.now (length c.as_slice-2.result.now)
    (ap length c.as_slice-2.ensures.value ∙ c.in_ok-spans.ensures.many
    ∙ ap (λ (t : TreeView). length (items t)) c.tree.ensures.tree)
    c.in_ok-origins.origins c.in_ok-origins.ensures c.sections.result.now c.sections.ensures

pub items_spans-requires : goal.items_spans-requires
items_spans-requires c =
    let t = c.args.program.now.source in
    let heads = c.in_ok-heads.heads.items in
    subst (λ (ns : List ℕ). All (λ n. n < length c.as_slice-3.result.now) ns) (sym c.as_slice-4.ensures.value)
    (atomics_within t heads c.in_ok-heads.ensures.atomic (length c.as_slice-3.result.now)
    (ap length c.as_slice-3.ensures.value ∙ c.in_ok-spans.ensures.many
    ∙ ap (λ (t : TreeView). length (items t)) c.tree.ensures.tree))

pub returns : goal.returns
returns c =
    let p = c.args.program.now in
    let source = c.args.source.now in
    let spans = c.in_ok-spans.spans.items in
    let o = c.in_ok-origins.origins in
    let origins = c.in_ok-origins.ensures in
    let many : length spans ≡ length (items p.source) =
    c.in_ok-spans.ensures.many ∙ ap (λ (t : TreeView). length (items t)) c.tree.ensures.tree in
    let proper = c.in_ok-spans.ensures.proper in
    let threads = c.in_ok-threads.ensures
    ∙ ap (λ ss. map (map (node_span ss)) c.threads.result.now) c.as_slice.ensures.value
    ∙ ap (map (map (node_span spans))) c.threads.ensures in
    let sections = c.in_ok-sections.ensures
    ∙ ap (λ ss. map (map (node_span ss)) c.sections.result.now) c.as_slice-2.ensures.value
    ∙ ap (map (map (node_span spans))) c.sections.ensures in
    let items_are = c.in_ok-heads-2.ensures
    ∙ ap (λ ss. map (item_span ss) c.as_slice-4.result.now) c.as_slice-3.ensures.value
    ∙ ap (map (item_span spans)) c.as_slice-4.ensures.value in
    let heads = c.in_ok-heads.heads.items in
    record {
      spans = spans;
      placed = subst (λ (t : TreeView). AreItemSpans source t spans) c.tree.ensures.tree c.in_ok-spans.ensures;
      threads_are = threads ∙ ap (map (map (node_span spans))) origins.threads_are;
      sections_are = sections ∙ ap (map (map (node_span spans))) origins.sections_are;
      heads_are = items_are ∙ ap (map (item_span spans)) c.in_ok-heads.ensures.are;
      thread_count = ap length threads ∙ length-map o.threads (map (node_span spans)) ∙ origins.thread_count;
      section_count = ap length sections ∙ length-map o.sections (map (node_span spans)) ∙ origins.section_count;
      head_count = ap length items_are ∙ length-map heads (item_span spans) ∙ c.in_ok-heads.ensures.many;
      threads_within = subst (All (All (IsNodeWithin (length source)))) (sym threads)
          (texts_within (length source) spans proper o.threads
          (threads_placed p (length spans) many o origins o.threads refl));
      sections_within = subst (All (All (IsNodeWithin (length source)))) (sym sections)
          (texts_within (length source) spans proper o.sections
          (sections_placed p (length spans) many o origins o.sections refl));
      heads_within = subst (All (IsWithin (length source))) (sym items_are)
          (items_within (length source) spans proper heads
          (atomics_within p.source heads c.in_ok-heads.ensures.atomic (length spans) many));
    }

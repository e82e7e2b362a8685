use Rattle.std.proofs.{Common.{◌≡◌, map, length, sym, ap, subst, ◌∙◌}, lemmas.List.{length-map}}
use Rattle.std.proofs.lemmas.Result.{IfOk-weaker}
use Rattle.sect_front.specs.{TreeView.{TreeView}, declared.span.Span.{Span}}
use Rattle.sect_types.specs.Items.{items}
use Rattle.sect_places.specs.{Positions.{position}, Items.{AreItemSpans}, NodeLines.{node_line, beginnings}}
use Rattle.sect_places.proofs.Lining.{sections_placed}
use Rattle.sect_places.proofs.lines.node_lines.Goals as goal

pub section_lines-requires : goal.section_lines-requires
section_lines-requires c =
    let source = c.args.source.now in
    let spans = c.in_ok-spans.spans.items in
    let many : length spans ≡ length (items c.args.program.now.source) = c.in_ok-spans.ensures.many
    ∙ ap (λ (t : TreeView). length (items t)) c.tree.ensures.tree in
    let places : length c.as_slice-2.result.now ≡ length spans =
    ap length (c.as_slice-2.ensures.value ∙ c.in_ok-places.ensures)
    ∙ length-map c.as_slice.result.now (λ (s : Span). position source s.start)
    ∙ ap length c.as_slice.ensures.value in
    sections_placed c.args.program.now (length c.as_slice-2.result.now) (places ∙ many) c.in_ok-origins.origins
    c.in_ok-origins.ensures c.sections.result.now c.sections.ensures

pub returns-clause-are : goal.returns-clause-are
returns-clause-are c =
    let source = c.args.source.now in
    let spans = c.in_ok-spans.spans.items in
    let places = c.as_slice-2.ensures.value ∙ c.in_ok-places.ensures
    ∙ ap (beginnings source) c.as_slice.ensures.value in
    IfOk-weaker c.section_lines.result _ _
    (λ lines h. record {
      spans = spans;
      placed = subst (λ (t : TreeView). AreItemSpans source t spans) c.tree.ensures.tree c.in_ok-spans.ensures;
      are = h ∙ ap (λ ps. map (map (node_line ps)) c.sections.result.now) places
          ∙ ap (map (map (node_line (beginnings source spans))))
          (c.sections.ensures ∙ c.in_ok-origins.ensures.sections_are);
    }) c.section_lines.ensures

pub returns-clause-count : goal.returns-clause-count
returns-clause-count c =
    IfOk-weaker c.section_lines.result _ _
    (λ lines h. sym (length-map lines.items (λ v. v.items)) ∙ ap length h
    ∙ length-map c.sections.result.now (map (node_line c.as_slice-2.result.now))
    ∙ ap length c.sections.ensures ∙ c.in_ok-origins.ensures.section_count) c.section_lines.ensures

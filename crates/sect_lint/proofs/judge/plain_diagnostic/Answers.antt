use Rattle.std.proofs.Common.{◌≡◌, ◌<◌, length, map, subst, sym, ap, ◌∙◌, arith}
use Rattle.sect_front.specs.FaultPlaces.{token_span, IsWithin}
use Rattle.sect_places.specs.{Ranges.{range}, Spans.{span_in}}
use Rattle.sect_places.proofs.shared.{Naming.{all_names}, Ordered.{span_proper}}
use Rattle.sect_lint.specs.{Places.{of_types, item_number, IsMarked}, Details.{own_tokens, own_spans, item_detail}}
use Rattle.sect_lint.specs.steps.Laid.{IsOwnOpening}
use Rattle.sect_lint.proofs.{Marked.{detail_within, told_within}, Plainly.{marked_whole}}
use Rattle.sect_lint.proofs.Worded.{own_span_is, opened_span, some_kept}
use Rattle.sect_lint.proofs.judge.plain_diagnostic.Goals as goal

pub opening_of-requires-clause-there : goal.opening_of-requires-clause-there
opening_of-requires-clause-there c = rw (c.in_ok-item.ensures, c.of_types-culprit.ensures) c.requires.there

pub opening_span-span-requires : goal.opening_span-span-requires
opening_span-span-requires c =
    let source = c.args.text.bytes.now in
    let tree = c.args.mistyped.now.tree in
    let laid = c.in_ok-opening.ensures in
    some_kept _ _ c.in_ok-opening.opening (laid.opening c.requires.spelled)
    (omega (arith, laid.many c.requires.spelled, laid.some))

pub returns : goal.returns
returns c =
    let source = c.args.text.bytes.now in
    let fault = c.args.mistyped.now.fault in
    let tree = c.args.mistyped.now.tree in
    let all = all_names source tree c.requires.spelled in
    let names = all.0 in
    let are = all.1 in
    let o = c.in_ok-opening.opening in
    let item = item_number tree (of_types fault) in
    let at : c.in_ok-item.item ≡ item = c.in_ok-item.ensures ∙ ap (item_number tree) c.of_types-culprit.ensures in
    let laid : IsOwnOpening source tree item o =
    subst (λ n. IsOwnOpening source tree n o) at c.in_ok-opening.ensures in
    let tokens = own_tokens tree item in
    let spans = own_spans tree (map token_span are.spelled.places) item in
    let opened = laid.opening are.spelled in
    let some : 0 < length spans = omega (arith, laid.many are.spelled, laid.some) in
    let plain = c.in_ok-detail.ensures c.requires.plain tokens spans opened names are.uses in
    let span = c.opening_span-span.result in
    let whole = range 0 (length spans) in
    let is : span ≡ span_in spans whole = c.opening_span-span.ensures ∙ opened_span tokens spans o opened some in
    let proper = span_proper (length source) spans whole (laid.order are.spelled) some (omega arith) in
    record {
      mistake = c.requires.mistake;
      place = (
        tree,
        names,
        are,
        subst (λ n. IsMarked source tree c.args.mistake (of_types fault) n span) (sym plain.1)
            (own_span_is source tree c.args.mistake (of_types fault) are.spelled c.requires.there spans
            (λ _. spans) (laid.many are.spelled) some span
            (is ∙ ap (span_in spans) (sym (marked_whole fault c.args.mistake c.requires.mistake c.requires.plain
            whole)))),
      );
      within = subst (IsWithin (length source)) (sym is) (omega (arith, proper.0), proper.1);
      detail = (tree, names, are, plain.0);
      told_within = told_within (length source) names are.proper fault (item_detail tree names tokens spans fault)
          c.in_ok-detail.detail
          (detail_within (length source) names are.proper tree tokens spans (laid.order are.spelled) fault) plain.0;
    }

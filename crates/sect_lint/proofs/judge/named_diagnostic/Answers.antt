use Rattle.std.proofs.Common.{◌≡◌, length, map, subst, ap, ◌∙◌}
use Rattle.std.specs.Prelude.{MatchOption}
use Rattle.sect_front.specs.FaultPlaces.{token_span}
use Rattle.sect_places.specs.Mattering.{wanted}
use Rattle.sect_lint.specs.Places.{of_types, item_number, marked_name}
use Rattle.sect_lint.specs.{Details.{IsToldOf, own_tokens, own_spans, item_detail}, declared.diagnostic.Detail.{Detail}}
use Rattle.sect_lint.specs.steps.{Laid.{AreOwnWords}, Wishes.{IsWish}}
use Rattle.sect_lint.proofs.KeepingTold.{marked_same, detail_same, told_more}
use Rattle.sect_lint.proofs.{Marked.{is_marked, marked_within, detail_within, told_within}, Worded.{item_span_is}}
use Rattle.sect_lint.proofs.judge.named_diagnostic.Goals as goal

pub told_by-requires-clause-there : goal.told_by-requires-clause-there
told_by-requires-clause-there c = rw (c.in_ok-item.ensures, c.of_types-culprit.ensures) c.requires.there

pub returns : goal.returns
returns c =
    let source = c.args.text.bytes.now in
    let fault = c.args.mistyped.now.fault in
    let tree = c.args.mistyped.now.tree in
    let some = c.in_ok-told.told.names.items in
    let names = c.in_ok-told.ensures.names.0 in
    let are = c.in_ok-told.ensures.names.1 in
    let words = c.in_ok-told.told.words in
    let item = item_number tree (of_types fault) in
    let at : c.in_ok-item.item ≡ item = c.in_ok-item.ensures ∙ ap (item_number tree) c.of_types-culprit.ensures in
    let which = c.in_ok-wish.wish in
    let wish : IsWish tree item fault which = subst (λ i. IsWish tree i fault which) at c.in_ok-wish.ensures in
    let taken : some ≡ wanted which names = c.in_ok-told.ensures.names.2 in
    let laid : AreOwnWords source tree item words =
    subst (λ n. AreOwnWords source tree n words) at c.in_ok-told.ensures.words in
    let whole = c.item_span-whole.result in
    let span = c.marked_span-span.result in
    let marked : MatchOption (marked_name names fault) (span ≡ whole) (λ n. span ≡ n.span) =
    subst (λ o. MatchOption o (span ≡ whole) (λ n. span ≡ n.span))
    (marked_same tree fault names some which are.uses wish taken)
    (rw c.as_slice-names.ensures.value at c.marked_span-span.ensures) in
    let said : IsToldOf some fault (item_detail tree some words.tokens.items words.spans.items fault)
    c.in_ok-detail.detail = rw c.as_slice-names.ensures.value at c.in_ok-detail.ensures in
    let told : IsToldOf names fault (item_detail tree names words.tokens.items words.spans.items fault)
    c.in_ok-detail.detail =
    told_more tree fault names some which taken (item_detail tree names words.tokens.items words.spans.items fault)
    c.in_ok-detail.detail
    (subst (λ (d : Detail). IsToldOf some fault d c.in_ok-detail.detail)
    (detail_same tree words.tokens.items words.spans.items fault names some which wish taken) said) in
    let other : item_detail tree names words.tokens.items words.spans.items fault
    ≡ item_detail tree names (own_tokens tree item) (own_spans tree (map token_span are.spelled.places) item) fault =
    ap (λ ts. item_detail tree names ts words.spans.items fault) laid.tokens
    ∙ ap (λ ss. item_detail tree names (own_tokens tree item) ss fault) (laid.spans are.spelled) in
    record {
      mistake = c.requires.mistake;
      place = (
        tree,
        names,
        are,
        is_marked source tree c.args.mistake (of_types fault) (marked_name names fault) whole span
            (item_span_is source tree c.args.mistake (of_types fault) words laid c.requires.there whole
            c.item_span-whole.ensures.is) marked,
      );
      within = marked_within (length source) names are.proper fault whole span
          (c.item_span-whole.ensures.within (length source) laid.order) marked;
      detail = (tree, names, are, subst (λ (d : Detail). IsToldOf names fault d c.in_ok-detail.detail) other told);
      told_within = told_within (length source) names are.proper fault
          (item_detail tree names words.tokens.items words.spans.items fault) c.in_ok-detail.detail
          (detail_within (length source) names are.proper tree words.tokens.items words.spans.items laid.order fault)
          told;
    }

use Rattle.std.proofs.Common.{◌≡◌, ◌<◌, length, subst, sym, refl, ap, ◌∙◌}
use Rattle.sect_front.specs.TreeView.{TreeView}
use Rattle.sect_types.specs.Items.{items}
use Rattle.sect_lint.specs.Places.{of_scheme, item_number}
use Rattle.sect_lint.proofs.{Faulty.{broken_within, scheme_known}, Worded.{item_span_is}}
use Rattle.sect_lint.specs.steps.Laid.{AreOwnWords}
use Rattle.sect_lint.proofs.judge.hints_diagnostic.Goals as goal

pub words_of-requires-clause-there : goal.words_of-requires-clause-there
words_of-requires-clause-there c =
    let program = c.args.program.now in
    let fault = c.args.fault.now in
    rw (c.in_ok-item.ensures, c.of_scheme-culprit.ensures)
    (subst (λ (t : TreeView). item_number t (of_scheme fault) < length (items t)) (sym c.tree-tree.ensures.tree)
    (broken_within program c.requires.refused.0 fault (scheme_known fault c.in-Some.mistake c.in-Some.ensures)
    c.requires.known c.requires.refused.1))

pub returns-clause-told : goal.returns-clause-told
returns-clause-told c =
    let source = c.args.text.bytes.now in
    let fault = c.args.fault.now in
    let program = c.args.program.now in
    let tree = c.tree-tree.result.now in
    let words = c.in_ok-words.words in
    let there = subst (λ (t : TreeView). item_number t (of_scheme fault) < length (items t))
    (sym c.tree-tree.ensures.tree)
    (broken_within program c.requires.refused.0 fault (scheme_known fault c.in-Some.mistake c.in-Some.ensures)
    c.requires.known c.requires.refused.1) in
    let at : c.in_ok-item.item ≡ item_number tree (of_scheme fault) =
    c.in_ok-item.ensures ∙ ap (item_number tree) c.of_scheme-culprit.ensures in
    let laid = subst (λ n. AreOwnWords source tree n words) at c.in_ok-words.ensures in
    record {
      mistake = sym c.in-Some.ensures;
      place = (
        tree,
        item_span_is source tree c.in-Some.mistake (of_scheme fault) words laid there c.item_span-span.result
            c.item_span-span.ensures.is,
      );
      within = c.item_span-span.ensures.within (length source) laid.order;
      detail = refl;
      told_within = tt;
    }

use Rattle.std.proofs.Common.{◌≡◌, ◌<◌, get_or, length, refl, sym, ◌∙◌, subst, arith}
use Rattle.std.proofs.lemmas.List.{get_or_default}
use Rattle.std.specs.String.{string_bytes}
use Rattle.sect_types.specs.Items.{items}
use Rattle.sect_places.specs.Spans.{no_span}
use Rattle.sect_warnings.specs.steps.Trials.{BareView, IsBareMark}
use Rattle.sect_warnings.proofs.Placing.{ArePut, IsBarePut, all_placed, all_put, no_warning, one_put, within}
use Rattle.sect_warnings.proofs.place.some_places.Goals as goal

pub mark_of-requires-clause-due : goal.mark_of-requires-clause-due
mark_of-requires-clause-due c = c.requires.due c.loop-warning.warning-index _ c.loop-warning-test.true

pub mark_of-requires-clause-names : goal.mark_of-requires-clause-names
mark_of-requires-clause-names c = c.requires.names.proper

pub loop-warning-preserved : goal.loop-warning-preserved
loop-warning-preserved c =
    let v = c.args.accepted.compiled.now in
    let source = c.args.accepted.source.now in
    let names = c.args.accepted.names.now in
    let spans = c.in_ok-spans.spans.items in
    let found = c.args.found.now in
    let tree : c.tree-tree.result.now ≡ v.scheme.program.source =
    rw (c.program-program.ensures, c.scheme.ensures) at c.tree-tree.ensures.tree in
    let w = get_or found c.loop-warning.warning-index no_warning in
    let inside = c.item.inside in
    let mark : BareView = record {
      item = inside.item;
      label = string_bytes inside.label;
      note = string_bytes inside.note;
      trial = inside.trial;
    } in
    let there = subst (λ (m : BareView). m.item < length (items v.scheme.program.source)) (sym c.item.view_is)
    c.in_ok-item.ensures.within in
    let many = (rw tree at c.in_ok-spans.ensures).many in (
      rw (c.in_ok-push.ensures.items, c.in_ok-push-2.ensures.items)
          (one_put source names v spans found c.loop-warning.warning-index c.loop-warning.placed.items
          c.loop-warning.trials.items c.new.result inside.trial c.loop-warning.invariant.0
          (subst (λ p. IsBarePut source names v spans w p inside.trial) (sym c.new.ensures) (record {
            told = refl;
            mark = mark;
            marks = subst (IsBareMark source names v w) (sym c.item.view_is) c.in_ok-item.ensures.marks;
            there = omega (arith, there, many);
            span = c.index.ensures ∙ get_or_default spans inside.item _ no_span (omega (arith, there, many));
            label = refl;
            note = refl;
            trial = refl;
          }))),
      c.in_ok-item.ensures.reasons,
      c.in_ok-item.ensures.deep,
    )

pub returns-clause-placed : goal.returns-clause-placed
returns-clause-placed c = λ spelled.
    let v = c.args.accepted.compiled.now in
    let source = c.args.accepted.source.now in
    let names = c.args.accepted.names.now in
    let spans = c.in_ok-spans.spans.items in
    let tree : c.tree-tree.result.now ≡ v.scheme.program.source =
    rw (c.program-program.ensures, c.scheme.ensures) at c.tree-tree.ensures.tree in
    let found = c.args.found.now in
    let all : c.loop-warning.warning-index ≡ length found = omega arith in
    let put = all_put source names v spans found c.loop-warning.placed.items c.try_hints.new.placed.items
    c.loop-warning.trials.items
    (subst (λ m. ArePut source names v spans found m c.loop-warning.placed.items c.loop-warning.trials.items) all
    c.loop-warning.invariant.0) (rw c.as_slice.ensures.value at c.in_ok-try_hints.ensures) in
    all_placed source names v spans (rw tree at c.in_ok-spans.ensures) spelled found c.try_hints.new.placed.items put

pub returns-clause-within : goal.returns-clause-within
returns-clause-within c =
    let v = c.args.accepted.compiled.now in
    let source = c.args.accepted.source.now in
    let names = c.args.accepted.names.now in
    let spans = c.in_ok-spans.spans.items in
    let tree : c.tree-tree.result.now ≡ v.scheme.program.source =
    rw (c.program-program.ensures, c.scheme.ensures) at c.tree-tree.ensures.tree in
    let found = c.args.found.now in
    let all : c.loop-warning.warning-index ≡ length found = omega arith in
    let put = all_put source names v spans found c.loop-warning.placed.items c.try_hints.new.placed.items
    c.loop-warning.trials.items
    (subst (λ m. ArePut source names v spans found m c.loop-warning.placed.items c.loop-warning.trials.items) all
    c.loop-warning.invariant.0) (rw c.as_slice.ensures.value at c.in_ok-try_hints.ensures) in
    within source names v spans (rw tree at c.in_ok-spans.ensures) found c.try_hints.new.placed.items put

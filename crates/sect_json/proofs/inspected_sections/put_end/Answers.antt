use Rattle.std.proofs.{Common.{◌++◌, refl, sym, ap, ◌∙◌}, lemmas.Bool.{or_from}, lemmas.Option.{get_or_from_slice_get}}
use Rattle.std.proofs.lemmas.Result.{on_ok_weaker}
use Rattle.std.specs.Prelude.{slice_index_or}
use Rattle.serde_json.specs.{View.{view}, Written.{has_float}}
use Rattle.sect_places.specs.Spans.{no_span}
use Rattle.sect_lint.specs.Json.{span_json}
use Rattle.sect_json.specs.Compiling.{plan_json}
use Rattle.sect_json.specs.steps.{Sectioned.{end_with}, Writes.{tail_text}}
use Rattle.sect_json.proofs.PlainCompiling.{plain_plan}
use Rattle.sect_json.proofs.inspected_sections.put_end.Goals as goal

pub put_tail-requires-clause-plain : goal.put_tail-requires-clause-plain
put_tail-requires-clause-plain c =
    ap has_float c.in_ok-value.ensures
    ∙ or_from _ _ (ap has_float c.in_ok-place.ensures)
    (or_from _ _ (ap has_float c.in_ok-plan.ensures ∙ plain_plan c.args.of.now.compiled.now c.args.section) refl)

pub returns : goal.returns
returns c =
    let of = c.args.of.now in
    let v = of.compiled.now in
    let i = c.args.section in
    let heads = of.spans.now.heads in
    let place = span_json of.source.now (slice_index_or heads i no_span) in
    let thread = c.section_thread-thread.result in
    on_ok_weaker c.put_tail.result (λ h. h ∙ ap (λ d. c.args.out.now.items ++ tail_text d)
    (c.in_ok-value.ensures
    ∙ (ap (λ p. end_with p (view c.in_ok-plan.plan) i thread) (c.in_ok-place.ensures
    ∙ ap (span_json of.source.now) (sym (get_or_from_slice_get heads i c.head.result no_span c.head.ensures)))
    ∙ (ap (λ p. end_with place p i thread) c.in_ok-plan.ensures
    ∙ ap (end_with place (plan_json v i) i) c.section_thread-thread.ensures)))) c.put_tail.ensures

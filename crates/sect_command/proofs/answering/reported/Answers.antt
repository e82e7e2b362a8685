-- Each text is reported on, in order.
use Rattle.std.proofs.Common.{arith, ◌≡◌, ◌<◌, ◌∙◌, [], map, drop, get_or, length, eqb-true}
use Rattle.std.proofs.Common.{refl, sym, subst, ap}
use Rattle.std.proofs.lemmas.List.{drop_all, nil_from_length}
use Rattle.std.specs.Prelude.{◌==◌}
use Rattle.std.specs.String.{string_bytes}
use Rattle.sect_command.specs.{Reporting.{AddsText, AddsTexts, IsEmpty, IsGiven, or_input}, Requests.{input_name}}
use Rattle.sect_command.specs.declared.report.Report.{Report}
use Rattle.sect_command.proofs.Names.{names_left, none_named, or_input_is}
use Rattle.sect_command.proofs.answering.reported.Goals.{then-is_empty+in_ok-add_text, else-is_empty}
use Rattle.sect_command.proofs.answering.reported.Goals as goal

pub loop-name-init : goal.loop-name-init
loop-name-init g c =
    let start : Report = record { status = 0; text = c.new.result; complaints = c.new-2.result } in
    let empty : IsEmpty start =
    record { status = refl; text = c.new.ensures.items; complaints = c.new-2.ensures.items } in
    let files = c.args.asked.now.files.items in
    let bytes = g.T.Texts.bytes_of c.args.around.now.texts.now in
    let screen = c.args.around.now.screen in
    let given = c.as_slice.result.now in
    let asked = c.args.asked.now in
    let report = c.if-is_empty.report in
    let count : length files ≡ asked.files.len = omega (arith, asked.files.ok) in
    elim c.if-is_empty.branch [
      | then-is_empty+in_ok-add_text w ↦ (
          let none : files ≡ [] = nil_from_length files
          (eqb-true (length files) 0 (ap (λ n. n == 0) count ∙ sym c.is_empty.ensures ∙ w.if-is_empty.true)) in
          let added : AddsText bytes screen given asked input_name start report =
          subst (λ r. AddsText bytes screen given asked input_name start r) (sym w.report-is)
          w.in_ok-add_text.ensures in (
            start,
            empty,
            λ after more. (
                let left =
                subst (λ xs. AddsTexts bytes screen given asked (map string_bytes xs) report after) none more in
                subst (λ xs. AddsTexts bytes screen given asked (or_input (map string_bytes xs)) start after) (sym none)
                (report, added, left)
                ),
          )
          )
      | else-is_empty w ↦ (
          let some : map string_bytes files ≡ [] → ⊥ = λ e. (
          let none = none_named string_bytes files e in
          let is = c.is_empty.ensures ∙ ap (λ n. n == 0) (sym count ∙ ap length none) in
          let not = w.if-is_empty.false in absurd cc
          ) in
          let same : start ≡ report = sym w.report-is in (
            start,
            empty,
            λ after more. subst (λ names. AddsTexts bytes screen given asked names start after)
                (sym (or_input_is (map string_bytes files) some))
                (subst (λ r. AddsTexts bytes screen given asked (map string_bytes files) r after) (sym same) more),
          )
          )
    ]

pub loop-name-preserved : goal.loop-name-preserved
loop-name-preserved g c =
    let files = c.args.asked.now.files.items in
    let bytes = g.T.Texts.bytes_of c.args.around.now.texts.now in
    let screen = c.args.around.now.screen in
    let given = c.as_slice.result.now in
    let asked = c.args.asked.now in
    let i = c.loop-name.name-index in
    let before = c.loop-name.report in
    let next = c.add_text-in-loop-name.new.report in
    let name = c.name-item.result in
    let within : i < length files = omega arith in
    let is = subst (λ xs. name ≡ get_or xs i name) c.deref-name-items.ensures.value c.name-item.is in
    let left = names_left string_bytes files i name within is in
    let added : AddsText bytes screen given asked (string_bytes name) before next =
    subst (λ n. AddsText bytes screen given asked n before next) c.as_str.ensures.value c.in_ok-add_text-2.ensures in (
      c.loop-name.invariant.0,
      c.loop-name.invariant.1,
      λ after more. c.loop-name.invariant.2 after
          (subst (λ names. AddsTexts bytes screen given asked names before after) (sym left) (next, added, more)),
    )

pub returns : goal.returns
returns g c =
    let files = c.args.asked.now.files.items in
    let none : drop c.loop-name.name-index files ≡ [] = drop_all c.loop-name.name-index files
    (omega (arith, c.loop-name-test.false)) in
    record {
      given = c.as_slice.result.now;
      read = subst (IsGiven (g.I.Read.remaining c.args.input) c.args.asked.now) (sym c.as_slice.ensures.value)
          c.in_ok-given.ensures;
      start = c.loop-name.invariant.0;
      empty = c.loop-name.invariant.1;
      texts = c.loop-name.invariant.2 c.loop-name.report
          (subst (λ xs. AddsTexts (g.T.Texts.bytes_of c.args.around.now.texts.now) c.args.around.now.screen
          c.as_slice.result.now c.args.asked.now (map string_bytes xs) c.loop-name.report c.loop-name.report)
          (sym none) refl);
    }

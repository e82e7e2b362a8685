use Rattle.std.proofs.{Common.{ap, ◌∙◌}, lemmas.Result.{IfOk-weaker}}
use Rattle.serde_json.specs.Written.{has_float}
use Rattle.sect_json.specs.{Values.{document_text}, Locks.{sections_json}}
use Rattle.sect_json.proofs.PlainExplaining.{plain_explanation}
use Rattle.sect_json.proofs.explaining.explanation_document.Goals as goal

pub document-requires : goal.document-requires
document-requires c =
    let told = c.in_ok-sections.ensures in
    ap has_float (c.in_ok-value.ensures ∙ ap sections_json told.told)
    ∙ plain_explanation c.args.compiled.now told.all

pub returns : goal.returns
returns c =
    let told = c.in_ok-sections.ensures in
    IfOk-weaker c.document.result _ _
    (λ text h. record {
      all = told.all;
      chained = told.chained;
      counted = told.counted;
      printed = h ∙ ap document_text (c.in_ok-value.ensures ∙ ap sections_json told.told);
    }) c.document.ensures

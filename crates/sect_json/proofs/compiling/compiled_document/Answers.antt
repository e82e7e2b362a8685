use Rattle.std.proofs.{Common.{length, map, ap, ◌∙◌}, lemmas.Result.{IfOk-weaker}}
use Rattle.std.specs.List.{range_with_len}
use Rattle.serde_json.specs.{View.{view}, Written.{has_float}}
use Rattle.sect_types.specs.Sections.{sections_of}
use Rattle.sect_json.specs.{Values.{document_text}, Compiling.{section_json, compiled_with}}
use Rattle.sect_json.proofs.PlainCompiling.{plain_compiled}
use Rattle.sect_json.proofs.compiling.compiled_document.Goals as goal

pub document-requires : goal.document-requires
document-requires c =
    let v = c.args.compiled.now in
    let sections = map (section_json v) (range_with_len 0 (length (sections_of v.scheme.program.texts))) in
    ap has_float (c.in_ok-value.ensures
    ∙ (ap (λ ss. compiled_with ss (map view c.in_ok-threads.threads.items)) c.in_ok-sections.ensures
    ∙ ap (compiled_with sections) c.in_ok-threads.ensures)) ∙ plain_compiled v

pub returns : goal.returns
returns c =
    let v = c.args.compiled.now in
    let sections = map (section_json v) (range_with_len 0 (length (sections_of v.scheme.program.texts))) in
    IfOk-weaker c.document.result _ _
    (λ text h. h ∙ ap document_text (c.in_ok-value.ensures
    ∙ (ap (λ ss. compiled_with ss (map view c.in_ok-threads.threads.items)) c.in_ok-sections.ensures
    ∙ ap (compiled_with sections) c.in_ok-threads.ensures))) c.document.ensures

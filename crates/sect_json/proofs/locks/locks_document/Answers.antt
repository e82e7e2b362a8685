use Rattle.std.proofs.{Common.{ap, ◌∙◌}, lemmas.Result.{IfOk-weaker}}
use Rattle.serde_json.specs.Written.{has_float}
use Rattle.sect_json.specs.{Values.{document_text}, Locks.{sections_json}}
use Rattle.sect_json.proofs.PlainLocks.{plain_locks}
use Rattle.sect_json.proofs.locks.locks_document.Goals as goal

pub document-requires : goal.document-requires
document-requires c =
    let v = c.args.compiled.now in
    ap has_float (c.in_ok-value.ensures ∙ ap sections_json c.in_ok-sections.ensures)
    ∙ plain_locks v.scheme.program.source v.sets

pub returns : goal.returns
returns c =
    IfOk-weaker c.document.result _ _
    (λ text h. h ∙ ap document_text (c.in_ok-value.ensures ∙ ap sections_json c.in_ok-sections.ensures))
    c.document.ensures

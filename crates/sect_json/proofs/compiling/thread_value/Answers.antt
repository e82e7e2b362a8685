use Rattle.std.proofs.{Common.{◌≡◌, ◌++◌, ap, ◌∙◌}, lemmas.Result.{IfOk-weaker}}
use Rattle.std.specs.String.{string_bytes}
use Rattle.serde_json.specs.View.{view}
use Rattle.sect_types.specs.Programs.{ProgramView}
use Rattle.sect_names.specs.Schemes.{SchemeView}
use Rattle.sect_emit.specs.Labels.{thread_name}
use Rattle.sect_json.specs.Compiling.{thread_with}
use Rattle.sect_json.proofs.compiling.thread_value.Goals as goal

pub returns : goal.returns
returns c =
    let v = c.args.compiled.now in
    let u = c.args.thread in
    let name = thread_name v.scheme.program.source u in
    let program = c.program.ensures ∙ ap (λ (s : SchemeView). s.program) c.scheme.ensures in
    let text : string_bytes c.put_thread_name.new.text ≡ name =
    c.in_ok-put_thread_name.ensures
    ∙ (ap (λ bs. bs ++ thread_name c.program.result.now.source u) c.new-name.ensures.bytes
    ∙ ap (λ (p : ProgramView). thread_name p.source u) program) in
    IfOk-weaker c.told_thread.result _ _
    (λ value h. h ∙ (ap (λ t. thread_with t (view c.in_ok-nodes.nodes) u) text
    ∙ ap (λ d. thread_with name d u) c.in_ok-nodes.ensures)) c.told_thread.ensures

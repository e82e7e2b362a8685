use Rattle.std.proofs.{Common.{◌≡◌, ◌+◌, ◌++◌, map, ap, ◌∙◌}, lemmas.Result.{IfOk-weaker}}
use Rattle.std.specs.{List.{range_with_len}, Prelude.{length}, String.{string_bytes}}
use Rattle.sect_types.specs.Programs.{ProgramView}
use Rattle.sect_names.specs.Schemes.{SchemeView}
use Rattle.sect_emit.specs.{Graphed.{graphed_nodes}, Labels.{thread_name}}
use Rattle.sect_json.specs.{Calls.{calls_json}, Inspecting.{thread_node_json}, Sites.{locals_json}, Values.{list}}
use Rattle.sect_json.specs.steps.Inspected.{thread_told}
use Rattle.sect_json.proofs.SameTold.{same_thread}
use Rattle.sect_emit.specs.declared.graphs.GraphOf.TheVariants as graphed
use Rattle.sect_json.proofs.inspecting.thread_value.Goals as goal

pub returns : goal.returns
returns c =
    let of = c.args.of.now in
    let v = of.compiled.now in
    let u = c.args.thread in
    let t = v.scheme.program.source in
    let name = thread_name t u in
    let program = c.program-program.ensures ∙ ap (λ (s : SchemeView). s.program) c.scheme.ensures in
    let text : string_bytes c.put_thread_name.new.text ≡ name =
    c.in_ok-put_thread_name.ensures
    ∙ (ap (λ bs. bs ++ thread_name c.program-program.result.now.source u) c.new-name.ensures.bytes
    ∙ ap (λ (p : ProgramView). thread_name p.source u) program) in
    IfOk-weaker c.told_thread.result _ _
    (λ value h. h ∙ same_thread
    (thread_told (record {
      calls = c.in_ok-thread_calls.field-0;
      locals = c.in_ok-locals_value.field-0;
      name = c.put_thread_name.new.text;
      nodes = c.in_ok-thread_nodes.field-0;
    }))
    (record {
      calls = calls_json of.source.now of.names.now (length t.procedures) name;
      locals = locals_json v u;
      name = name;
      nodes = list (map (thread_node_json v of.source.now of.spans.now u)
          (range_with_len 0 (length (graphed_nodes v (graphed.Thread u)) + 1)));
    })
    u c.in_ok-thread_calls.ensures c.in_ok-locals_value.ensures text c.in_ok-thread_nodes.ensures)
    c.told_thread.ensures

use Rattle.std.proofs.Common.{◌≡◌, ◌<◌, ◌∙◌, [], List, length, map, sym, ap, arith}
use Rattle.std.proofs.{lemmas.List.{get_or-map, length-map}, lemmas.Result.{IfOk-weaker}}
use Rattle.std.specs.Prelude.{slice_index_or}
use Rattle.sect_front.specs.{TreeView.{TreeView}, declared.tree.Thread.{Thread}}
use Rattle.sect_types.specs.{Expanded.{local_types_of}, Programs.{ProgramView}}
use Rattle.sect_names.specs.Schemes.{SchemeView}
use Rattle.sect_emit.specs.Labels.{thread_name}
use Rattle.sect_json.specs.Calls.{calls_json}
use Rattle.sect_json.proofs.inspecting.thread_calls.Goals as goal

pub returns : goal.returns
returns c =
    let of = c.args.of.now in
    let v = of.compiled.now in
    let u = c.args.thread in
    let threads = c.threads.result.now in
    let x = slice_index_or threads u c.index-threads-thread.result in
    let program = c.program-program.ensures ∙ ap (λ (s : SchemeView). s.program) c.scheme.ensures in
    let tree = c.tree-tree.ensures.tree ∙ ap (λ (p : ProgramView). p.source) program in
    let within : u < length threads =
    omega (
      arith,
      c.requires.thread,
      ap (λ (p : ProgramView). length p.texts) program,
      c.facts.ensures.limits.as_many,
      ap length c.tree-tree.ensures.numbers.locals_are,
      length-map c.program-program.result.now.source.threads (local_types_of c.program-program.result.now.source),
      ap (λ (t : TreeView). length t.threads) c.tree-tree.ensures.tree,
      ap length c.threads.ensures,
    ) in
    let name : x.name ≡ thread_name v.scheme.program.source u =
    sym (get_or-map (λ (h : Thread). h.name) threads u c.index-threads-thread.result [] within)
    ∙ (ap (λ (hs : List Thread). slice_index_or (map (λ (h : Thread). h.name) hs) u []) c.threads.ensures
    ∙ ap (λ (t : TreeView). thread_name t u) tree) in
    let many = ap length c.procedures.ensures ∙ ap (λ (t : TreeView). length t.procedures) tree in
    IfOk-weaker c.calls_value.result _ _
    (λ value h. h ∙ (ap (λ n. calls_json of.source.now of.names.now n x.name) many
    ∙ ap (calls_json of.source.now of.names.now (length v.scheme.program.source.procedures)) name))
    c.calls_value.ensures

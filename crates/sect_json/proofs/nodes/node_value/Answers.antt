use Rattle.std.proofs.{Common.{◌≡◌, ◌++◌, ap, ◌∙◌}, lemmas.Result.{IfOk-weaker}}
use Rattle.std.specs.String.{string_bytes}
use Rattle.sect_emit.specs.Graphed.{graphed_deed}
use Rattle.sect_json.specs.Nodes.{next_at, node_with}
use Rattle.sect_json.proofs.nodes.node_value.Goals as goal

pub returns : goal.returns
returns c =
    let v = c.args.compiled.now in
    let of = c.args.of in
    let n = c.args.node in
    let deed = graphed_deed v of n in
    let text : string_bytes c.put_graphed_node.new.text ≡ deed =
    c.in_ok-put_graphed_node.ensures ∙ ap (λ bs. bs ++ deed) c.new-text.ensures.bytes in
    IfOk-weaker c.told_node.result _ _
    (λ value h. h ∙ (ap (λ d. node_with d n (string_bytes c.put_graphed_node.new.text)) c.in_ok-next.ensures
    ∙ ap (λ t. node_with (next_at v of n) n t) text))
    c.told_node.ensures

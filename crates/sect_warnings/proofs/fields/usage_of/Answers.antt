use Rattle.std.proofs.Common.{◌≡◌, Some, length, ap, ◌∙◌, subst, arith, slice_get}
use Rattle.std.specs.Prelude.{option_map}
use Rattle.sect_graph.specs.{declared.flow.Node.{Node}, Layout.{flow_nodes}}
use Rattle.sect_emit.specs.Explaining.{section_at}
use Rattle.sect_warnings.specs.Fields.{fields_to, stored, used, with_field}
use Rattle.sect_warnings.proofs.Using.{fields_more}
use Rattle.sect_warnings.proofs.fields.usage_of.Goals as goal

pub loop-node-preserved : goal.loop-node-preserved
loop-node-preserved c =
    let nodes = flow_nodes (section_at c.args.compiled.now c.args.section).body in
    let j = c.loop-node.node in
    let l = c.action.result in
    let told : option_map (λ (n : Node). n.label) (slice_get nodes j) ≡ Some l =
    subst (λ g. option_map (λ (n : Node). n.label) (slice_get g j) ≡ Some l) c.section_flow-flow.ensures
    c.action.ensures in
    let m = c.action-in-loop-node.result in
    let also : option_map (λ (n : Node). n.label) (slice_get nodes j) ≡ Some m =
    subst (λ g. option_map (λ (n : Node). n.label) (slice_get g j) ≡ Some m) c.section_flow-flow.ensures
    c.action-in-loop-node.ensures in (
      fields_more stored nodes j l c.loop-node.stores.items c.add_field.new.fields.items told c.loop-node.invariant.0
          (c.in_ok-add_field.ensures ∙ ap (with_field c.loop-node.stores.items) c.stored.ensures),
      fields_more used nodes j m c.loop-node.uses.items c.add_field-in-loop-node.new.fields.items also
          c.loop-node.invariant.1
          (c.in_ok-add_field-2.ensures ∙ ap (with_field c.loop-node.uses.items) c.used.ensures),
    )

pub returns : goal.returns
returns c =
    let nodes = flow_nodes (section_at c.args.compiled.now c.args.section).body in
    let many = ap length c.section_flow-flow.ensures in
    let all : c.loop-node.node ≡ length nodes =
    omega (arith, many, c.exit-node-end.ensures.number, c.loop-node-test.false) in
    record {
      stores = c.loop-node.invariant.0 ∙ ap (fields_to stored nodes) all;
      uses = c.loop-node.invariant.1 ∙ ap (fields_to used nodes) all;
    }

use Rattle.std.proofs.Common.{[], ◌∷◌, ◌++◌, length}
use Rattle.std.specs.List.{flat_map}
use Rattle.sect_graph.specs.Layout.{flow_nodes}
use Rattle.sect_emit.specs.Explaining.{section_at}
use Rattle.sect_conflicts.specs.Conflicts.{set_at}
use Rattle.sect_conflicts.proofs.shared.Selecting.{adds_both}
use Rattle.sect_warnings.specs.declared.warning.Finding.TheVariants.{NoLock, AllForOne}
use Rattle.sect_warnings.specs.Warnings.{IsDue, warning, class_at, to_node}
use Rattle.sect_warnings.proofs.judge.add_section.Goals as goal

pub returns : goal.returns
returns c =
    let v = c.args.compiled.now in
    let i = c.args.head.section in
    let item = c.args.head.item in
    let origins = c.args.origins.now in
    let old = c.args.found.now.items in
    let one = c.add_lockless.new.found.items in
    let two = c.add_all_for_one.new.found.items in
    let three = c.add_classes.new.found.items in
    let four = c.add_nodes.new.found.items in
    let classes = flat_map (class_at i item) (set_at v i) in
    let nodes = to_node i (flow_nodes (section_at v i).body) origins (length origins) in
    adds_both (IsDue v) (warning i item NoLock ∷ []) (warning i item AllForOne ∷ classes ++ nodes) old one four
    c.in_ok-add_lockless.ensures
    (adds_both (IsDue v) (warning i item AllForOne ∷ []) (classes ++ nodes) one two four
    c.in_ok-add_all_for_one.ensures
    (adds_both (IsDue v) classes nodes two three four c.in_ok-add_classes.ensures c.in_ok-add_nodes.ensures))

use Rattle.std.proofs.{Common.{◌≡◌, List, Some, length, ap, sym, ◌∙◌, subst, arith, refl}, lemmas.Bool.{ltb-true}}
use Rattle.std.proofs.lemmas.Option.{slice_get_read}
use Rattle.std.specs.Prelude.{slice_get}
use Rattle.sect_front.specs.{TreeView.{TreeView}, declared.tree.Record.{Record}}
use Rattle.sect_types.proofs.shared.Naming.{few_fields}
use Rattle.sect_check.proofs.names.field_named.Goals as goal

pub overflow_cast-result : goal.overflow_cast-result
overflow_cast-result c =
    let p = c.args.program.now in
    let shape = c.in_ok-shape.shape.now in
    let records = c.records.result.now in
    let look = c.in_ok-shape.ensures.lookup in
    let at = slice_get_read records (length records) c.args.of shape refl
    (ltb-true c.args.of (length records) (sym look.0)) look.1 in
    let there = subst (λ (l : List Record). slice_get l c.args.of ≡ Some shape)
    (c.records.ensures ∙ ap (λ (t : TreeView). t.records) c.tree.ensures.tree) at in
    let few = few_fields p c.tree.ensures.numbers c.facts.ensures.limits c.args.of shape there in
    omega (arith, few, c.in_ok-number.ensures.within, ap length c.as_slice.ensures)

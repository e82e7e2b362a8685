use Rattle.std.proofs.Common.{◌≡◌, ◌≤◌, ◌∙◌, List, [], ap, arith, get_or, length}
use Rattle.std.proofs.lemmas.List.{get_or_read}
use Rattle.sect_types.specs.{Limits.{most_all_locals}, declared.declarations.types.ValueType.{ValueType}}
use Rattle.std.proofs.lemmas.List.Elements.{All-get_or}
use Rattle.sect_points.proofs.points.empty_sets.Goals as goal

pub add_thread-requires-clause-few : goal.add_thread-requires-clause-few
add_thread-requires-clause-few c =
    let l = c.loop-locals in
    let locals = c.args.program.now.locals in
    let at : c.locals-item.result ≡ get_or locals l.locals-index [] =
    get_or_read c.locals-locals-items.result.now _ _ (omega arith) c.locals-item.is []
    ∙ ap (λ xs. get_or xs l.locals-index []) l.invariant.items in
    let few : length (get_or locals l.locals-index []) ≤ most_all_locals =
    All-get_or (λ (ts : List ValueType). length ts ≤ most_all_locals) locals l.locals-index []
    (omega (arith, ap length l.invariant.items)) c.facts.ensures.limits.few_locals in
    omega (arith, few, ap length at, ap length c.as_slice.ensures)

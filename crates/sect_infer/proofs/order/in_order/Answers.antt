use Rattle.std.proofs.{Common.{◌≡◌, ◌∙◌, map, sym, ap, subst}, lemmas.Result.{IfOk-weaker}}
use Rattle.sect_infer.specs.Numberings.{IsOrderOf}
use Rattle.sect_infer.proofs.Ordering.{number, sorted_order}
use Rattle.sect_infer.proofs.order.in_order.Goals as goal

pub returns : goal.returns
returns c =
    let keys = c.args.numbering.now.keys in
    let numbers = c.args.numbers.now in
    let sorted = sorted_order keys c.requires.apart numbers c.requires.once c.in_ok-locks.locks.items
    c.sort.new.self.items c.in_ok-locks.ensures.numbers c.in_ok-locks.ensures.locks
    c.sort.ensures.permutation c.in_ok-sort.ensures.sorted in
    IfOk-weaker c.numbers_of.result (λ order. order.items ≡ map number c.as_slice.result.now)
    (λ order. IsOrderOf keys numbers order.items)
    (λ order is. subst (IsOrderOf keys numbers) (sym (is ∙ ap (map number) c.as_slice.ensures.value)) sorted)
    c.numbers_of.ensures

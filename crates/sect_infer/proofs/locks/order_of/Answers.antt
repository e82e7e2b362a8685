use Rattle.std.proofs.{Common.{◌↔◌, ◌<◌, ℕ, length, subst}, lemmas.Result.{IfOk-weaker}}
use Rattle.sect_lemmas.specs.Lists.{Has}
use Rattle.sect_infer.specs.Numberings.{IsOrderOf}
use Rattle.sect_infer.specs.steps.Listing.{IsOrder}
use Rattle.sect_infer.proofs.Listing.{order_of_all}
use Rattle.sect_infer.proofs.locks.order_of.Goals as goal

pub returns : goal.returns
returns c =
    let keys = c.args.numbering.now.keys in
    let lists = c.args.lists.now in
    let given = c.in_ok-listed.listed in
    let numbers = c.in_ok-numbers.numbers.items in
    let below : (n : ℕ) → Has numbers n ↔ ((n < length keys) × Has given n) =
    λ n. subst (λ k. Has numbers n ↔ ((n < k) × Has given n)) c.len-count.ensures (c.in_ok-numbers.ensures.all n) in
    IfOk-weaker c.in_order.result (λ order. IsOrderOf keys c.as_slice.result.now order.items)
    (λ order. IsOrder keys lists order.items)
    (λ order of. order_of_all keys lists given numbers order.items c.in_ok-listed.ensures below
    (subst (λ ns. IsOrderOf keys ns order.items) c.as_slice.ensures.value of)) c.in_order.ensures

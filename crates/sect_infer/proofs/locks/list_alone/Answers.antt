use Rattle.std.proofs.Common.{◌≡◌, ◌↔◌, ◌<◌, ◌∷◌, [], ◌∙◌, ℕ, zero, suc, inr, List, ap, length, map, sym, subst}
use Rattle.std.proofs.lemmas.Result.{IfOk-weaker}
use Rattle.std.specs.{Prelude.{slice_index_or}, Map.Iter.{deref}}
use Rattle.sect_lemmas.specs.Lists.{Has}
use Rattle.sect_infer.specs.steps.Listing.{IsOrder, listed}
use Rattle.sect_infer.specs.Numbers.{with_numbers}
use Rattle.sect_infer.specs.Numberings.{IsOrderOf}
use Rattle.sect_infer.proofs.{Apart.{with_all_has}, Listing.{order_of_all}}
use Rattle.sect_infer.proofs.locks.list_alone.Goals as goal

-- what holds of the numbers of one list holds of those of all, where it stands alone
alone : (ns given : List ℕ) → ((n : ℕ) → Has ns n → Has given n) → (j n : ℕ)
    → Has (slice_index_or (ns ∷ []) j []) n → Has given n
alone ns given each zero n h = each n h
alone ns given each (suc j) n h = absurd h

pub returns : goal.returns
returns c =
    let numbering = c.args.numbering.now in
    let keys = numbering.keys in
    let ns = c.args.numbers.now in
    let given = c.insert_all.new.self in
    let below = c.in_ok-below.below.items in
    let order = c.in_ok-order.order.items in
    let all : (n : ℕ) → Has below n ↔ ((n < length keys) × Has given n) =
    λ n. subst (λ k. Has below n ↔ ((n < k) × Has given n)) c.len-count.ensures (c.in_ok-below.ensures.all n) in
    let once : given ≡ with_numbers [] ns = c.in_ok-insert_all.ensures
    ∙ ap (λ ms. with_numbers ms ns) c.in_ok-found.ensures in
    let each = alone ns given (λ n h. subst (λ ms. Has ms n) (sym once) ((with_all_has [] ns n).1 (inr h))) in
    let of : IsOrderOf keys below order = subst (λ ms. IsOrderOf keys ms order) c.as_slice.ensures.value
    c.in_ok-order.ensures in
    IfOk-weaker c.copies.result (λ locks. locks.items ≡ map deref c.as_slice-3.result.now)
    (λ locks. (x : List ℕ) × IsOrder keys (ns ∷ []) x × (locks.items ≡ listed numbering x ns))
    (λ locks same. (
      order,
      order_of_all keys (ns ∷ []) given below order each all of,
      same ∙ ap (map deref) c.as_slice-3.ensures.value ∙ c.in_ok-locks.ensures
          ∙ ap (λ o. listed numbering o ns) c.as_slice-2.ensures.value,
    ))
    c.copies.ensures

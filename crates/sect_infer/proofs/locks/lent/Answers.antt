use Rattle.std.proofs.Common.{◌≡◌, ◌<◌, ◌≤◌, ◌∙◌, Bool, List, ℕ, [], ◌∷◌, length, get_or, map, sym, ap, arith}
use Rattle.std.proofs.lemmas.List.{get_or_default, take_all, map-append}
use Rattle.std.specs.{List.{filter}, Map.Iter.{deref}}
use Rattle.sect_lemmas.proofs.Membership.{Has-get_or}
use Rattle.sect_infer.specs.{Numbers.{with_numbers}, Numberings.{lock_at}}
use Rattle.sect_infer.specs.steps.Listing.{is_kept}
use Rattle.sect_infer.proofs.{Listing.{list_next, list_skip}, locks.lent.Goals.{then-is_kept+in_ok-push, else-is_kept}}
use Rattle.sect_infer.proofs.locks.lent.Goals as goal

pub is_kept-requires : goal.is_kept-requires
is_kept-requires c =
    let i = c.loop-number.number-index in
    let there = c.requires.numbers (get_or c.args.order.now i 0)
    (Has-get_or c.args.order.now i 0 (omega (arith, c.loop-number-test.true))) in
    omega (arith, there, c.requires.count)

pub lock-requires : goal.lock-requires
lock-requires c =
    let i = c.loop-number.number-index in
    c.requires.numbers (get_or c.args.order.now i 0)
    (Has-get_or c.args.order.now i 0 (omega (arith, c.loop-number-test.true)))

pub loop-number-preserved : goal.loop-number-preserved
loop-number-preserved c =
    let keys = c.args.numbering.now.keys in
    let order = c.args.order.now in
    let i = c.loop-number.number-index in
    let n = get_or order i 0 in
    let within : i < length order = omega (arith, c.loop-number-test.true) in
    let is = get_or_default order i 0 n within in
    let once : List ℕ = with_numbers [] c.args.numbers.now in
    let found : c.insert_all.new.self ≡ once = c.in_ok-insert_all.ensures
    ∙ ap (λ ns. with_numbers ns c.args.numbers.now) c.clear.ensures in
    let p : ℕ → Bool = is_kept c.args.numbering.now.above once in
    let test : c.is_kept.result ≡ p n = c.is_kept.ensures ∙ ap (λ ns. is_kept c.args.numbering.now.above ns n) found in
    elim c.if-is_kept.branch [
      | then-is_kept+in_ok-push w ↦
          let before = c.loop-number.locks.items in
          rw w.locks-is (ap (map deref) w.in_ok-push.ensures.items ∙ map-append deref before (w.lock.result ∷ [])
          ∙ list_next keys p order i n within is (map deref before) w.lock.result.now
          (sym test ∙ w.if-is_kept.true) w.lock.ensures c.loop-number.invariant)
      | else-is_kept w ↦ rw w.locks-is
          (list_skip keys p order i n within is (map deref c.loop-number.locks.items) (sym test ∙ w.if-is_kept.false)
          c.loop-number.invariant)
    ]

pub returns : goal.returns
returns c =
    let past : length c.args.order.now ≤ c.loop-number.number-index = omega (arith, c.loop-number-test.false) in
    c.loop-number.invariant ∙ ap (λ xs. map (lock_at c.args.numbering.now.keys)
    (filter (is_kept c.args.numbering.now.above (with_numbers [] c.args.numbers.now)) xs))
    (take_all c.loop-number.number-index c.args.order.now past)

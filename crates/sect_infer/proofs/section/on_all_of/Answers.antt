use Rattle.std.proofs.{Common.{◌≡◌, ◌+◌, List, ℕ, Some, map, length, sym, subst, arith}, lemmas.Result.{IfOk-weaker}}
use Rattle.std.specs.Prelude.{slice_get}
use Rattle.sect_infer.specs.Sets.{LocksView}
use Rattle.sect_infer.specs.steps.{Found.{AreAllOnAll, IsOnAll}, Listing.{IsOrder, listed}}
use Rattle.sect_infer.proofs.Finding.{are_on_all}
use Rattle.sect_infer.proofs.section.on_all_of.Goals as goal

pub returns : goal.returns
returns c =
    let s = c.args.scheme.now in
    let a = c.number.new.self in
    let lists = c.loop-node.lists in
    let count = length c.args.flow.now + 1 in
    IfOk-weaker c.of.result (λ (locks : LocksView). (order : List ℕ) × IsOrder a.keys lists order
    × (locks.at ≡ map (listed a order) lists) × (slice_get locks.at 0 ≡ Some locks.entry)) (IsOnAll s count)
    (λ locks o. record {
      all = subst (AreAllOnAll s count) (sym o.2)
          (are_on_all s a lists o.0 count c.in_ok-number.number c.in_ok-number.ensures.numbering
          c.in_ok-number.ensures.there o.1 c.loop-node.invariant.count
          (λ j h. c.loop-node.invariant.done j
          (omega (arith, h, c.loop-node-test.false, c.exit-node-end.ensures.number))));
      first = o.3;
    })
    c.of.ensures

use Rattle.std.proofs.Common.{◌≡◌, ◌∙◌, arith, nat_eq, ap, sym, is_some, not, get_or}
use Rattle.std.specs.Cmp.Lexicographic.{pointwise}
use Rattle.indexmap.specs.IndexMap.{get}
use Rattle.sect_types.proofs.Numbering.{numbered, numbered_before, copied}
use Rattle.sect_types.proofs.rules.called.numbers_of.Goals.{then-is_none+in_ok-insert, else-is_none}
use Rattle.sect_types.proofs.rules.called.numbers_of.Goals as goal

pub loop-number-preserved : goal.loop-number-preserved
loop-number-preserved c =
    let ps = c.args.procedures.now in
    let i = c.loop-number.number in
    let p = get_or ps i c.index-procedures-number.result in
    let at : p ≡ get_or ps i p = ap (get_or ps i) c.index-procedures-number.is in
    let some : is_some (get (pointwise nat_eq) c.loop-number.numbers p.name) ≡ not c.is_none.result =
    ap is_some (sym c.get.ensures.value) ∙ (copied c.get.result ∙ c.is_none.ensures) in
    elim c.if-is_none.branch [
      | then-is_none+in_ok-insert w ↦ rw (w.numbers-is) (numbered ps i p (get (pointwise nat_eq) c.loop-number.numbers)
          (get (pointwise nat_eq) w.insert.new.self) (omega arith) at c.loop-number.invariant
          (some ∙ ap not w.if-is_none.true) w.in_ok-insert.ensures.updates.0)
      | else-is_none w ↦ rw (w.numbers-is) (numbered_before ps i p (get (pointwise nat_eq) c.loop-number.numbers)
          (omega arith) at c.loop-number.invariant (some ∙ ap not w.if-is_none.false))
    ]

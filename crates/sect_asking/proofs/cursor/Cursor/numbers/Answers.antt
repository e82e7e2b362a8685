use Rattle.sect_asking.proofs.Listing.{numbers_grow, not_none}
use Rattle.sect_asking.proofs.cursor.Cursor.numbers.Goals as goal

pub loop-self-preserved : goal.loop-self-preserved
loop-self-preserved c = record {
  reads = numbers_grow c.loop-self.numbers.items c.push-in-loop-self.new.self.items c.in_ok-number.number _ _ _ _
      c.in_ok-push-2.ensures.items c.loop-self.invariant.some c.loop-self.invariant.reads
      (c.takes.ensures.taken c.loop-self-test.true) c.in_ok-number.ensures;
  some = not_none c.loop-self.numbers.items c.push-in-loop-self.new.self.items c.in_ok-number.number
      c.in_ok-push-2.ensures.items;
}

use Rattle.std.proofs.{Common.{◌∙◌, length}, lemmas.Iterator.Adapters.{YieldsList-from_vec}}
use Rattle.std.proofs.lemmas.Iterator.Consumers.{YieldsList-turn}
use Rattle.sect_lemmas.proofs.Changed.{get_there}
use Rattle.sect_infer.proofs.Sharing.{one_placed, has_place}
use Rattle.sect_infer.proofs.workers.put_all.Goals as goal

pub put-requires : goal.put-requires
put-requires c =
    let found = c.args.found in
    let given = c.into_iter-section-iterator.ensures.into_iter_gives in
    let all = YieldsList-from_vec found.items given.0 (given.1 ∙ found.ok.0) in
    let turn = YieldsList-turn all c.loop-section.yielded _ c.loop-section.yielded_by c.next.result c.next.new.self
    c.in-Some.field-0 c.in-Some.is c.next.ensures.steps in
    let at = get_there (length c.loop-section.yielded) c.in-Some.field-0 found.items turn.0 turn.1 in
    has_place c.args.scheme.now c.loop-section.places.items c.in-Some.field-0.section c.loop-section.invariant.placed
    (c.requires.found.each (length c.loop-section.yielded) c.in-Some.field-0 at).0

pub loop-section-preserved : goal.loop-section-preserved
loop-section-preserved c =
    let found = c.args.found in
    let given = c.into_iter-section-iterator.ensures.into_iter_gives in
    let all = YieldsList-from_vec found.items given.0 (given.1 ∙ found.ok.0) in
    let turn = YieldsList-turn all c.loop-section.yielded _ c.loop-section.yielded_by c.next.result c.next.new.self
    c.in-Some.field-0 c.in-Some.is c.next.ensures.steps in
    let at = get_there (length c.loop-section.yielded) c.in-Some.field-0 found.items turn.0 turn.1 in
    record {
      next = tt;
      finite = tt;
      placed = rw c.put.ensures (one_placed c.args.scheme.now c.loop-section.places.items c.in-Some.field-0.section
          c.in-Some.field-0.locks c.loop-section.invariant.placed
          (c.requires.found.each (length c.loop-section.yielded) c.in-Some.field-0 at).1);
    }

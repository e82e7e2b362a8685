use Rattle.std.proofs.{Common.{◌∙◌, subst, length}, lemmas.Iterator.Adapters.{YieldsList-from_vec}}
use Rattle.std.proofs.lemmas.Iterator.Consumers.{YieldsList-turn}
use Rattle.sect_lemmas.proofs.Changed.{get_there}
use Rattle.sect_infer.specs.steps.Sharing.{AreFound}
use Rattle.sect_infer.proofs.workers.join_all.Goals as goal

pub put_all-requires-clause-found : goal.put_all-requires-clause-found
put_all-requires-clause-found g c =
    let started = c.args.started in
    let given = c.into_iter-handle-iterator.ensures.into_iter_gives in
    let all = YieldsList-from_vec started.items given.0 (given.1 ∙ started.ok.0) in
    let turn = YieldsList-turn all c.loop-handle.yielded _ c.loop-handle.yielded_by c.next.result c.next.new.self
    c.in-Some.handle c.in-Some.is c.next.ensures.steps in
    let at = get_there (length c.loop-handle.yielded) c.in-Some.handle started.items turn.0 turn.1 in
    subst (λ s. AreFound s c.in_ok-found.found.items)
    (c.requires.each (length c.loop-handle.yielded) c.in-Some.handle at) c.in_ok-found.ensures.each

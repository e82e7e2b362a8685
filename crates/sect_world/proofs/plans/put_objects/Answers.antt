use Rattle.std.proofs.Common.{◌≡◌, ◌+◌, ◌-◌, ◌<◌, length, drop, arith, sym, ap, ◌∙◌, subst}
use Rattle.sect_lemmas.proofs.Elements.{drop_next}
use Rattle.sect_emit.specs.Plan.{gathered, object_wishes}
use Rattle.sect_world.proofs.Wishing.{wishes_of_first}
use Rattle.sect_world.proofs.plans.put_objects.Goals as goal

pub loop-place-preserved : goal.loop-place-preserved
loop-place-preserved c =
    let s = c.args.store.now in
    let locals = c.args.work.now.locals in
    let locks = c.args.locks.now in
    let place = c.loop-place.place - 1 in
    let within : place < length locks = omega arith in
    let next : place + 1 ≡ c.loop-place.place = omega arith in
    let l = c.index-locks-place.result in
    let rest = drop (place + 1) locks in
    let before = subst (λ n. c.loop-place.objects.items ≡ gathered (object_wishes s locals (drop n locks))) (sym next)
    c.loop-place.invariant in
    c.in_ok-add_object.ensures (object_wishes s locals rest) before
    ∙ ap gathered (wishes_of_first s locals l rest)
    ∙ sym (ap (λ ls. gathered (object_wishes s locals ls)) (drop_next locks place l within c.index-locks-place.is))

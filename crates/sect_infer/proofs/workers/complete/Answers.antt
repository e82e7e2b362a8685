use Rattle.std.proofs.Common.{◌≡◌, ◌∙◌, ◌≤◌, [], ◌∷◌, length-append, ap, length, slice_get, Some, Option, arith}
use Rattle.std.proofs.{lemmas.Iterator.Adapters.{YieldsList-from_vec}, lemmas.Iterator.Consumers.{YieldsList-turn}}
use Rattle.sect_lemmas.proofs.Changed.{get_there}
use Rattle.sect_types.specs.{declared.declarations.limits.TheConstants.{MOST_SECTIONS}, Programs.{ProgramView}}
use Rattle.sect_types.specs.Sections.{sections_of}
use Rattle.sect_infer.specs.Sets.{LocksView}
use Rattle.sect_infer.proofs.shared.Sets.{one_inferred}
use Rattle.sect_infer.proofs.workers.complete.Goals.{in-Some-place+in_ok-push-in-Some-place}
use Rattle.sect_infer.proofs.workers.complete.Goals.{in-None-place+in_ok-infer-in-None-place+in_ok-push-in-None-place}
use Rattle.sect_infer.proofs.workers.complete.Goals as goal

pub overflow_add-section : goal.overflow_add-section
overflow_add-section g c =
    let places = c.args.places in
    let given = c.into_iter-place-iterator.ensures.into_iter_gives in
    let all = YieldsList-from_vec places.items given.0 (given.1 ∙ places.ok.0) in
    let turn = YieldsList-turn all c.loop-place.yielded _ c.loop-place.yielded_by c.next.result c.next.new.self
    c.in-Some.place c.in-Some.is c.next.ensures.steps in
    let few : length places.items ≤ MOST_SECTIONS =
    let n = ap (λ (p : ProgramView). length (sections_of p.texts)) c.program.ensures in
    let m = c.section_count-facts.ensures.count in
    omega (arith, c.requires.count, n, m, c.section_count-facts.ensures.few) in
    omega (arith, few, turn.0, c.loop-place.invariant.number)

pub loop-place-preserved : goal.loop-place-preserved
loop-place-preserved g c =
    let s = c.args.scheme.now in
    let places = c.args.places in
    let n = c.loop-place.section in
    let given = c.into_iter-place-iterator.ensures.into_iter_gives in
    let all = YieldsList-from_vec places.items given.0 (given.1 ∙ places.ok.0) in
    let turn = YieldsList-turn all c.loop-place.yielded _ c.loop-place.yielded_by c.next.result c.next.new.self
    c.in-Some.place c.in-Some.is c.next.ensures.steps in
    let at : slice_get places.items n ≡ Some c.in-Some.place = ap (slice_get places.items) c.loop-place.invariant.number
    ∙ get_there (length c.loop-place.yielded) c.in-Some.place places.items turn.0 turn.1 in
    record {
      next = tt;
      finite = tt;
      number = (let e = c.loop-place.invariant.number in
          omega (arith, e, length-append c.loop-place.yielded (c.in-Some.place ∷ [])));
      inferred = elim c.match-place.branch [
        | in-Some-place+in_ok-push-in-Some-place w ↦ rw (w.all-is, w.in_ok-push-in-Some-place.ensures.items)
            (one_inferred s n c.loop-place.all.items w.in-Some-place.locks c.loop-place.invariant.inferred
            (c.requires.each n w.in-Some-place.locks
            (at ∙ ap (λ (z : Option LocksView). Some z) w.in-Some-place.is)))
        | in-None-place+in_ok-infer-in-None-place+in_ok-push-in-None-place w ↦
            rw (w.all-is, w.in_ok-push-in-None-place.ensures.items)
            (one_inferred s n c.loop-place.all.items w.in_ok-infer-in-None-place.field-0 c.loop-place.invariant.inferred
            (λ of graph at flow. (
              w.in_ok-infer-in-None-place.ensures.locks of graph at flow,
              w.in_ok-infer-in-None-place.ensures.lawful of at,
            )))
      ];
    }

-- The next grant is the first of those that are left.
use Rattle.std.proofs.Common.{◌+◌, length, sym, ap, ◌∙◌, subst, arith, ◌++◌, drop, append_assoc, length-append}
use Rattle.std.proofs.lemmas.List.{drop_more}
use Rattle.sect_world.specs.steps.{Fits.{takes}, Taking.{CanAdvance, all_advanced, takers}}
use Rattle.sect_world.proofs.giving.take_grants.Goals as goal

pub take-requires-clause-thread : goal.take-requires-clause-thread
take-requires-clause-thread c =
    let here = drop_more c.args.grants.now c.loop-grant.grant-index _ c.loop-grant-test.true in
    (subst (λ gs. CanAdvance gs c.loop-grant.runners.items) here c.loop-grant.invariant.0).0

pub loop-grant-preserved : goal.loop-grant-preserved
loop-grant-preserved c =
    let inv = c.loop-grant.invariant in
    let i = c.loop-grant.grant-index in
    let gs = c.args.grants.now in
    let here = drop_more gs i _ c.loop-grant-test.true in (
      subst (λ rs. CanAdvance (drop (i + 1) gs) rs) (sym c.take.ensures.runners)
          (subst (λ zs. CanAdvance zs c.loop-grant.runners.items) here inv.0).1,
      ap (all_advanced (drop (i + 1) gs)) c.take.ensures.runners
          ∙ (sym (ap (λ zs. all_advanced zs c.loop-grant.runners.items) here) ∙ inv.1),
      ap (λ ts. ts ++ takes (drop (i + 1) gs)) c.take.ensures.trace
          ∙ (append_assoc c.loop-grant.trace.items _ (takes (drop (i + 1) gs))
          ∙ (sym (ap (λ zs. c.loop-grant.trace.items ++ takes zs) here) ∙ inv.2)),
      ap (λ ts. ts ++ takers (drop (i + 1) gs)) c.push_reserved.ensures.items
          ∙ (append_assoc c.loop-grant.granted.items _ (takers (drop (i + 1) gs))
          ∙ (sym (ap (λ zs. c.loop-grant.granted.items ++ takers zs) here) ∙ inv.3)),
      omega (arith, inv.4, c.take.ensures.room, c.loop-grant-test.true),
      (let more = ap length c.push_reserved.ensures.items ∙ length-append c.loop-grant.granted.items _ in
          omega (
            arith,
            inv.5,
            more,
            c.push_reserved.ensures.capacity,
            c.loop-grant-test.true,
            c.push_reserved.new.self.ok,
            c.loop-grant.granted.ok,
          )),
      c.push_reserved.ensures.capacity ∙ inv.6,
    )

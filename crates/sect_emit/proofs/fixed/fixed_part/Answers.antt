use Rattle.std.proofs.Common.{◌≡◌, ◌+◌, ◌-◌, ◌<◌, length, drop, arith, sym, subst}
use Rattle.sect_lemmas.proofs.{Elements.{drop_next}, Membership.{Has-get_or}}
use Rattle.sect_lemmas.specs.Lists.{Has}
use Rattle.sect_emit.specs.Plan.{IsFixedPart}
use Rattle.sect_emit.proofs.Adding.{one_more}
use Rattle.sect_emit.proofs.fixed.fixed_part.Goals as goal

pub add_lock-requires : goal.add_lock-requires
add_lock-requires c =
    let locks = c.args.locks.now in
    let place = c.loop-place.place - 1 in
    let within : place < length locks = omega arith in
    c.requires c.index-locks-place.result
    (subst (Has locks) (sym c.index-locks-place.is) (Has-get_or locks place c.index-locks-place.result within))

pub loop-place-preserved : goal.loop-place-preserved
loop-place-preserved c =
    let s = c.args.scheme.now in
    let locks = c.args.locks.now in
    let place = c.loop-place.place - 1 in
    let within : place < length locks = omega arith in
    let next : place + 1 ≡ c.loop-place.place = omega arith in
    let l = c.index-locks-place.result in
    let part = subst (λ n. IsFixedPart s (drop n locks) c.loop-place.part.items) (sym next) c.loop-place.invariant in
    subst (λ ls. IsFixedPart s ls c.add_lock.new.part.items)
    (sym (drop_next locks place l within c.index-locks-place.is))
    (one_more s l (drop (place + 1) locks) c.loop-place.part.items c.add_lock.new.part.items c.in_ok-add_lock.ensures
    part)

use Rattle.std.proofs.{Common.{◌∙◌, rules, sym, subst, arith}, lemmas.Option.{get_or_from_slice_get}}
use Rattle.std.proofs.lemmas.Slice.Zip.{AllZip-long}
use Rattle.sect_lemmas.proofs.Places.{at_of}
use Rattle.sect_check.specs.Names.{Denotes}
use Rattle.sect_check.proofs.Knowing.{known_at}
use Rattle.sect_check.proofs.claiming.next_lock.Goals as goal

pub bounds-known-place : goal.bounds-known-place
bounds-known-place c =
    let n = c.args.naming.now in
    let long = AllZip-long (Denotes n.scheme n.thread) c.args.known.named.now c.args.known.locks.now c.requires in
    omega (arith, long, c.in-Some.ensures.within)

pub offset_bounds-known-place : goal.offset_bounds-known-place
offset_bounds-known-place c = let within = bounds-known-place c in search (rules, within)

pub returns-in_ok-try_clone-in-Some : goal.returns-in_ok-try_clone-in-Some
returns-in_ok-try_clone-in-Some c =
    let n = c.args.naming.now in
    let named = c.args.known.named.now in
    let locks = c.args.known.locks.now in
    let place = c.in-Some.place in
    let long = AllZip-long (Denotes n.scheme n.thread) named locks c.requires in
    let there = at_of locks place (omega (arith, long, c.in-Some.ensures.within)) in
    let same = c.in_ok-try_clone-in-Some.ensures ∙ get_or_from_slice_get locks place there.0 _ there.1 in
    subst (Denotes n.scheme n.thread c.args.named.now) (sym same)
    (known_at (Denotes n.scheme n.thread) named locks place c.args.named.now there.0 c.requires
    c.in-Some.ensures.there there.1)

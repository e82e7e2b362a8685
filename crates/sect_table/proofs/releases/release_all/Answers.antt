use Rattle.std.proofs.Common.{rules, arith, ◌≡◌, ◌<◌, length, vec_len, sym, ◌∙◌, refl}
use Rattle.sect_table.specs.Contents.{held_by}
use Rattle.sect_table.specs.steps.Letting.{Releasing}
use Rattle.sect_table.proofs.Releasing.{releasing_first, first_some, first_known, first_apart, FirstOut, first_out}
use Rattle.sect_table.proofs.Releasing.{releasing_on}
use Rattle.sect_table.proofs.releases.release_all.Goals as goal

pub loop-hold-init : goal.loop-hold-init
loop-hold-init c =
    record {
      releasing = releasing_first c.args.thread (length c.args.arena.now.held) c.args.arena.now _ c.requires.kept
          c.requires.waits (omega arith) (search rules);
      capacity = refl;
    }

pub first_number-at-requires-clause-some : goal.first_number-at-requires-clause-some
first_number-at-requires-clause-some c =
    first_some (held_by c.loop-hold.arena c.args.thread) c.in-Some.hold (sym c.in-Some.ensures)

pub release_first-requires-clause-known : goal.release_first-requires-clause-known
release_first-requires-clause-known c =
    let lt = first_known c.loop-hold.arena c.args.thread c.in-Some.hold c.loop-hold.invariant.releasing.sound
    (sym c.in-Some.ensures) in
    let number = c.first_number-at.ensures c.in-Some.hold (sym c.in-Some.ensures) in
    omega arith

pub release_first-requires-clause-apart : goal.release_first-requires-clause-apart
release_first-requires-clause-apart c =
    first_apart c.loop-hold.arena c.in-Some.hold.key c.loop-hold.invariant.releasing.sound

out : (c : goal.After-let_in-arg-in-Some-1)
    → FirstOut c.args.thread c.in-Some.hold.key c.loop-hold.arena c.release_first.new.self
out c =
    let r = c.loop-hold.invariant.releasing in
    let count = r.count in
    let lt = c.requires.thread in
    first_out c.args.thread c.in-Some.hold c.loop-hold.arena c.release_first.new.self r.sound (omega arith)
    (sym c.in-Some.ensures) c.release_first.ensures.held c.release_first.ensures.entries

pub let_in-requires-clause-sound : goal.let_in-requires-clause-sound
let_in-requires-clause-sound c = (out c).sound

pub let_in-requires-clause-number : goal.let_in-requires-clause-number
let_in-requires-clause-number c = c.first_number-at.ensures c.in-Some.hold (sym c.in-Some.ensures) ∙ sym (out c).number

pub let_in-requires-clause-known : goal.let_in-requires-clause-known
let_in-requires-clause-known c =
    let lt = first_known c.loop-hold.arena c.args.thread c.in-Some.hold c.loop-hold.invariant.releasing.sound
    (sym c.in-Some.ensures) in
    let number = c.first_number-at.ensures c.in-Some.hold (sym c.in-Some.ensures) in
    let count = (out c).count in
    omega arith

pub let_in-requires-clause-room : goal.let_in-requires-clause-room
let_in-requires-clause-room c =
    let n : length c.loop-hold.grants.items ≡ vec_len c.loop-hold.grants = search rules in
    let fits = c.loop-hold.invariant.releasing.fits in
    let capacity = c.loop-hold.invariant.capacity in
    let room = c.requires.room in
    let same = (out c).waiting in
    omega arith

outcome : (c : goal.After-let_in)
    → Releasing c.args.thread (length c.args.arena.now.held) c.args.arena.now c.let_in.new.arena
    c.let_in.new.grants.items × (length (held_by c.let_in.new.arena c.args.thread) < length
    (held_by c.loop-hold.arena c.args.thread))
outcome c =
    let e = c.let_in.ensures in
    let n : length c.let_in.new.grants.items ≡ vec_len c.let_in.new.grants = search rules in
    let m : length c.loop-hold.grants.items ≡ vec_len c.loop-hold.grants = search rules in
    let fits = c.loop-hold.invariant.releasing.fits in
    let count = c.loop-hold.invariant.releasing.count in
    let lt = c.requires.thread in
    let freed : FirstOut c.args.thread c.in-Some.hold.key c.loop-hold.arena c.release_first.new.self =
    first_out c.args.thread c.in-Some.hold c.loop-hold.arena c.release_first.new.self
    c.loop-hold.invariant.releasing.sound (omega arith) (sym c.in-Some.ensures) c.release_first.ensures.held
    c.release_first.ensures.entries in
    let same = freed.waiting in
    let few = e.few in
    releasing_on c.args.thread _ c.args.arena.now c.loop-hold.arena c.release_first.new.self c.let_in.new.arena
    c.loop-hold.grants.items c.let_in.new.grants.items c.in-Some.hold
    c.loop-hold.invariant.releasing c.requires.thread (sym c.in-Some.ensures) c.release_first.ensures.held
    c.release_first.ensures.entries c.release_first.ensures.spare
    e.sound e.blocked e.held e.entries e.spare e.grants (omega arith)

pub loop-hold-preserved : goal.loop-hold-preserved
loop-hold-preserved c = record {
  releasing = (outcome c).0;
  capacity = c.let_in.ensures.capacity
      ∙ c.loop-hold.invariant.capacity;
}

pub loop-hold-smaller : goal.loop-hold-smaller
loop-hold-smaller c = (outcome c).1

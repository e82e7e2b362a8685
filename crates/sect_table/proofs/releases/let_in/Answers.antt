use Rattle.std.proofs.Common.{rules, arith, ◌≡◌, ◌+◌, ◌<◌, length, vec_len, sym, ◌∙◌, ap, subst, Some, true}
use Rattle.sect_table.specs.{declared.claims.Claim.{Claim}, Contents.{Entry, entry_of, claim_of, may_join}}
use Rattle.sect_table.specs.Sound.{waiting_count}
use Rattle.sect_table.specs.steps.Letting.{LettingIn}
use Rattle.sect_table.proofs.Passing.{letting_on, letting_done, nobody_let, first_stopped, room_left}
use Rattle.sect_table.proofs.releases.let_in.Goals as goal

pub push_reserved-requires : goal.push_reserved-requires
push_reserved-requires c =
    let inv = c.loop-waiter.invariant in
    let n : length c.loop-waiter.grants.items ≡ vec_len c.loop-waiter.grants = search rules in
    let capacity = inv.capacity in
    let room = c.requires.room in
    let less : length c.loop-waiter.grants.items < vec_len c.args.grants.now + waiting_count c.args.arena.now.entries =
    room_left c.args.key _ c.loop-waiter.arena.entries (length c.loop-waiter.grants.items) c.in-Some.waiter
    (sym c.in-Some.ensures) inv.letting.fits in
    omega arith

outcome : (c : goal.After-push_reserved)
    → LettingIn c.args.key c.args.at (vec_len c.args.grants.now + waiting_count c.args.arena.now.entries)
    c.args.arena.now c.grant_first.new.self c.args.grants.now.items c.push_reserved.new.self.items
    × (length (entry_of c.args.key c.grant_first.new.self.entries).waiters < length
    (entry_of c.args.key c.loop-waiter.arena.entries).waiters)
outcome c =
    let r = c.grant_first.result in
    let claim : Claim = claim_of r.thread r.mode in
    let both : Some c.in-Some.waiter ≡ Some claim = c.in-Some.ensures ∙ c.grant_first.ensures.first in
    let same : c.in-Some.waiter ≡ claim = (cc) in
    let joins : may_join (entry_of c.args.key c.loop-waiter.arena.entries).holders c.in-Some.waiter.thread
    c.in-Some.waiter.mode ≡ true = sym c.lets_in.ensures ∙ c.if-not-lets_in.false in
    letting_on c.args.key c.args.at _ _ c.loop-waiter.arena _ c.loop-waiter.grants.items claim r c.grant_first.new.self
    c.push_reserved.new.self.items c.loop-waiter.invariant.letting
    c.grant_first.ensures.first (subst
    (λ (z : Claim). may_join (entry_of c.args.key c.loop-waiter.arena.entries).holders z.thread z.mode ≡ true) same
    joins)
    (ap (λ z. record { thread = r.thread; key = z; mode = r.mode }) c.grant_first.ensures.key)
    c.grant_first.ensures.held c.grant_first.ensures.entries c.grant_first.ensures.spare c.push_reserved.ensures.items

pub loop-waiter-preserved : goal.loop-waiter-preserved
loop-waiter-preserved c = record {
  letting = (outcome c).0;
  capacity = c.push_reserved.ensures.capacity
      ∙ c.loop-waiter.invariant.capacity;
}

pub loop-waiter-smaller : goal.loop-waiter-smaller
loop-waiter-smaller c = (outcome c).1

pub returns-then-not-lets_in-clause-entries : goal.returns-then-not-lets_in-clause-entries
returns-then-not-lets_in-clause-entries c =
    let e : Entry = entry_of c.args.key c.loop-waiter.arena.entries in
    letting_done c.args.key c.args.at _ c.args.arena.now c.loop-waiter.arena _ _ c.loop-waiter.invariant.letting
    (first_stopped e.holders e.waiters c.in-Some.waiter (sym c.in-Some.ensures)
    (sym c.lets_in.ensures ∙ c.if-not-lets_in.true))

pub returns-in_default-clause-entries : goal.returns-in_default-clause-entries
returns-in_default-clause-entries c =
    let e : Entry = entry_of c.args.key c.loop-waiter.arena.entries in
    letting_done c.args.key c.args.at _ c.args.arena.now c.loop-waiter.arena _ _ c.loop-waiter.invariant.letting
    (nobody_let e.holders e.waiters (sym c.in_default.ensures))

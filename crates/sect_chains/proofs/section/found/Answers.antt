use Rattle.std.proofs.{Common.{◌≡◌, ◌<◌, ◌+◌, length, take, map, subst, sym, arith}, lemmas.List.{take_all}}
use Rattle.std.specs.List.{AllZip}
use Rattle.sect_lemmas.specs.Lists.{Has}
use Rattle.sect_lemmas.proofs.{Membership.{Has-get_or}, Places.{zip_more}}
use Rattle.sect_names.specs.Chains.{link}
use Rattle.sect_chains.specs.{Chains.{IsFirstChain}, Numbered.{links_by}}
use Rattle.sect_chains.proofs.{Firsts.{first_chain}, Growing.{kept_numbers, kept_trail}, Trails.{go_back}}
use Rattle.sect_chains.proofs.{Linking.{linked_more, all_has_more}, Following.{link_back, chain_is}}
use Rattle.sect_chains.specs.steps.{Trails.{AreFromEntry}, Working.{links_of, nexts_of, kept_of}}
use Rattle.sect_chains.specs.steps.Following.{chain_from}
use Rattle.sect_chains.proofs.section.found.Goals as goal

pub starts_of-requires : goal.starts_of-requires
starts_of-requires c =
    let a = c.args.section in
    let trail = c.in_ok-trail.trail in
    kept_numbers a.scheme.now a.thread a.last.now a.flow.now trail.numbering (kept_of trail) c.in_ok-trail.ensures.work

pub start_of-requires-clause-numbers : goal.start_of-requires-clause-numbers
start_of-requires-clause-numbers c =
    let a = c.args.section in
    let trail = c.in_ok-trail.trail in
    kept_numbers a.scheme.now a.thread a.last.now a.flow.now trail.numbering (kept_of trail) c.in_ok-trail.ensures.work

pub start_of-requires-clause-apart : goal.start_of-requires-clause-apart
start_of-requires-clause-apart c = c.in_ok-trail.ensures.work.numbering.apart

pub start_of-requires-clause-there : goal.start_of-requires-clause-there
start_of-requires-clause-there c =
    let a = c.args.section in
    let trail = c.in_ok-trail.trail in
    let locks = c.args.locks.now in
    let l = c.lock-item.result in
    let within : c.loop-lock.lock-index < length locks = omega arith in
    let has = subst (Has locks) (sym c.lock-item.is) (Has-get_or locks c.loop-lock.lock-index l within) in
    let top = c.in_ok-trail.ensures.all (link 0 l) (c.requires.tops.trails l has) in
    let needed = kept_trail a.scheme.now a.thread a.last.now a.flow.now trail.numbering
    (kept_of trail) c.in_ok-trail.ensures.work (link 0 top.0) top.1 in
    subst (λ big. Has (links_of trail.numbering.keys trail.steps.items) (link 0 big))
    (c.requires.tops.alone l top.0 has needed top.2) top.1

pub loop-lock-init : goal.loop-lock-init
loop-lock-init c = rw c.in_ok-chains.ensures.items (record { chains = tt; there = λ i none. absurd none })

pub loop-lock-preserved : goal.loop-lock-preserved
loop-lock-preserved c =
    let a = c.args.section in
    let s = a.scheme.now in
    let g = a.flow.now in
    let locks = c.args.locks.now in
    let l = c.lock-item.result in
    let trail = c.in_ok-trail.trail in
    let keys = trail.numbering.keys in
    let kept = trail.steps.items in
    let within : c.loop-lock.lock-index < length locks = omega arith in
    let searched = c.in_ok-trail.ensures in
    let has = subst (Has locks) (sym c.lock-item.is) (Has-get_or locks c.loop-lock.lock-index l within) in
    let old = c.loop-lock.chains.items in
    let start = c.start_of.result in
    let back = link_back keys kept (go_back s a.thread a.last.now g (links_of keys kept) (nexts_of kept)
    searched.work.leads) in
    let entry : AreFromEntry (links_of keys kept) (nexts_of kept) l (links_by keys (chain_from kept start)) =
    (start, c.start_of.ensures.first, chain_is kept back keys start c.start_of.ensures.within) in
    let chain = first_chain s a.thread a.last.now g (links_of keys kept) (nexts_of kept) searched.work.leads
    searched.sorted c.requires.respects searched.generated searched.carried searched.work.apart l
    (λ big. c.requires.tops.alone l big has) (links_by keys (chain_from kept start)) entry in
    let first = IsFirstChain s a.thread a.last.now g in
    rw c.in_ok-push.ensures.items (record {
      chains = subst (AllZip first (take (c.loop-lock.lock-index + 1) locks))
          (sym (linked_more (chain_from kept) keys old start))
          (zip_more first locks c.loop-lock.lock-index l (map (links_by keys) (map (chain_from kept) old))
          (links_by keys (chain_from kept start)) within c.lock-item.is c.loop-lock.invariant.chains chain);
      there = all_has_more (λ i. i < length kept) old start c.loop-lock.invariant.there c.start_of.ensures.within;
    })

pub of-requires : goal.of-requires
of-requires c =
    let a = c.args.section in
    let trail = c.in_ok-trail.trail in
    let keys = trail.numbering.keys in
    let kept = trail.steps.items in
    record {
      back = link_back keys kept (go_back a.scheme.now a.thread a.last.now a.flow.now (links_of keys kept)
          (nexts_of kept) c.in_ok-trail.ensures.work.leads);
      locks = kept_numbers a.scheme.now a.thread a.last.now a.flow.now trail.numbering (kept_of trail)
          c.in_ok-trail.ensures.work;
      there = c.loop-lock.invariant.there;
    }

pub returns : goal.returns
returns c =
    let a = c.args.section in
    let locks = c.args.locks.now in
    let all : take c.loop-lock.lock-index locks ≡ locks = take_all c.loop-lock.lock-index locks
    (omega (arith, c.loop-lock-test.false)) in
    let trail = c.in_ok-trail.trail in
    let linked = map (links_by trail.numbering.keys) (map (chain_from trail.steps.items) c.loop-lock.chains.items) in
    let first = IsFirstChain a.scheme.now a.thread a.last.now a.flow.now in
    rw (c.of.ensures.keys, c.of.ensures.chains)
    (subst (λ ls. AllZip first ls linked) all c.loop-lock.invariant.chains)

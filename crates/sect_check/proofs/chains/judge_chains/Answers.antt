use Rattle.std.proofs.Common.{◌≡◌, ◌≤◌, List, Some, length, ap, sym, subst, arith, refl}
use Rattle.std.proofs.{lemmas.Bool.{ltb-false, ltb-true}, lemmas.Option.{slice_get_read}}
use Rattle.std.specs.Prelude.{slice_get}
use Rattle.sect_names.specs.{declared.lock.Lock.{Lock}, Needed.{end_locks}}
use Rattle.sect_check.specs.declared.claims.ChainClaim.{ChainClaim}
use Rattle.sect_check.proofs.Chaining.{numbers_below, chain_passed, chains_more, chains_done, no_others, stray_breaks}
use Rattle.sect_check.proofs.chains.judge_chains.Goals as goal

pub judge_chain-requires-clause-below : goal.judge_chain-requires-clause-below
judge_chain-requires-clause-below c =
    let section = c.args.section in
    let within : c.loop-number.number ≤ length c.args.claims.now.entry =
    omega (arith, c.loop-number-test.true, ap length c.as_slice-entry.ensures) in
    numbers_below section.scheme.now section.thread (end_locks section.locking) section.flow.now c.args.claims.now
    c.loop-number.number within c.loop-number.invariant

pub returns-in_err-judge_chain : goal.returns-in_err-judge_chain
returns-in_err-judge_chain c =
    let section = c.args.section in
    let entry = c.as_slice-entry.result.now in
    let n = c.loop-number.number in
    let l = c.index-entry-number.result in
    let at = subst (λ (ls : List Lock). slice_get ls n ≡ Some l) c.as_slice-entry.ensures
    (slice_get_read entry (length entry) n l refl c.loop-number-test.true c.index-entry-number.is) in
    chain_passed section.scheme.now section.thread (end_locks section.locking) section.flow.now c.args.claims.now n l at
    c.loop-number.invariant (Unit {0})
    c.from_residual.result c.in_err-judge_chain.field-0.0 c.from_residual.ensures.1 c.in_err-judge_chain.ensures

pub loop-number-preserved : goal.loop-number-preserved
loop-number-preserved c =
    let section = c.args.section in
    let entry = c.as_slice-entry.result.now in
    let n = c.loop-number.number in
    let l = c.index-entry-number.result in
    let at = subst (λ (ls : List Lock). slice_get ls n ≡ Some l) c.as_slice-entry.ensures
    (slice_get_read entry (length entry) n l refl c.loop-number-test.true c.index-entry-number.is) in
    chains_more section.scheme.now section.thread (end_locks section.locking) section.flow.now c.args.claims.now n l at
    c.loop-number.invariant c.in_ok-judge_chain.ensures

pub returns-in-None : goal.returns-in-None
returns-in-None c =
    let section = c.args.section in
    let s = section.scheme.now in
    let last = end_locks section.locking in
    let claims = c.args.claims.now in
    let n = c.loop-number.number in
    let past : length claims.entry ≤ n = omega (arith, c.loop-number-test.false, ap length c.as_slice-entry.ensures) in
    let all = ltb-false (length c.as_slice-entry.result.now) (length c.as_slice.result.now)
    (sym c.in-None.ensures.lookup.0) in (
      chains_done s section.thread last section.flow.now claims n past c.loop-number.invariant,
      no_others s section.thread last section.flow.now claims n past c.loop-number.invariant c.requires.rise
          (omega (arith, all, ap length c.as_slice-entry.ensures, ap length c.as_slice.ensures)),
    )

pub returns-in-Some : goal.returns-in-Some
returns-in-Some c =
    let section = c.args.section in
    let claims = c.args.claims.now in
    let n = c.loop-number.number in
    let chain = c.in-Some.chain.now in
    let entry = c.as_slice-entry.result.now in
    let chains = c.as_slice.result.now in
    let look = c.in-Some.ensures.lookup in
    let past : length claims.entry ≤ n = omega (arith, c.loop-number-test.false, ap length c.as_slice-entry.ensures) in
    let found = slice_get_read chains (length chains) (length entry) chain refl
    (ltb-true (length entry) (length chains) (sym look.0)) look.1 in
    let at = subst (λ (xs : List ChainClaim). slice_get xs (length claims.entry) ≡ Some chain) c.as_slice.ensures
    (subst (λ k. slice_get chains k ≡ Some chain) (ap length c.as_slice-entry.ensures) found) in
    stray_breaks section.scheme.now section.thread (end_locks section.locking) section.flow.now claims n past
    c.loop-number.invariant c.requires.rise chain at
